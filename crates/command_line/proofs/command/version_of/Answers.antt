use Rattle.std.proofs.Common.{◌≡◌, ap, sym, ◌∙◌, true}
use Rattle.command_line.specs.Commands.{is_counting}
use Rattle.command_line.proofs.VersionLemmas.{parsed_version, unparsed_version}
use Rattle.command_line.proofs.command.version_of.Goals as goal

pub returns-in-Ok-clause-low : goal.returns-in-Ok-clause-low
returns-in-Ok-clause-low c =
    let h : is_counting c.args.word.now ≡ true = ap is_counting (sym c.as_bytes.ensures.value) ∙ sym c.if-not-is_counting.ensures in
    (parsed_version c.args.word.now c.parse.result c.in-Ok.version h c.parse.ensures.value.0 c.in-Ok.is).1

pub returns-in-Err-clause-value : goal.returns-in-Err-clause-value
returns-in-Err-clause-value c =
    let h : is_counting c.args.word.now ≡ true = ap is_counting (sym c.as_bytes.ensures.value) ∙ sym c.if-not-is_counting.ensures in
    sym (unparsed_version c.args.word.now c.parse.result c.in-Err.field-0 h c.parse.ensures.value.0 c.in-Err.is)
