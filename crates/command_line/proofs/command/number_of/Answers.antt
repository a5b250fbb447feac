use Rattle.std.proofs.Common.{◌≡◌, ap, sym, ◌∙◌, true, false, codes}
use Rattle.std.specs.Str.{bytes_eq}
use Rattle.command_line.specs.Commands.{is_counting}
use Rattle.command_line.proofs.VersionLemmas.{parsed_number, unparsed_number}
use Rattle.command_line.proofs.command.number_of.Goals as goal

pub returns-in-Err : goal.returns-in-Err
returns-in-Err c =
    let other : bytes_eq c.args.word.now (codes "0") ≡ false = sym c.if-eq.ensures in
    let h : is_counting c.args.word.now ≡ true = ap is_counting (sym c.as_bytes.ensures.value) ∙ sym c.if-not-is_counting.ensures in
    sym (unparsed_number c.args.word.now c.parse.result c.in-Err.field-0 other h c.parse.ensures.value.0 c.in-Err.is)
