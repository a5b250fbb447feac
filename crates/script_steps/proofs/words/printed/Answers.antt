use Rattle.std.proofs.Common.{◌≡◌, true, sym, ◌∙◌}
use Rattle.std.specs.List.{list_all}
use Rattle.script_steps.specs.Words.{is_printable}
use Rattle.script_steps.proofs.NumberLemmas.{IsUtf8-printable}
use Rattle.script_steps.proofs.words.printed.Goals as goal

pub unreachable-requires : goal.unreachable-requires
unreachable-requires c =
    let printable : list_all is_printable c.args.word.now ≡ true = sym c.are_printable.ensures ∙ c.if-not-are_printable.false in
    c.in_default.ensures.cases.0 (IsUtf8-printable c.args.word.now printable)
