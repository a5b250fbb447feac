use Rattle.std.proofs.Common.{◌<◌, ◌^◌, sym, ◌∙◌, rules}
use Rattle.report_line_reader.proofs.SpellingLemmas.{spelled-more}
use Rattle.report_line_reader.proofs.numbers.leading.Goals as goal

pub loop-place-preserved : goal.loop-place-preserved
loop-place-preserved c =
    let small : c.with_digit-number.result < 2 ^ 64 = search rules in
    spelled-more c.args.bytes.now c.loop-place.place c.loop-place.number c.with_digit-number.result c.loop-place.invariant c.loop-place-test.true
    (sym c.is_ascii_digit.ensures.value ∙ c.if-not-is_ascii_digit.false) c.with_digit-number.ensures small
