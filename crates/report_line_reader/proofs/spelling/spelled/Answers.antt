use Rattle.report_line_reader.proofs.SpellingLemmas.{spelled-more, spelled-none, spelled-all}
use Rattle.report_line_reader.proofs.spelling.spelled.Goals as goal

pub returns-in_err-number : goal.returns-in_err-number
returns-in_err-number c = rw c.from_residual.ensures (spelled-none c.args.bytes.now c.loop-place.place c.loop-place.number c.loop-place.invariant c.loop-place-test.true c.in_err-number.ensures)

pub loop-place-preserved : goal.loop-place-preserved
loop-place-preserved c =
    let digit = c.in_ok-number.ensures in
    spelled-more c.args.bytes.now c.loop-place.place c.loop-place.number c.in_ok-number.number c.loop-place.invariant c.loop-place-test.true digit.0 digit.1 digit.2

pub returns : goal.returns
returns c = spelled-all c.args.bytes.now c.loop-place.place c.loop-place.number c.loop-place.invariant c.loop-place-test.false
