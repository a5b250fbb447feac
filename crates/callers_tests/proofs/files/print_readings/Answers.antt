-- Each turn prints one more line, and the last one all.
use Rattle.mate_files.proofs.PenLemmas.{Prints-all, Prints-next, Puts-finished}
use Rattle.callers_tests.proofs.files.print_readings.Invariants.{line}
use Rattle.callers_tests.proofs.files.print_readings.Goals as goal

pub loop-reading-preserved : goal.loop-reading-preserved
loop-reading-preserved g c =
    Prints-next line _ _ _ c.loop-reading-test.true c.loop-reading.invariant c.print_line.ensures

pub returns : goal.returns
returns g c = Puts-finished c.new-pen.ensures c.finish.ensures
    (Prints-all line _ _ c.loop-reading-test.false c.loop-reading.invariant)
