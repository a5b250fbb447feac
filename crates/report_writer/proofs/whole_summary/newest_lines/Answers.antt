use Rattle.std.proofs.Common.{ℕ, ap, ◌∙◌}
use Rattle.std.proofs.Math.Nat.{le_antisymm}
use Rattle.std.specs.Prelude.{flat_map}
use Rattle.mate_files.proofs.PenLemmas.{Prints-nil, Prints-by}
use Rattle.mate_journal.specs.Tidy.{below}
use Rattle.report_writer.specs.Brief.{newest_line}
use Rattle.report_writer.proofs.BriefLemmas.{Prints-below}
use Rattle.report_writer.proofs.whole_summary.newest_lines.Goals as goal

pub loop-handler-init : goal.loop-handler-init
loop-handler-init g c = Prints-nil

pub loop-handler-preserved : goal.loop-handler-preserved
loop-handler-preserved g c = Prints-below (newest_line c.args.desc.now c.args.logs.now) c.loop-handler.handler c.loop-handler.invariant c.newest_line.ensures

pub returns : goal.returns
returns g c =
    Prints-by (ap (λ (k : ℕ). flat_map (newest_line c.args.desc.now c.args.logs.now) (below k)) (le_antisymm c.loop-handler.auto.handler-end c.loop-handler-test.false ∙ c.len-handler-end.ensures.value))
    c.loop-handler.invariant
