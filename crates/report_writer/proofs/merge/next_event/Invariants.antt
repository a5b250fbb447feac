use Rattle.std.proofs.Common.{ℕ, ◌<◌}
use Rattle.std.specs.Prelude.{IfSome}
use Rattle.report_writer.specs.Text.{events_end}
use Rattle.report_writer.specs.Progress.{IsGreatest}
use Rattle.report_writer.proofs.MergeLemmas.{LeftUpTo}
use Rattle.report_writer.proofs.merge.next_event.Given as goal

abbrev pub invariant-loop-node : goal.invariant-loop-node
invariant-loop-node l = record {
  first : IsGreatest l.next (LeftUpTo l.report l.air l.cursors l.node);
  end : IfSome l.next (λ (event : ℕ). event < events_end l.report);
}
