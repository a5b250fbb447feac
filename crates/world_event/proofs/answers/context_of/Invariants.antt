use Rattle.std.proofs.Common.{◌≤◌}
use Rattle.mate_journal.specs.WellFormed.{IsWaiting}
use Rattle.node_open.specs.View.{heard_of}
use Rattle.journal_laws.specs.Waiting.{WaitApart}
use Rattle.world_event.proofs.answers.context_of.Given as goal

abbrev pub invariant-loop-ctx : goal.invariant-loop-ctx
invariant-loop-ctx l = WaitApart (heard_of l.node) → IsWaiting (heard_of l.node) l.inv → l.ctx ≤ ((heard_of l.node).invocations l.inv).context.0
