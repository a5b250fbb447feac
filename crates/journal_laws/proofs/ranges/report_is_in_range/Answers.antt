use Rattle.std.proofs.Common.{ℕ, ◌<◌, subst}
use Rattle.std.specs.Prelude.{All, ◌^◌}
use Rattle.mate_journal.specs.Ranges.{HasLogRanges, HasAiredRanges}
use Rattle.journal_laws.proofs.ranges.report_is_in_range.Goals as goal

pub returns : goal.returns
returns c = record {
  nodes = subst (All HasLogRanges) c.nodes.ensures c.logs_are_in_range.ensures;
  air = subst (All HasAiredRanges) c.air.ensures c.airs_are_in_range.ensures;
  events = subst (λ (n : ℕ). n < 2 ^ 64) c.events-events.ensures c.events-events.type_inv;
}
