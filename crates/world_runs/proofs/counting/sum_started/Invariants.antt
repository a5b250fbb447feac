use Rattle.std.proofs.Common.{◌≡◌, length}
use Rattle.mate_journal.specs.Log.{IsEmpty}
use Rattle.world_run_laws.specs.Coming.{code_world}
use Rattle.world_state.specs.Motes.{plain_effect}
use Rattle.world_state.specs.Ranging.{AreInRange}
use Rattle.world_state.specs.Running.{StandsAfter}
use Rattle.world_state.specs.Telling.{LogsAreKept}
use Rattle.world_runs.specs.Counting.{IsTallied, IsSmallTally}
use Rattle.world_runs.proofs.counting.sum_started.Given as goal

abbrev pub invariant-loop-events : goal.invariant-loop-events
invariant-loop-events l = record {
  stands : StandsAfter (code_world l.desc l.world l.programs) l.events l.sim;
  kept : LogsAreKept l.sim.motes.items;
  empty : IsEmpty l.room;
  plain : l.effect ≡ plain_effect;
  ranges : AreInRange l.sim;
  counted : IsTallied (length l.desc.handlers.items) l.tally l.sim;
  small : IsSmallTally l.tally;
}
