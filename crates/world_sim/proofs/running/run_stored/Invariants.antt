use Rattle.std.proofs.Common.{◌≡◌, length}
use Rattle.mate_journal.specs.Log.{IsEmpty}
use Rattle.world_run_laws.specs.Coming.{code_world}
use Rattle.world_state.specs.Motes.{plain_effect}
use Rattle.world_state.specs.Keeping.{IsWhole}
use Rattle.world_state.specs.Running.{StandsAfter}
use Rattle.world_sim.proofs.running.run_stored.Given as goal

abbrev pub invariant-loop-events : goal.invariant-loop-events
invariant-loop-events l = record {
  stands : StandsAfter (code_world l.desc l.world l.programs) l.events l.sim;
  empty : IsEmpty l.room;
  plain : l.effect ≡ plain_effect;
  logs : length l.logs ≡ l.world.nodes;
  whole : IsWhole l.sim;
}
