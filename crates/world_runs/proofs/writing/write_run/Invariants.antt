use Rattle.std.proofs.Common.{◌≡◌}
use Rattle.mate_journal.specs.Log.{IsEmpty}
use Rattle.world_run_laws.specs.Coming.{code_world}
use Rattle.world_state.specs.Motes.{plain_effect}
use Rattle.world_state.specs.Ranging.{AreInRange}
use Rattle.world_state.specs.Running.{StandsAfter}
use Rattle.world_state.specs.Telling.{LogsAreKept}
use Rattle.world_runs.specs.Recording.{IsRecorded, has_record}
use Rattle.world_runs.specs.Writing.{HasWrittenNow}
use Rattle.world_runs.proofs.writing.write_run.Given as goal

abbrev pub invariant-loop-events : goal.invariant-loop-events
invariant-loop-events g l = record {
  stands : StandsAfter (code_world l.desc l.world l.programs) l.events l.sim;
  kept : LogsAreKept l.sim.motes.items;
  empty : IsEmpty l.room;
  plain : l.effect ≡ plain_effect;
  written : HasWrittenNow l.desc l.sim (g.S.Sink.written l.fn.out) (g.S.Sink.faults l.fn.out) (g.S.Sink.written l.out) (g.S.Sink.faults l.out);
  recorded : IsRecorded l.records l.sim;
  ranges : AreInRange l.sim;
  same : has_record l.records ≡ has_record l.fn.records;
}
