use Rattle.std.proofs.Common.{◌≡◌}
use Rattle.world_runs.proofs.RecordingLemmas.{StoresAdded}
use Rattle.world_runs.proofs.recording.add_stores.Given as goal

abbrev pub invariant-loop-mote : goal.invariant-loop-mote
invariant-loop-mote l = record {
  node : l.node ≡ l.mote-index;
  added : StoresAdded l.mote-index l.initial.records l.records l.motes;
}
