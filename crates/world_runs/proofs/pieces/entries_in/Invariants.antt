use Rattle.std.proofs.Common.{◌≡◌, length, take}
use Rattle.std.specs.Prelude.{sum_by}
use Rattle.mate_journal.specs.Log.{Log}
use Rattle.world_state.specs.Reporting.{mote_logs}
use Rattle.world_runs.proofs.pieces.entries_in.Given as goal

abbrev pub invariant-loop-mote : goal.invariant-loop-mote
invariant-loop-mote l = l.count ≡ sum_by (λ (x : Log). length x.entries) (mote_logs (take l.mote-index l.motes))
