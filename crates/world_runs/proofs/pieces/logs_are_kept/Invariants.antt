use Rattle.std.proofs.Common.{take}
use Rattle.world_state.specs.Telling.{LogsAreKept}
use Rattle.world_runs.proofs.pieces.logs_are_kept.Given as goal

abbrev pub invariant-loop-mote : goal.invariant-loop-mote
invariant-loop-mote l = LogsAreKept (take l.mote-index l.motes)
