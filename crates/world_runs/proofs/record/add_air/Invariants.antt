use Rattle.std.proofs.Common.{◌≡◌, ◌++◌, length, take}
use Rattle.world_runs.proofs.record.add_air.Given as goal

abbrev pub invariant-loop-one : goal.invariant-loop-one
invariant-loop-one l = record {
  before : l.before ≡ length l.fn.air;
  added : l.air ≡ l.fn.air ++ take l.one-index l.aired;
}
