use Rattle.std.proofs.Common.{◌≡◌, take}
use Rattle.ts_proc_expansion.specs.Extents.{body_extents}
use Rattle.ts_proc_expansion.specs.Plan.{bodies_of}
use Rattle.ts_proc_expansion.proofs.extent.extents.Given as goal

-- the extents of the bodies so far
abbrev pub invariant-loop-place : goal.invariant-loop-place
invariant-loop-place l = l.extents.items ≡ body_extents (take l.place (bodies_of l.heads.procs.now))
