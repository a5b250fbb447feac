use Rattle.std.proofs.Common.{map, take}
use Rattle.ts_trees.specs.Seen.{act_of, acts, acts_of}
use Rattle.ts_proc_expansion.specs.Live.{BecomesSame}
use Rattle.ts_proc_expansion.specs.Plan.{bodies_of}
use Rattle.ts_proc_expansion.proofs.live.+live.Given as goal

-- the statements so far become the same
abbrev pub invariant-live_block-loop-stmt : goal.invariant-live_block-loop-stmt
invariant-live_block-loop-stmt l = BecomesSame (take l.count (bodies_of l.plan.heads.procs.now)) (acts (map act_of l.live)) (acts_of (take l.stmt-index l.stmt-items))
