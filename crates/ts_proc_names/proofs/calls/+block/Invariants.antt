use Rattle.std.proofs.Common.{◌≡◌, drop, take}
use Rattle.ts_trees.specs.Seen.{acts_of}
use Rattle.ts_proc_names.specs.Heads.{heads_of}
use Rattle.ts_proc_names.specs.NameFaults.{acts_fault}
use Rattle.ts_proc_names.proofs.calls.+block.Given as goal

-- the first refusal of all the statements is that of the rest
abbrev pub invariant-block-loop-stmt : goal.invariant-block-loop-stmt
invariant-block-loop-stmt l =
    acts_fault (take l.count (heads_of l.heads.procs.now)) (acts_of l.stmt-items)
    ≡ acts_fault (take l.count (heads_of l.heads.procs.now)) (acts_of (drop l.stmt-index l.stmt-items))
