use Rattle.std.proofs.Common.{◌≡◌, drop}
use Rattle.ts_trees.specs.Seen.{trees_of}
use Rattle.ts_proc_names.specs.NameFaults.{args_fault}
use Rattle.ts_proc_names.proofs.reserved.+expression.Given as goal

-- the first refusal of all the arguments is that of the rest
abbrev pub invariant-arguments-loop-arg : goal.invariant-arguments-loop-arg
invariant-arguments-loop-arg l = args_fault (trees_of l.args) ≡ args_fault (trees_of (drop l.arg-index l.args))
