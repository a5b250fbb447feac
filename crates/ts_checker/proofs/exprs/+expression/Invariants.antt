use Rattle.std.proofs.Common.{◌≡◌, drop}
use Rattle.ts_trees.specs.Seen.{trees_of}
use Rattle.ts_checked.specs.TreeOf.{args_trees}
use Rattle.ts_checker.specs.Checks.{checked_args}
use Rattle.ts_checker.specs.Seen.{scope_names}
use Rattle.ts_checker.proofs.LoopLemmas.{with_args}
use Rattle.ts_checker.proofs.exprs.+expression.Given as goal

-- all the arguments are those so far and the rest
abbrev pub invariant-arguments-loop-arg : goal.invariant-arguments-loop-arg
invariant-arguments-loop-arg l =
    checked_args (scope_names l.scope) l.calls (trees_of l.args)
    ≡ with_args (args_trees l.checked) (checked_args (scope_names l.scope) l.calls (trees_of (drop l.arg-index l.args)))
