use Rattle.std.proofs.Common.{◌≡◌, drop, map}
use Rattle.ts_checked.specs.Expression.{arguments}
use Rattle.ts_checked.specs.TreeOf.{expr_tree, args_trees}
use Rattle.ts_fold.specs.Folded.{folded_args}
use Rattle.ts_fold.proofs.LoopLemmas.{args_behind}
use Rattle.ts_fold.proofs.expressions.+expression.Given as goal

-- all the arguments are those folded so far and the rest
abbrev pub invariant-arguments-loop-arg : goal.invariant-arguments-loop-arg
invariant-arguments-loop-arg l =
    folded_args (arguments (map expr_tree l.arg-items))
    ≡ args_behind (args_trees l.folded) (folded_args (arguments (map expr_tree (drop l.arg-index l.arg-items))))
