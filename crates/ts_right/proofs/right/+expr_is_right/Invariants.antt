use Rattle.std.proofs.Common.{◌≡◌, drop, map}
use Rattle.ts_checked.specs.Expression.{arguments}
use Rattle.ts_checked.specs.Right.{are_right}
use Rattle.ts_checked.specs.TreeOf.{expr_tree}
use Rattle.ts_right.proofs.right.+expr_is_right.Given as goal

-- the arguments are right where the rest of them is
abbrev pub invariant-args_are_right-loop-arg : goal.invariant-args_are_right-loop-arg
invariant-args_are_right-loop-arg l =
    are_right l.shape l.calls (arguments (map expr_tree l.arg-items)) ≡ are_right l.shape l.calls (arguments (map expr_tree (drop l.arg-index l.arg-items)))
