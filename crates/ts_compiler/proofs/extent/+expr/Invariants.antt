use Rattle.std.proofs.Common.{◌≡◌, ◌+◌, ◌≤◌, drop, map}
use Rattle.std.specs.Prelude.{max}
use Rattle.ts_checked.specs.Expression.{arguments}
use Rattle.ts_checked.specs.TreeOf.{expr_tree}
use Rattle.ts_compiler.specs.Parts.{capped}
use Rattle.ts_compiler.proofs.ExtentLemmas.{ArgsMeasured}
use Rattle.ts_compiler.proofs.extent.+expr.Given as goal

-- all arguments take what those so far do, and what the rest does above them
abbrev pub invariant-args_extent-loop-arg : goal.invariant-args_extent-loop-arg
invariant-args_extent-loop-arg l =
    ArgsMeasured l.extent.size l.extent.need l.below l.arg-index (map expr_tree l.arg-items) (map expr_tree (drop l.arg-index l.arg-items))
