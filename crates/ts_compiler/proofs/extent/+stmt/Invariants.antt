use Rattle.std.proofs.Common.{drop, map}
use Rattle.ts_checked.specs.TreeOf.{stmt_tree}
use Rattle.ts_compiler.proofs.ExtentLemmas.{BlockMeasured}
use Rattle.ts_compiler.proofs.extent.+stmt.Given as goal

-- the whole block takes what its statements so far do, and what the rest does
abbrev pub invariant-block_extent-loop-stmt : goal.invariant-block_extent-loop-stmt
invariant-block_extent-loop-stmt l =
    BlockMeasured l.extent.size l.extent.need (map stmt_tree l.stmt-items) (map stmt_tree (drop l.stmt-index l.stmt-items))
