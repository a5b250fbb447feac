use Rattle.std.proofs.Common.{◌≡◌, drop, map}
use Rattle.ts_checked.specs.Statement.{block}
use Rattle.ts_checked.specs.Right.{is_right_block}
use Rattle.ts_checked.specs.TreeOf.{stmt_tree}
use Rattle.ts_right.proofs.right.+stmt_is_right.Given as goal

-- the block is right where the rest of it is
abbrev pub invariant-block_is_right-loop-stmt : goal.invariant-block_is_right-loop-stmt
invariant-block_is_right-loop-stmt l =
    is_right_block l.shape (block (map stmt_tree l.stmt-items)) ≡ is_right_block l.shape (block (map stmt_tree (drop l.stmt-index l.stmt-items)))
