use Rattle.std.proofs.Common.{◌≡◌, ◌++◌, drop, map}
use Rattle.ts_checked.specs.Statement.{block}
use Rattle.ts_checked.specs.TreeOf.{stmt_tree, block_trees}
use Rattle.ts_fold.specs.Folded.{folded_stmts}
use Rattle.ts_fold.proofs.statements.+block.Given as goal

-- what all the statements leave behind those before is what the rest leaves behind those so far
abbrev pub invariant-statements-loop-stmt : goal.invariant-statements-loop-stmt
invariant-statements-loop-stmt l =
    block_trees l.initial.into ++ folded_stmts (block (map stmt_tree l.stmt-items))
    ≡ block_trees l.into ++ folded_stmts (block (map stmt_tree (drop l.stmt-index l.stmt-items)))
