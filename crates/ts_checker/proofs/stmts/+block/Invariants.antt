use Rattle.std.proofs.Common.{◌≡◌, drop}
use Rattle.ts_trees.specs.Seen.{acts_of}
use Rattle.ts_checked.specs.TreeOf.{block_trees}
use Rattle.ts_checker.specs.Checks.{checked_block}
use Rattle.ts_checker.specs.Seen.{scope_names}
use Rattle.ts_checker.proofs.LoopLemmas.{with_stmts}
use Rattle.ts_checker.proofs.stmts.+block.Given as goal

-- all the statements are those so far and the rest
abbrev pub invariant-block-loop-stmt : goal.invariant-block-loop-stmt
invariant-block-loop-stmt l =
    checked_block (scope_names l.scope) (acts_of l.stmt-items)
    ≡ with_stmts (block_trees l.checked) (checked_block (scope_names l.scope) (acts_of (drop l.stmt-index l.stmt-items)))
