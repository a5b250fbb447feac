use Rattle.std.proofs.Common.{◌≡◌, ◌≤◌, drop, map}
use Rattle.ts_checked.specs.Statement.{block}
use Rattle.ts_checked.specs.TreeOf.{expr_tree, stmt_tree, block_tree}
use Rattle.ts_semantics.specs.State.{loop_does}
use Rattle.ts_semantics.specs.Meaning.{value_of, run_block, while_round, for_round}
use Rattle.ts_meaning.specs.Follows.{state_of}
use Rattle.ts_meaning.proofs.evaluator.Evaluator.+stmt.Given as goal

-- the whole block is the rest of it from here
abbrev pub invariant-block-loop-stmt : goal.invariant-block-loop-stmt
invariant-block-loop-stmt l =
    (run_block (block (map stmt_tree l.stmt-items)) (state_of l.initial.self)
    ≡ run_block (block (map stmt_tree (drop l.stmt-index l.stmt-items))) (state_of l.self))
    × ((state_of l.self).turns ≤ (state_of l.initial.self).turns)

-- the whole loop is the loop from here
abbrev pub invariant-for_rounds-loop-self : goal.invariant-for_rounds-loop-self
invariant-for_rounds-loop-self l =
    (loop_does (for_round l.head.var (value_of (expr_tree l.head.to)) l.head.step (run_block (block_tree l.body))) (state_of l.initial.self)
    ≡ loop_does (for_round l.head.var (value_of (expr_tree l.head.to)) l.head.step (run_block (block_tree l.body))) (state_of l.self))
    × ((state_of l.self).turns ≤ (state_of l.initial.self).turns)

abbrev pub decreases-for_rounds-loop-self : goal.decreases-for_rounds-loop-self
decreases-for_rounds-loop-self l = (state_of l.self).turns

abbrev pub invariant-while_loop-loop-self : goal.invariant-while_loop-loop-self
invariant-while_loop-loop-self l =
    (loop_does (while_round (value_of (expr_tree l.test)) (run_block (block_tree l.body))) (state_of l.initial.self)
    ≡ loop_does (while_round (value_of (expr_tree l.test)) (run_block (block_tree l.body))) (state_of l.self))
    × ((state_of l.self).turns ≤ (state_of l.initial.self).turns)

abbrev pub decreases-while_loop-loop-self : goal.decreases-while_loop-loop-self
decreases-while_loop-loop-self l = (state_of l.self).turns
