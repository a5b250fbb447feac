use Rattle.std.proofs.Common.{◌≡◌, ◌+◌, ◌*◌, ◌++◌, ◌≤◌, map, take, drop}
use Rattle.ts_trees.specs.Seen.{act_of, acts_of, acts}
use Rattle.ts_proc_expansion.specs.Expansion.{expanded_acts}
use Rattle.ts_proc_expansion.specs.Extent.{acts_depth}
use Rattle.ts_proc_renaming.specs.Hidden.{hiding_of}
use Rattle.ts_procs.specs.Pending.{left_if, left_on, steps_on}
use Rattle.ts_proc_expansion.specs.Plan.{bodies_of}
use Rattle.ts_procs.proofs.statements.+block.Given as goal

-- what is written so far, and what the rest becomes
abbrev pub invariant-block-loop-stmt : goal.invariant-block-loop-stmt
invariant-block-loop-stmt l =
    map act_of l.written ++ expanded_acts (take l.count (bodies_of l.plan.heads.procs.now)) (hiding_of l.hidden) (acts_of (drop l.stmt-index l.stmts))
    ≡ expanded_acts (take l.count (bodies_of l.plan.heads.procs.now)) (hiding_of l.hidden) (acts_of l.stmts)

-- what is written so far, and what the stack becomes; its blocks nest no deeper than the body's
abbrev pub invariant-bodies-loop-pending : goal.invariant-bodies-loop-pending
invariant-bodies-loop-pending l =
    record {
      whole : map act_of l.written ++ left_on l.plan.heads.procs.now l.stack.items ≡ map act_of l.fn.written ++ left_if l.plan.heads.procs.now l.fn.body;
      shallow : acts_depth (acts (left_on l.plan.heads.procs.now l.stack.items)) ≤ l.depth;
    }

abbrev pub decreases-bodies-loop-pending : goal.decreases-bodies-loop-pending
decreases-bodies-loop-pending l = steps_on l.plan.heads.procs.now l.stack.items

-- a block within a statement nests less deep
abbrev pub decreases-block : goal.decreases-block
decreases-block l = 3 * l.depth

abbrev pub decreases-bodies : goal.decreases-bodies
decreases-bodies l = 3 * l.depth + 2

abbrev pub decreases-statement : goal.decreases-statement
decreases-statement l = 3 * l.depth + 1
