use Rattle.std.proofs.Common.{◌≡◌, ◌≤◌, ◌+◌, ◌*◌, length}
use Rattle.ts_trees.specs.Seen.{acts_of}
use Rattle.ts_trees.specs.Tree.{no_acts}
use Rattle.ts_statements.specs.Blocks.{FrameIn}
use Rattle.ts_trees.specs.Machine.{block}
use Rattle.ts_trees.specs.Parsing.{reads}
use Rattle.ts_statements.proofs.stmt.+stmt.Given as goal

-- each part of a statement begins with a part of less, or behind a token
abbrev pub decreases-block : goal.decreases-block
decreases-block l = 8 * length l.tokens.now

abbrev pub decreases-other_branch : goal.decreases-other_branch
decreases-other_branch l = 8 * length l.tokens.now + 1

abbrev pub decreases-choice : goal.decreases-choice
decreases-choice l = 8 * length l.tokens.now + 3

abbrev pub decreases-repetition : goal.decreases-repetition
decreases-repetition l = 8 * length l.tokens.now + 3

abbrev pub decreases-counting : goal.decreases-counting
decreases-counting l = 8 * length l.tokens.now + 3

abbrev pub decreases-statement : goal.decreases-statement
decreases-statement l = 8 * length l.tokens.now + 4

-- the statements so far were read
abbrev pub invariant-block-loop-opening : goal.invariant-block-loop-opening
invariant-block-loop-opening l =
    (length l.rest ≤ length l.tokens) × ((f : FrameIn l.dialect) → reads l.tokens (block no_acts f.frame) ≡ reads l.rest (block (acts_of l.stmts) f.frame))

abbrev pub decreases-block-loop-opening : goal.decreases-block-loop-opening
decreases-block-loop-opening l = length l.rest
