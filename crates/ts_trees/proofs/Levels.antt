-- The levels of expressions by their names, and tests that hold.
use Rattle.std.proofs.Common.{ℕ, ◌≤◌}
use Rattle.ts_checked.specs.declared.bin_op.BinOp.{BinOp}
use Rattle.ts_trees.specs.Tree.{Tree}
use Rattle.ts_trees.specs.Derived.{levels_of, level}

abbrev pub at_or : ℕ
at_or = 0

abbrev pub at_and : ℕ
at_and = 1

abbrev pub at_not : ℕ
at_not = 2

abbrev pub at_compare : ℕ
at_compare = 3

abbrev pub at_sum : ℕ
at_sum = 4

abbrev pub at_product : ℕ
at_product = 5

abbrev pub at_sign : ℕ
at_sign = 6

abbrev pub at_atom : ℕ
at_atom = 7

-- the tree is at this level or at a tighter one
abbrev pub IsPart : ℕ → Tree → Type 0
IsPart n e = n ≤ level e

-- the level of an operator's tree, and those that its operands need
abbrev pub level_of : BinOp → ℕ
level_of o = (levels_of o).0

abbrev pub left_of : BinOp → ℕ
left_of o = (levels_of o).1

abbrev pub right_of : BinOp → ℕ
right_of o = (levels_of o).2
