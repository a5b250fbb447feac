use Rattle.std.proofs.Common.{◌<◌, ◌≤◌, length, ◌≡◌, ◌+◌, ◌*◌}
use Rattle.ts_trees.specs.Machine.{Product, Sum, Conjunction, Whole, want, want_inverse, first_product, first_and, sum_due, expr_due, have_product, have_sum, have_and, have}
use Rattle.ts_trees.specs.Parsing.{reads, Caller, called_open, called_with}
use Rattle.ts_expressions.specs.Boxed.{boxed_tree}
use Rattle.ts_trees.specs.Seen.{trees_of}
use Rattle.ts_expressions.proofs.expression.+expr.Given as goal

-- each part of an expression begins with a tighter part, or behind a token
abbrev pub decreases-behind_name : goal.decreases-behind_name
decreases-behind_name l = 8 * length l.tokens.now

abbrev pub decreases-operand : goal.decreases-operand
decreases-operand l = 8 * length l.tokens.now

abbrev pub decreases-product : goal.decreases-product
decreases-product l = 8 * length l.tokens.now + 1

abbrev pub decreases-sum : goal.decreases-sum
decreases-sum l = 8 * length l.tokens.now + 2

abbrev pub decreases-comparison : goal.decreases-comparison
decreases-comparison l = 8 * length l.tokens.now + 3

abbrev pub decreases-inversion : goal.decreases-inversion
decreases-inversion l = 8 * length l.tokens.now + 4

abbrev pub decreases-conjunction : goal.decreases-conjunction
decreases-conjunction l = 8 * length l.tokens.now + 5

abbrev pub decreases-disjunction : goal.decreases-disjunction
decreases-disjunction l = 8 * length l.tokens.now + 6

abbrev pub decreases-behind_open_box : goal.decreases-behind_open_box
decreases-behind_open_box l = 8 * length l.tokens.now + 7

abbrev pub decreases-behind_message : goal.decreases-behind_message
decreases-behind_message l = 8 * length l.tokens.now

abbrev pub decreases-behind_open : goal.decreases-behind_open
decreases-behind_open l = 8 * length l.tokens.now + 7

abbrev pub decreases-arguments : goal.decreases-arguments
decreases-arguments l = 8 * length l.tokens.now + 7

-- a chain so far: it was read up to the rest
abbrev pub invariant-product-loop-op : goal.invariant-product-loop-op
invariant-product-loop-op l =
    (length l.rest < length l.tokens) × ((k : Product) → reads l.tokens (want (first_product k)) ≡ reads l.rest (have_product (boxed_tree l.left) k))

abbrev pub decreases-product-loop-op : goal.decreases-product-loop-op
decreases-product-loop-op l = length l.rest

abbrev pub invariant-sum-loop-op : goal.invariant-sum-loop-op
invariant-sum-loop-op l =
    (length l.rest < length l.tokens) × ((k : Sum) → reads l.tokens (want (sum_due k)) ≡ reads l.rest (have_sum (boxed_tree l.left) k))

abbrev pub decreases-sum-loop-op : goal.decreases-sum-loop-op
decreases-sum-loop-op l = length l.rest

abbrev pub invariant-conjunction-loop-behind : goal.invariant-conjunction-loop-behind
invariant-conjunction-loop-behind l =
    (length l.rest < length l.tokens) × ((k : Conjunction) → reads l.tokens (want_inverse (first_and k)) ≡ reads l.rest (have_and (boxed_tree l.left) k))

abbrev pub decreases-conjunction-loop-behind : goal.decreases-conjunction-loop-behind
decreases-conjunction-loop-behind l = length l.rest

abbrev pub invariant-disjunction-loop-behind : goal.invariant-disjunction-loop-behind
invariant-disjunction-loop-behind l =
    (length l.rest < length l.tokens) × ((k : Whole) → reads l.tokens (expr_due k) ≡ reads l.rest (have (boxed_tree l.left) k))

abbrev pub decreases-disjunction-loop-behind : goal.decreases-disjunction-loop-behind
decreases-disjunction-loop-behind l = length l.rest

-- an argument is due behind those that were read
abbrev pub invariant-arguments-loop-arg : goal.invariant-arguments-loop-arg
invariant-arguments-loop-arg l =
    (length l.rest ≤ length l.tokens) × ((k : Caller) → reads l.tokens (called_open k) ≡ reads l.rest (expr_due (called_with k (trees_of l.args))))

abbrev pub decreases-arguments-loop-arg : goal.decreases-arguments-loop-arg
decreases-arguments-loop-arg l = length l.rest
