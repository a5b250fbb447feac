use Rattle.std.proofs.Common.{◌≡◌, ◌≤◌, [], drop, length, map}
use Rattle.ts_checked.specs.Expression.{arguments}
use Rattle.ts_checked.specs.TreeOf.{expr_tree}
use Rattle.ts_semantics.specs.Meaning.{values_of}
use Rattle.ts_meaning.specs.Follows.{state_of}
use Rattle.ts_meaning.proofs.ArgumentLemmas.{gathered}
use Rattle.ts_meaning.proofs.evaluator.Evaluator.+value.Given as goal

-- all the values are those so far and those of the rest; no turn was paid
abbrev pub invariant-values-loop-arg : goal.invariant-values-loop-arg
invariant-values-loop-arg l =
    (gathered [] (values_of (arguments (map expr_tree l.arg-items)) (state_of l.initial.self))
    ≡ gathered l.values.items (values_of (arguments (map expr_tree (drop l.arg-index l.arg-items))) (state_of l.self)))
    × ((state_of l.self).turns ≡ (state_of l.initial.self).turns)
    × (length l.values.items ≤ 10)
