use Rattle.std.proofs.Common.{◌≡◌, pos, []}
use Rattle.std.specs.Prelude.{replicate}
use Rattle.cases_files.proofs.stores.zero_store.Given as goal

abbrev pub invariant-loop : goal.invariant-loop
invariant-loop l = l.values.items ≡ replicate l.counter (pos 0)

abbrev pub invariant-loop-2 : goal.invariant-loop-2
invariant-loop-2 l = l.empty.items ≡ replicate l.counter record { items = [] }
