use Rattle.std.proofs.Common.{◌≡◌, ◌≤◌, length, drop}
use Rattle.std.specs.List.{list_all, list_any}
use Rattle.test_expectations.specs.Facts.{is_related}
use Rattle.test_expectations.proofs.relation.all_related.Given as goal

-- the rest settles it
abbrev pub invariant-loop-at : goal.invariant-loop-at
invariant-loop-at l = record {
  rest : list_all (λ s. list_any (is_related l.relation s) l.others) (drop l.at l.each) ≡ list_all (λ s. list_any (is_related l.relation s) l.others) l.each;
  within : l.hint ≤ length l.others;
}
