use Rattle.std.proofs.Common.{◌≡◌, drop}
use Rattle.std.specs.List.{list_any}
use Rattle.test_expectations.specs.Facts.{is_related}
use Rattle.test_expectations.proofs.relation.place_of_related.Given as goal

-- the rest settles it
abbrev pub invariant-loop-place : goal.invariant-loop-place
invariant-loop-place l =
    list_any (is_related l.relation l.other) (drop l.place l.sightings) ≡ list_any (is_related l.relation l.other) l.sightings
