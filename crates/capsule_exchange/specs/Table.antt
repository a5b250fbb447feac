-- A value for each index that a fragment can have.
use Rattle.std.specs.Prelude.{ℕ, List, map}
use Rattle.std.specs.List.{range_with_len}
use Rattle.mate_num.specs.declared.bounds.TheConstants.{FRAGMENTS_MAX}

-- not unfolded: it would be written out in all places
unfoldable pub table : {X : Type 0} → (ℕ → X) → List X
table f = map f (range_with_len 0 FRAGMENTS_MAX)
