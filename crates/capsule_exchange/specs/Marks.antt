-- Whether a fragment of a handler is marked.
use Rattle.std.specs.Prelude.{◌≡◌, ℕ, ◌<◌, Bool, true, false, List, slice_index_or}
use Rattle.mate_num.specs.declared.bounds.TheConstants.{FRAGMENTS_MAX}

pub record HasMark (marks : List Bool) : Type 0 where
  pub place : ℕ
  pub within : place < FRAGMENTS_MAX
  pub is : slice_index_or marks place false ≡ true

abbrev pub HasNoMark : List Bool → Type 0
HasNoMark marks = (place : ℕ) → place < FRAGMENTS_MAX → slice_index_or marks place false ≡ false
