-- Cells: what a store holds for a resource, and when stores agree on what a piece of code uses.
use Rattle.std.specs.Prelude.{◌≡◌, ℤ, pos, List, [], ◌∷◌, Bool, IsTrue, length, slice_index_or}
use Rattle.mate_num.specs.Store.{value_at, buffer_at, set_value, set_buffer}
use Rattle.mate_num.specs.declared.resource.Resource.{Resource}
use Rattle.mate_num.specs.declared.resource.Resource.TheVariants.{Shared, Buffer, Device}
use Rattle.mate_num.specs.declared.store.Store.{Store}

-- the number of a cell that holds one
abbrev pub number_in : List ℤ → ℤ
number_in cell = slice_index_or cell 0 (pos 0)

-- what the store holds: a variable's one number, a buffer's values, and nothing for a device
abbrev pub read : Store → Resource → List ℤ
read s (Shared v) = value_at s v.0 ∷ []
read s (Buffer b) = buffer_at s b.0
read s (Device d) = []

-- the store with that in the resource's cell
abbrev pub write : Store → Resource → List ℤ → Store
write s (Shared v) cell = set_value s v.0 (number_in cell)
write s (Buffer b) cell = set_buffer s b.0 cell
write s (Device d) cell = s

-- the stores are as long
pub record AreAsLong (s t : Store) : Type 0 where
  pub shared : length s.shared.items ≡ length t.shared.items
  pub buffers : length s.buffers.items ≡ length t.buffers.items

-- the stores are as long, and hold the same for each resource that passes the test
pub record Agree (test : Resource → Bool) (s t : Store) : Type 0 where
  pub as_long : AreAsLong s t
  pub same : (r : Resource) → IsTrue (test r) → read s r ≡ read t r
