-- A store that is made to be another one where a program uses nothing.
use Rattle.std.specs.Prelude.{◌≡◌, ℕ, Bool, false, IsTrue, not, ◌&&◌, nat_lt, if◌then◌else◌}
use Rattle.mate_num.specs.declared.resource.Resource.{Resource}
use Rattle.mate_num.specs.declared.resource.Resource.TheVariants.{Shared, Buffer}
use Rattle.mate_num.specs.declared.store.Store.{Store}
use Rattle.mate_code.specs.Cells.{read, AreAsLong}

-- a variable before a place; a variable, or a buffer before a place
abbrev pub is_variable_below : ℕ → Resource → Bool
is_variable_below n (Shared v) = nat_lt v.0 n
is_variable_below n _ = false

abbrev pub is_buffer_below : ℕ → Resource → Bool
is_buffer_below n (Buffer b) = nat_lt b.0 n
is_buffer_below n _ = false

-- Of the resources that pass a test: those that are used have one value in both stores, and the others get the second one's.
pub record IsSettled (test used : Resource → Bool) (base store before after : Store) : Type 0 where
  pub as_long : AreAsLong after before
  pub same : (r : Resource) → IsTrue (test r) → IsTrue (used r) → read base r ≡ read store r
  pub values : (r : Resource) → read after r ≡ (if test r && not (used r) then read store r else read before r)
