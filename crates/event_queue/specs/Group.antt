-- The group of an item.
use Rattle.std.specs.Prelude.{ℕ, Bool, false, ◌==◌, Option, Some, None}

abbrev pub is_group : ℕ → Option ℕ → Bool
is_group g None = false
is_group g (Some h) = h == g

-- the item is of the group
abbrev pub is_in : {T : Type 0} → (T → Option ℕ) → ℕ → T → Bool
is_in group g x = is_group g (group x)
