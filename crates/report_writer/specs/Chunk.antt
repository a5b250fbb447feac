-- What is added to a text in front.
use Rattle.std.specs.Prelude.{◌≡◌, ℕ, List, ◌++◌}

-- `new` is `old` with a piece in front of it
pub record IsInFront (old new piece : List ℕ) : Type 0 where
  pub is : new ≡ piece ++ old
