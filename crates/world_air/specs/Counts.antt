-- How often each function was called, as clauses see it.
use Rattle.std.specs.Prelude.{ℕ, List}

-- a count for each function
pub record CountList : Type 0 where
  pub items : List ℕ
