-- Hops over pairs of nodes that have links both ways.
use Rattle.std.specs.Prelude.{◌≡◌, ℕ, zero, suc, List, Contains}
use Rattle.script_steps.specs.declared.world.Link.{Link}

-- a link leads from one node to another
pub record HasLink (links : List Link) (a b : ℕ) : Type 0 where
  pub link : Link
  pub among : Contains links link
  pub from : link.from ≡ a
  pub to : link.to ≡ b

-- b is d hops away from a
abbrev pub IsAway : List Link → ℕ → ℕ → ℕ → Type 0
IsAway links a b zero = a ≡ b
IsAway links a b (suc d) = (c : ℕ) × IsAway links a c d × HasLink links c b × HasLink links b c
