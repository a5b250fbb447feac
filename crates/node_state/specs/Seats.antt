-- The seats of all contexts, of which the first ones are in memory.
use Rattle.std.specs.Prelude.{◌≡◌, ◌≤◌, ℕ, zero, suc, List, [], ◌∷◌, Option, None}
use Rattle.mate_num.specs.declared.bounds.TheConstants.{CONTEXTS_MAX}
use Rattle.node_state.specs.declared.seat.Seat.{Seat}

-- so many places, of which nobody is at those that aren't in the list
abbrev pub places_upto : ℕ → List (Option Seat) → List (Option Seat)
places_upto zero seats = []
places_upto (suc n) [] = None ∷ places_upto n []
places_upto (suc n) (seat ∷ seats) = seat ∷ places_upto n seats

-- more places, and nobody at those
abbrev pub HaveSameSeats : List (Option Seat) → List (Option Seat) → Type 0
HaveSameSeats seats more = (n : ℕ) → places_upto n more ≡ places_upto n seats

-- so many places were made, and there is room for so many, a machine's contexts at most
pub record HaveRoom (made room : ℕ) : Type 0 where
  pub within : made ≤ room
  pub few : room ≤ CONTEXTS_MAX
