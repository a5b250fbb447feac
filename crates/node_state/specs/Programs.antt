-- What is held for each handler.
use Rattle.std.specs.Prelude.{◌≡◌, ◌≤◌, ℕ, List, [], ◌∷◌, Option, Some, None, length, slice_index_or}
use Rattle.std.specs.Option.{option_or}
use Rattle.arrayvec.specs.ArrayVec.{ArrayVec}
use Rattle.mate_num.specs.declared.id.HandlerId.{HandlerId}
use Rattle.node_state.specs.declared.handlers.Held.{Held}

-- What is held for the handlers, by their numbers; and for how many of them, from the first on, there is room for a program of the
-- node's own.
pub record HeldPrograms : Type 0 where
  pub programs : List (Option Held)
  pub room : ℕ

-- there is for each handler
abbrev pub HasOwnRoom : HeldPrograms → Type 0
HasOwnRoom held = length held.programs ≤ held.room

-- of each handler its own program, or else the shared one: there may be places for fewer handlers among the own ones
abbrev pub held_either : List (Option Held) → List (Option Held) → List (Option Held)
held_either [] shared = shared
held_either (x ∷ own) [] = []
held_either (x ∷ own) (y ∷ shared) = option_or x y ∷ held_either own shared

-- more places of its own, none with a program
abbrev pub HaveSame : List (Option Held) → List (Option Held) → Type 0
HaveSame own more = (shared : List (Option Held)) → held_either more shared ≡ held_either own shared

-- so many places of its own were made, and there are so many handlers
pub record HavePlaces (made handlers : ℕ) : Type 0 where
  pub within : made ≤ handlers

abbrev pub Programs : Type 0
Programs = HandlerId → Option Held

-- the program that is held for a handler
abbrev pub held_at : List (Option Held) → Programs
held_at programs h = slice_index_or programs h.0 None

-- the version that is held, 0 for none
abbrev pub held_version_in : Option Held → ℕ
held_version_in None = 0
held_version_in (Some x) = x.version

-- what is held, with another version and another image, and with its code and locks
abbrev pub renewed : ℕ → ArrayVec ℕ → Option Held → Option Held
renewed version image None = None
renewed version image (Some x) = Some (record x { version = version; image = image })

-- another program takes the place of what is held, if anything is
abbrev pub written_over : Held → Option Held → Option Held
written_over y None = None
written_over y (Some x) = Some y
