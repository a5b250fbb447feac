-- The images that are held, where they are kept beside what else a node knows.
use Rattle.std.specs.Prelude.{◌≡◌, ℕ, ◌<◌, List, [], length, slice_index_or}
use Rattle.arrayvec.specs.ArrayVec.{ArrayVec}
use Rattle.capsule_exchange.specs.Knowledge.{Knowledge}
use Rattle.capsule_exchange.specs.Steps.{state_at}

-- each handler's image is held as before
abbrev pub HoldSame : Knowledge → Knowledge → Type 0
HoldSame old new = (h : ℕ) → (state_at new.handlers h).image ≡ (state_at old.handlers h).image

abbrev pub blank_image : ArrayVec ℕ
blank_image = record { items = [] }

-- these are the images of the handlers, in order
pub record AreImagesOf (k : Knowledge) (images : List (ArrayVec ℕ)) : Type 0 where
  pub count : length images ≡ length k.handlers
  pub each : (h : ℕ) → h < length k.handlers → slice_index_or images h blank_image ≡ (state_at k.handlers h).image
