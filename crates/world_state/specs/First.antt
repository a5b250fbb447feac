-- What is recorded of the air first in an event, as the code has it.
use Rattle.std.specs.Prelude.{ℕ, Option, Some, None}
use Rattle.arrayvec.specs.ArrayVec.{ArrayVec}
use Rattle.mate_journal.specs.declared.air.Air.{Air}
use Rattle.mate_journal.specs.declared.air.Air.TheVariants as air
use Rattle.world_state.specs.declared.first.Kind.{Kind}
use Rattle.world_state.specs.declared.first.Kind.TheVariants as kind
use Rattle.world_state.specs.declared.first.FirstTold.{FirstTold}
use Rattle.world_state.specs.declared.first.FirstTold.TheVariants as told

-- of this kind, with these bytes if it is noise
abbrev pub kind_air : ArrayVec ℕ → Kind → Option Air
kind_air noise kind.Nothing = None
kind_air noise kind.Keep = Some air.Keep
kind_air noise (kind.Got number from) = Some (air.Got number from)
kind_air noise kind.Noise = Some (air.Noise noise)

-- as it is read
abbrev pub first_told : FirstTold → Option Air
first_told told.Nothing = None
first_told told.Keep = Some air.Keep
first_told (told.Got number from) = Some (air.Got number from)
first_told (told.Noise bytes) = Some (air.Noise bytes.now)
