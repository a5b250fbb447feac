-- The source that a generated world injects: it adds to the first shared variable.
use Rattle.std.specs.Prelude.{ℕ, ◌+◌, Bool, true, false, if◌then◌else◌, List, [], ◌∷◌, ◌++◌, codes, Option, Some, None}
use Rattle.vm_shape.specs.declared.description.Description.{Description}
use Rattle.vm_shape.specs.declared.function.Function.{Function}
use Rattle.vm_shape.specs.declared.function.FunKind.{FunKind}
use Rattle.vm_shape.specs.declared.function.FunKind.TheVariants as kind

abbrev pub reads_sensor : FunKind → Bool
reads_sensor kind.Sense = true
reads_sensor _ = false

-- the name of the first function that reads a sensor
abbrev pub first_sensor : List Function → Option (List ℕ)
first_sensor [] = None
first_sensor (f ∷ functions) = if reads_sensor f.kind then Some f.name else first_sensor functions

abbrev pub sensor_term : Option (List ℕ) → List ℕ
sensor_term None = []
sensor_term (Some f) = f ++ codes "() + "

abbrev pub source_head : List ℕ → List ℕ
source_head s = codes "shared " ++ s ++ codes "; " ++ s ++ codes " = " ++ s ++ codes " + "

-- the shared variable s takes itself, and what the sensor reads, and a digit
abbrev pub assignment : List ℕ → Option (List ℕ) → ℕ → List ℕ
assignment s sensor digit = source_head s ++ sensor_term sensor ++ (48 + digit) ∷ codes ";"

abbrev pub source_with : Option (List ℕ) → List (List ℕ) → ℕ → List ℕ
source_with sensor [] version = []
source_with sensor (s ∷ shared) version = assignment s sensor version

-- the source of a version below 10; without a shared variable it is empty
unfoldable pub source_of : Description → ℕ → List ℕ
source_of d version = source_with (first_sensor d.functions.items) d.shared.items version
