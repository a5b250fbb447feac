-- Names that are before others.
use Rattle.std.specs.Prelude.{ℕ, List, Option, Some, None, nat_lt, if◌then◌else◌, bytes_eq}
use Rattle.std.specs.List.{position_from}
use Rattle.std.specs.Map.{lookup}

-- the first place of a name among names, counted from 0
abbrev pub place_of_name : List (List ℕ) → List ℕ → Option ℕ
place_of_name names name = position_from (bytes_eq name) 0 names

-- a place, if it is below a number
abbrev pub place_below : ℕ → Option ℕ → Option ℕ
place_below n None = None
place_below n (Some i) = if nat_lt i n then Some i else None

-- what is beside the first of a name
abbrev pub declared_as : {A : Type 0} → List (List ℕ × A) → List ℕ → Option A
declared_as known name = lookup (bytes_eq name) known
