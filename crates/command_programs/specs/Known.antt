-- Sources that were compiled, by their bytes.
use Rattle.std.specs.Prelude.{◌≡◌, ℕ, ◌≤◌, Bool, true, List, length, All, Ok, slice_get, IsSomeAnd}
use Rattle.std.specs.Str.{bytes_eq}
use Rattle.command_steps.specs.Sources.{compiled_bytes}
use Rattle.command_programs.specs.declared.known.KnownSource.{KnownSource}
use Rattle.command_programs.specs.declared.known.KnownSources.{KnownSources}
use Rattle.vm_shape.specs.declared.description.Description.{Description}

-- what a known source gave is what its bytes give, under any name
pub record IsKnown (d : Description) (fold : Bool) (s : KnownSource) : Type 0 where
  pub gives : (name : List ℕ) → compiled_bytes d fold name s.bytes.items (Ok s.compiled)
  pub filled : 1 ≤ length s.compiled.code.items

abbrev pub AreKnown : Description → Bool → KnownSources → Type 0
AreKnown d fold k = All (IsKnown d fold) k.sources.items

-- a known source has these bytes
abbrev pub IsKnownAt : KnownSources → List ℕ → ℕ → Type 0
IsKnownAt k bytes place = IsSomeAnd (slice_get k.sources.items place) (λ s. bytes_eq s.bytes.items bytes ≡ true)
