-- The description that bytes give, or the first refusal.
use Rattle.std.specs.Prelude.{◌≡◌, ℕ, List, ⊤, if◌then◌else◌, Option, Some, None, Result, Ok, Err}
use Rattle.std.specs.Str.{is_utf8}
use Rattle.toml.specs.Data.{Members}
use Rattle.toml.specs.Parse.{parse_document}
use Rattle.vm_shape.specs.Limits.{Parts}
use Rattle.vm_shape.specs.Whole.{parts_of}
use Rattle.vm_desc.specs.Places.{members_have_known}
use Rattle.vm_desc.specs.Reading.{description_at}
use Rattle.vm_shape.specs.declared.description.Description.{Description}
use Rattle.vm_desc.specs.declared.known.Place.TheVariants as place
use Rattle.vm_shape.specs.declared.key.Key.TheVariants as key
use Rattle.vm_shape.specs.declared.fault.DescFault.{DescFault}
use Rattle.vm_shape.specs.declared.fault.DescFault.TheVariants.{NotToml, BadField, OverLimit, Duplicate, SlowImax, NoMemory}

-- a document, all of whose keys are known, by its keys
abbrev pub of_document : Option Members → Result Parts DescFault
of_document None = Err NotToml
of_document (Some doc) = if members_have_known place.Document doc then description_at doc else Err (BadField key.Unknown)

-- bytes as a document; NotToml for bytes that are no UTF-8, and for a text that is no TOML
abbrev pub description_of : List ℕ → Result Parts DescFault
description_of bytes = if is_utf8 bytes then of_document (parse_document bytes) else Err NotToml

-- what a reader answered is what the bytes give, unless memory was refused
abbrev pub ReadsDescription : Result Description DescFault → Result Parts DescFault → Type 0
ReadsDescription (Ok d) reading = reading ≡ Ok (parts_of d)
ReadsDescription (Err NotToml) reading = reading ≡ Err NotToml
ReadsDescription (Err (BadField key)) reading = reading ≡ Err (BadField key)
ReadsDescription (Err (OverLimit key)) reading = reading ≡ Err (OverLimit key)
ReadsDescription (Err (Duplicate name)) reading = reading ≡ Err (Duplicate name)
ReadsDescription (Err (SlowImax need have)) reading = reading ≡ Err (SlowImax need have)
ReadsDescription (Err NoMemory) reading = ⊤

-- the bytes are a text of the description
abbrev pub IsDescribed : List ℕ → Description → Type 0
IsDescribed bytes d = description_of bytes ≡ Ok (parts_of d)
