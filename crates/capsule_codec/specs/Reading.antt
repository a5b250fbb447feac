-- What bytes are to a machine: one of its capsules, or the first fault.
use Rattle.std.specs.Prelude.{◌≡◌, ℕ, ◌+◌, nat_lt, nat_le, nat_eq, ◌==◌, Bool, not, ◌&&◌, ◌||◌, if◌then◌else◌, List, [], ◌∷◌, length, drop, slice_index, Result, Ok, Err}
use Rattle.std.specs.Int.{w16, w32, from_be_bytes, is_in_range}
use Rattle.std.specs.List.{starts_with}
use Rattle.mate_num.specs.declared.bounds.TheConstants.{CODE_MAX, IMAGE_HEAD, SHORT_CODE}
use Rattle.vm_shape.specs.declared.description.Description.{Description}
use Rattle.capsule_codec.specs.declared.decoding.CapsuleFault.{CapsuleFault}
use Rattle.capsule_codec.specs.declared.decoding.CapsuleFault.TheVariants.{BadMagic, BadFormat, OtherVm, BadHandler, BadLength, BadVersion}
use Rattle.capsule_codec.specs.declared.capsule.Capsule.{Capsule}
use Rattle.capsule_codec.specs.declared.capsule.CapsuleRef.{CapsuleRef}
use Rattle.capsule_codec.specs.Image.{CapsuleParts, capsule_parts, parts_in_place, magic}

-- the number in the two bytes from a place on
abbrev pub u16_at : List ℕ → ℕ → ℕ
u16_at bytes place = from_be_bytes w16 (slice_index bytes place ∷ slice_index bytes (place + 1) ∷ [])

-- the number in the four bytes from a place on
abbrev pub u32_at : List ℕ → ℕ → ℕ
u32_at bytes place =
    from_be_bytes w32 (slice_index bytes place ∷ slice_index bytes (place + 1)
    ∷ slice_index bytes (place + 2) ∷ slice_index bytes (place + 3) ∷ [])

-- the fields of an image's head
abbrev pub format_in : List ℕ → ℕ
format_in bytes = slice_index bytes 4

abbrev pub handler_in : List ℕ → ℕ
handler_in bytes = slice_index bytes 5

abbrev pub vm_id_in : List ℕ → ℕ
vm_id_in bytes = u32_at bytes 6

abbrev pub version_field : List ℕ → ℕ
version_field bytes = u32_at bytes 10

abbrev pub size_in : List ℕ → ℕ
size_in bytes = u16_at bytes 14

-- there are formats 1 and 2
abbrev pub is_format : ℕ → Bool
is_format format = format == 1 || format == 2

-- format 1 has short code, of 1 byte at least, format 2 longer code
abbrev pub is_size : ℕ → ℕ → Bool
is_size format size = if format == 1 then is_in_range 1 SHORT_CODE size else is_in_range (SHORT_CODE + 1) CODE_MAX size

-- the capsule of this machine whose image the bytes are, or the first fault
abbrev pub capsule_in : Description → List ℕ → Result CapsuleParts CapsuleFault
capsule_in d bytes =
    if not (starts_with nat_eq bytes magic) then Err BadMagic
    else if nat_lt (length bytes) IMAGE_HEAD then Err BadLength
    else if not (is_format (format_in bytes)) then Err BadFormat
    else if not (vm_id_in bytes == d.vm_id) then Err (OtherVm (vm_id_in bytes))
    else if not (nat_lt (handler_in bytes) (length d.handlers.items)) then Err BadHandler
    else if version_field bytes == 0 then Err BadVersion
    else if not (is_size (format_in bytes) (size_in bytes) && (size_in bytes + IMAGE_HEAD == length bytes)) then Err BadLength
    else Ok (record { vm_id = vm_id_in bytes; handler = handler_in bytes; version = version_field bytes; code = drop IMAGE_HEAD bytes })

-- what was answered is what was read
abbrev pub GivesCapsule : Result Capsule CapsuleFault → Result CapsuleParts CapsuleFault → Type 0
GivesCapsule (Ok c) read = read ≡ Ok (capsule_parts c)
GivesCapsule (Err e) read = read ≡ Err e

-- the same of a capsule that is in place
abbrev pub GivesInPlace : Result CapsuleRef CapsuleFault → Result CapsuleParts CapsuleFault → Type 0
GivesInPlace (Ok c) read = read ≡ Ok (parts_in_place c)
GivesInPlace (Err e) read = read ≡ Err e
