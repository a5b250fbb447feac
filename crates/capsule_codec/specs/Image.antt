-- A capsule's image: the bytes in which it is stored and sent. Numbers have the highest byte first.
use Rattle.std.specs.Prelude.{◌≡◌, ℕ, ◌<◌, ◌≤◌, ◌^◌, nat_le, if◌then◌else◌, List, [], ◌∷◌, ◌++◌, length}
use Rattle.std.specs.Int.{w16, w32, to_be_bytes}
use Rattle.mate_num.specs.declared.bounds.TheConstants.{CODE_MAX, SHORT_CODE}
pub use Rattle.hex.specs.Hex.{IsBytes}
use Rattle.vm_shape.specs.declared.description.Description.{Description}
use Rattle.capsule_codec.specs.declared.capsule.Capsule.{Capsule}
use Rattle.capsule_codec.specs.declared.capsule.CapsuleRef.{CapsuleRef}

-- a capsule's fields, as numbers and a list
pub record CapsuleParts : Type 0 where
  pub vm_id : ℕ
  pub handler : ℕ
  pub version : ℕ
  pub code : List ℕ

abbrev pub capsule_parts : Capsule → CapsuleParts
capsule_parts c = record { vm_id = c.vm_id; handler = c.handler.0; version = c.version; code = c.code.items }

-- those of a capsule that is in place
abbrev pub parts_in_place : CapsuleRef → CapsuleParts
parts_in_place c = record { vm_id = c.vm_id; handler = c.handler.0; version = c.version; code = c.code.now }

-- the four bytes with which every image begins: `MATE`
abbrev pub magic : List ℕ
magic = 0x4d ∷ 0x41 ∷ 0x54 ∷ 0x45 ∷ []

-- format 1 is for short code, format 2 for longer code
abbrev pub format_of : ℕ → ℕ
format_of size = if nat_le size SHORT_CODE then 1 else 2

-- the magic, the format, the handler, the machine, the version, the code's length, and the code
abbrev pub capsule_image : CapsuleParts → List ℕ
capsule_image c =
    magic
    ++ (format_of (length c.code) ∷ [])
    ++ (c.handler ∷ [])
    ++ to_be_bytes w32 c.vm_id
    ++ to_be_bytes w32 c.version
    ++ to_be_bytes w16 (length c.code)
    ++ c.code

-- what has an image: every capsule's parts do
pub record IsCapsule (c : CapsuleParts) : Type 0 where
  pub vm_id : c.vm_id < 2 ^ 32
  pub handler : c.handler < 256
  pub version_low : 1 ≤ c.version
  pub version_high : c.version < 2 ^ 32
  pub code_low : 1 ≤ length c.code
  pub code_high : length c.code ≤ CODE_MAX
  pub code : IsBytes c.code

-- a capsule of this machine, for one of its handlers
pub record IsOfMachine (d : Description) (c : CapsuleParts) : Type 0 where
  pub vm_id : c.vm_id ≡ d.vm_id
  pub handler : c.handler < length d.handlers.items
