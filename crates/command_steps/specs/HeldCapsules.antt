-- What the program holds of a capsule in a file: its parts with its verified code.
use Rattle.std.specs.Prelude.{◌≡◌, ℕ, List, Option, Some, None, Result, Ok, Err, ⊤}
use Rattle.std.specs.declared.alloc.Global.{Global}
use Rattle.std.specs.declared.boxed.Box.{Box}
use Rattle.capsule_codec.specs.Image.{CapsuleParts, capsule_parts, IsOfMachine}
use Rattle.capsule_codec.specs.declared.capsule.Capsule.{Capsule}
use Rattle.opcode_gen.specs.CapsuleText.{IsVerifiedFor}
use Rattle.mate_code.specs.Run.{Code}
use Rattle.command_refusals.specs.declared.capsule_cause.CapsuleCause.{CapsuleCause}
use Rattle.command_refusals.specs.declared.refusal.Refusal.{Refusal}
use Rattle.command_steps.specs.CapsuleFiles.{spelled_parts, spelled_code}
use Rattle.command_steps.specs.declared.capsule_file.VerifiedCapsule.{VerifiedCapsule}
use Rattle.vm_shape.specs.declared.description.Description.{Description}

-- the capsule that a text spells, before its code is verified, or why there is none
abbrev pub ReadsCapsule : Description → List ℕ → Result Capsule CapsuleCause → Type 0
ReadsCapsule d text (Ok c) = (spelled_parts d text ≡ Ok (capsule_parts c)) × IsOfMachine d (capsule_parts c)
ReadsCapsule d text (Err r) = spelled_parts d text ≡ Err r

-- the capsule's parts and its code
abbrev pub parts_held : VerifiedCapsule → CapsuleParts × Code
parts_held c = (capsule_parts c.capsule, c.code.code)

-- the capsule that a text spells with its verified code
pub record IsHeldOf (d : Description) (text : List ℕ) (c : VerifiedCapsule) : Type 0 where
  pub spells : spelled_code d text ≡ Ok (parts_held c)
  pub is_for : IsVerifiedFor d (capsule_parts c.capsule) c.code

-- or why there is none; or memory runs out
abbrev pub ReadsText : Description → List ℕ → Result (Option (Box VerifiedCapsule Global)) CapsuleCause → Type 0
ReadsText d text (Ok (Some c)) = IsHeldOf d text c.value
ReadsText d text (Ok None) = ⊤
ReadsText d text (Err r) = spelled_code d text ≡ Err r

abbrev pub parts_in : Result (Box VerifiedCapsule Global) Refusal → Result (CapsuleParts × Code) Refusal
parts_in (Ok c) = Ok (parts_held c.value)
parts_in (Err r) = Err r
