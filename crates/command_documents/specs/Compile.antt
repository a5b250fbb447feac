-- The command `compile`: the image of a source's capsule, in hexadecimal digits.
use Rattle.std.specs.Prelude.{ℕ, Bool, List, ◌++◌, codes, Result}
use Rattle.arrayvec.specs.ArrayVec.{ArrayVec}
use Rattle.hex.specs.Hex.{encode_lower}
use Rattle.mate_num.specs.declared.id.HandlerId.{HandlerId}
use Rattle.vm_shape.specs.declared.description.Description.{Description}
use Rattle.capsule_codec.specs.Image.{capsule_image}
use Rattle.command_refusals.specs.declared.refusal.Refusal.{Refusal}
use Rattle.command_documents.specs.Owed.{Owed, writes}
use Rattle.command_steps.specs.Parts.{Folder, machine, handler}
use Rattle.command_steps.specs.Sources.{source}
use Rattle.command_steps.specs.Steps.{◌▸◌}

-- the image of the capsule with the machine's number, in hexadecimal digits, and a line feed
abbrev pub capsule_hex : Description → HandlerId → ℕ → ArrayVec ℕ → List ℕ
capsule_hex d h version code =
    encode_lower (capsule_image (record { vm_id = d.vm_id; handler = h.0; version = version; code = code.items }))
    ++ codes "\n"

-- the image of a source's capsule for a machine
abbrev pub source_image : Folder → Bool → Description → (h : List ℕ) → ℕ → List ℕ → Result Owed Refusal → Type 0
source_image f fold d h version name = handler d h ▸ λ k. source f d fold name ▸ λ c. writes (capsule_hex d k version c.code)

abbrev pub compile : Folder → Bool → (vm h : List ℕ) → ℕ → List ℕ → Result Owed Refusal → Type 0
compile f fold vm h version name = machine f vm ▸ λ d. source_image f fold d h version name
