-- The text of a capsule of a machine: a head line, a line for each instruction, and the line of its locks.
use Rattle.std.specs.Prelude.{◌≡◌, ℕ, List, [], ◌++◌, length, map, codes, decimal}
use Rattle.std.specs.List.{slice_index_or}
use Rattle.mate_code.specs.CodeUses.{uses_of}
use Rattle.mate_code.specs.Listing.{listing_text}
use Rattle.mate_code.specs.Run.{Code}
use Rattle.capsule_codec.specs.Image.{CapsuleParts, IsOfMachine}
use Rattle.code_verifier.specs.Verified.{VerifiedCode}
use Rattle.opcode_gen.specs.TableText.{names_of_functions}
use Rattle.vm_shape.specs.Shapes.{shape_of}
use Rattle.vm_shape.specs.declared.description.Description.{Description}
use Rattle.opcode_gen.specs.LockLine.{lock_line}

-- the name of the handler at a place
abbrev pub handler_name_at : Description → ℕ → List ℕ
handler_name_at d place = slice_index_or (map (λ h. h.name) d.handlers.items) place []

-- the handler's name, the version, and how many bytes the code has
abbrev pub head_line : List ℕ → ℕ → ℕ → List ℕ
head_line handler version size = codes "capsule " ++ handler ++ codes " " ++ decimal version ++ codes " " ++ decimal size ++ codes "\n"

-- the text of a capsule whose bytes of code are these instructions; its locks are what the code reads and writes
abbrev pub capsule_text : Description → CapsuleParts → Code → List ℕ
capsule_text d c code =
    head_line (handler_name_at d c.handler) c.version (length c.code) ++ listing_text (names_of_functions d) code
    ++ lock_line d (uses_of (shape_of d) code)

-- the capsule is for the machine, and this is its code, verified for the machine
pub record IsVerifiedFor (d : Description) (c : CapsuleParts) (v : VerifiedCode) : Type 0 where
  pub of_machine : IsOfMachine d c
  pub shape_is : v.shape ≡ shape_of d
  pub bytes_are : v.bytes ≡ c.code
