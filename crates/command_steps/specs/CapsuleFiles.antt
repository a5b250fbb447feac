-- What a file is that should hold a capsule in hexadecimal digits: a capsule of the machine with code that the verifier takes, or the
-- first refusal.
use Rattle.std.specs.Prelude.{◌≡◌, ℕ, List, Result, Ok, Err}
use Rattle.std.specs.Result.{result_map_both}
use Rattle.mate_num.specs.Results.{◌>>=◌}
use Rattle.capsule_codec.specs.Image.{CapsuleParts}
use Rattle.capsule_codec.specs.Reading.{capsule_in}
use Rattle.capsule_codec.specs.HexText.{image_in}
use Rattle.mate_code.specs.BytesVerification.{bytes_verification}
use Rattle.mate_code.specs.Run.{Code}
use Rattle.vm_shape.specs.Shapes.{shape_of}
use Rattle.vm_shape.specs.declared.description.Description.{Description}
use Rattle.command_refusals.specs.declared.cause.Cause.TheVariants as cause
use Rattle.command_refusals.specs.declared.refusal.Refusal.{Refusal}
use Rattle.command_refusals.specs.declared.refusal.Refusal.TheVariants.{InFile}
use Rattle.command_steps.specs.Parts.{Folder, file}
use Rattle.command_steps.specs.Steps.{judged, ◌▸◌}
use Rattle.command_refusals.specs.declared.capsule_cause.CapsuleCause.{CapsuleCause}
use Rattle.command_refusals.specs.declared.capsule_cause.CapsuleCause.TheVariants.{Digits, Image, Code as BadCode}

-- ---- texts

-- the capsule of the machine whose image the text spells, or the first refusal: of the digits, then of the image
abbrev pub spelled_parts : Description → List ℕ → Result CapsuleParts CapsuleCause
spelled_parts d text =
    result_map_both (λ i. i) Digits (image_in text) >>= (λ image. result_map_both (λ c. c) Image (capsule_in d image.items))

-- this capsule with the code as which the verifier takes its bytes, or the first refusal, also of the code
abbrev pub spelled_code : Description → List ℕ → Result (CapsuleParts × Code) CapsuleCause
spelled_code d text =
    spelled_parts d text >>= (λ c. result_map_both (λ v. (c, v.0)) BadCode (bytes_verification (shape_of d) c.code))

-- ---- steps

-- the capsule that a text spells, with its code
abbrev pub spelled_capsule : Description → List ℕ → List ℕ → Result (CapsuleParts × Code) Refusal → Type 0
spelled_capsule d name bytes =
    judged (λ c. spelled_code d bytes ≡ Ok c) (λ why. spelled_code d bytes ≡ Err why) (λ why. InFile name (cause.Capsule why))

-- the capsule of a file
abbrev pub capsule : Folder → Description → List ℕ → Result (CapsuleParts × Code) Refusal → Type 0
capsule f d name = file f name ▸ λ bytes. spelled_capsule d name bytes.items
