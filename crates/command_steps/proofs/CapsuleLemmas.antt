-- What a text spells, step by step.
use Rattle.std.proofs.Common.{◌≡◌, ℕ, List, Result, Ok, Err, refl, ◌∙◌, ap, subst}
use Rattle.std.specs.Result.{result_map_both}
use Rattle.arrayvec.specs.ArrayVec.{ArrayVec}
use Rattle.capsule_codec.specs.HexText.{image_in}
use Rattle.capsule_codec.specs.Image.{CapsuleParts}
use Rattle.capsule_codec.specs.Reading.{capsule_in}
use Rattle.capsule_codec.specs.declared.decoding.CapsuleFault.{CapsuleFault}
use Rattle.capsule_codec.specs.declared.hex_text.HexFault.{HexFault}
use Rattle.mate_code.specs.BytesVerification.{bytes_verification}
use Rattle.mate_code.specs.Run.{Code}
use Rattle.mate_code.specs.Verification.{Marks}
use Rattle.mate_code.specs.declared.fault.VerifyFault.{VerifyFault}
use Rattle.mate_num.specs.Results.{◌>>=◌}
use Rattle.command_refusals.specs.declared.capsule_cause.CapsuleCause.{CapsuleCause}
use Rattle.command_refusals.specs.declared.capsule_cause.CapsuleCause.TheVariants.{Digits, Image, Code as BadCode}
use Rattle.command_steps.specs.CapsuleFiles.{spelled_parts, spelled_code}
use Rattle.vm_shape.specs.Shapes.{shape_of}
use Rattle.vm_shape.specs.declared.description.Description.{Description}

-- the steps after the digits, and after the image
abbrev parts_from : Description → Result (ArrayVec ℕ) HexFault → Result CapsuleParts CapsuleCause
parts_from d image = result_map_both (λ i. i) Digits image >>= (λ image. result_map_both (λ c. c) Image (capsule_in d image.items))

abbrev code_from : Description → Result CapsuleParts CapsuleCause → Result (CapsuleParts × Code) CapsuleCause
code_from d parts = parts >>= (λ c. result_map_both (λ v. (c, v.0)) BadCode (bytes_verification (shape_of d) c.code))

-- ---- from the steps to the whole

pub digits-refused : (d : Description) (text : List ℕ) (fault : HexFault) → image_in text ≡ Err fault → spelled_parts d text ≡ Err (Digits fault)
digits-refused d text fault is = ap (parts_from d) is

pub image-read : (d : Description) (text : List ℕ) (image : ArrayVec ℕ) (read : Result CapsuleParts CapsuleFault) → image_in text ≡ Ok image
    → capsule_in d image.items ≡ read → spelled_parts d text ≡ result_map_both (λ c. c) Image read
image-read d text image read spelled is = ap (parts_from d) spelled ∙ ap (result_map_both (λ c. c) Image) is

pub parts-refused : (d : Description) (text : List ℕ) (cause : CapsuleCause) → spelled_parts d text ≡ Err cause → spelled_code d text ≡ Err cause
parts-refused d text cause is = ap (code_from d) is

pub code-read : (d : Description) (text : List ℕ) (c : CapsuleParts) (read : Result (Code × Marks) VerifyFault) → spelled_parts d text ≡ Ok c
    → bytes_verification (shape_of d) c.code ≡ read → spelled_code d text ≡ result_map_both (λ v. (c, v.0)) BadCode read
code-read d text c read spelled is = ap (code_from d) spelled ∙ ap (result_map_both (λ v. (c, v.0)) BadCode) is

-- ---- from the whole to the steps

-- what each step gave
pub record SpelledSteps (d : Description) (text : List ℕ) (c : CapsuleParts × Code) : Type 0 where
  pub image : ArrayVec ℕ
  pub marks : Marks
  pub spelled : image_in text ≡ Ok image
  pub decoded : capsule_in d image.items ≡ Ok c.0
  pub accepted : bytes_verification (shape_of d) c.0.code ≡ Ok (c.1, marks)

module _ (d : Description) (text : List ℕ) (c : CapsuleParts × Code) where
  by-code : (image : ArrayVec ℕ) (parts : CapsuleParts) → image_in text ≡ Ok image → capsule_in d image.items ≡ Ok parts
      → (v : Result (Code × Marks) VerifyFault) → bytes_verification (shape_of d) parts.code ≡ v → result_map_both (λ v. (parts, v.0)) BadCode v ≡ Ok c
      → SpelledSteps d text c
  by-code image parts spelled decoded (Err fault) read is = cc
  by-code image parts spelled decoded (Ok v) read is =
      let same : (parts, v.0) ≡ c = cc in
      subst (SpelledSteps d text) same (record { image = image; marks = v.1; spelled = spelled; decoded = decoded; accepted = read })

  by-parts : (image : ArrayVec ℕ) → image_in text ≡ Ok image → (r : Result CapsuleParts CapsuleFault) → capsule_in d image.items ≡ r
      → code_from d (result_map_both (λ c. c) Image r) ≡ Ok c → SpelledSteps d text c
  by-parts image spelled (Err fault) read is = cc
  by-parts image spelled (Ok parts) read is = by-code image parts spelled read (bytes_verification (shape_of d) parts.code) refl is

  by-image : (r : Result (ArrayVec ℕ) HexFault) → image_in text ≡ r → code_from d (parts_from d r) ≡ Ok c → SpelledSteps d text c
  by-image (Err fault) read is = cc
  by-image (Ok image) read is = by-parts image read (capsule_in d image.items) refl is

  pub spelled-steps : spelled_code d text ≡ Ok c → SpelledSteps d text c
  spelled-steps is = by-image (image_in text) refl is
