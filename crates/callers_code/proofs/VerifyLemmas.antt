-- What a verification answers, if the definitions compute it.
use Rattle.std.proofs.Common.{◌≡◌, ℕ, List, Ok, Err, refl, ap, ap₂}
use Rattle.std.specs.Prelude.{Result, IsOk}
use Rattle.mate_num.specs.declared.shape.Shape.{Shape}
use Rattle.mate_code.specs.BytesVerification.{bytes_verification}
use Rattle.mate_code.specs.Run.{Code}
use Rattle.mate_code.specs.Verification.{Marks}
use Rattle.code_verifier.specs.Verified.{VerifiedCode, Verifies}
use Rattle.mate_code.specs.declared.fault.VerifyFault.{VerifyFault}
use Rattle.mate_code.specs.declared.fault.VerifyFault.TheVariants.{DepthDiffers}

pub refused_by_depth : (shape : Shape) (bytes : List ℕ) (place : ℕ) (result : Result VerifiedCode VerifyFault)
    → bytes_verification shape bytes ≡ Err (DepthDiffers place) → Verifies shape bytes result → result ≡ Err (DepthDiffers place)
refused_by_depth shape bytes place (Ok v) is verifies =
    let same = ap₂ bytes_verification verifies.shape_is verifies.bytes_are in let accepted = verifies.is_verified.accepted in cc
refused_by_depth shape bytes place (Err fault) is verifies = let told : fault ≡ DepthDiffers place = cc in ap (λ (f : VerifyFault). Err f) told

pub is_accepted : (shape : Shape) (bytes : List ℕ) (code : Code) (marks : Marks) (result : Result VerifiedCode VerifyFault)
    → bytes_verification shape bytes ≡ Ok (code, marks) → Verifies shape bytes result → IsOk result
is_accepted shape bytes code marks (Ok v) is verifies = refl
is_accepted shape bytes code marks (Err fault) is verifies = cc
