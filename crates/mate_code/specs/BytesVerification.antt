-- Verification of bytes: first their number, then decoding, then the pass over the code.
use Rattle.std.specs.Prelude.{◌≡◌, ℕ, ◌≤◌, List, Result, Ok, Err, length, nat_lt, if◌then◌else◌}
use Rattle.mate_num.specs.Results.{result_map}
use Rattle.mate_num.specs.declared.bounds.TheConstants.{CODE_MAX}
use Rattle.mate_num.specs.declared.shape.Shape.{Shape}
use Rattle.mate_code.specs.declared.decoding.DecodeFault.{DecodeFault}
use Rattle.mate_code.specs.declared.decoding.DecodeFault.TheVariants.{BadOpcode, CutShort}
use Rattle.mate_code.specs.Code.{decoded, IsDecoded}
use Rattle.mate_code.specs.Run.{Code, size_of_code}
use Rattle.mate_code.specs.Table.{table_of}
use Rattle.mate_code.specs.declared.fault.VerifyFault.{VerifyFault}
use Rattle.mate_code.specs.declared.fault.VerifyFault.TheVariants.{Decode, TooLong}
use Rattle.mate_code.specs.Verification.{Marks, verification, IsVerified}

-- the code with its marks, unless it is refused
abbrev pub of_decoded : Shape → Result Code DecodeFault → Result (Code × Marks) VerifyFault
of_decoded shape (Ok code) = result_map (λ marks. (code, marks)) (verification shape code)
of_decoded shape (Err (BadOpcode place)) = Err (Decode place)
of_decoded shape (Err (CutShort place)) = Err (Decode place)

-- the code that the bytes spell with the depth at each of its places, or the first refusal
abbrev pub bytes_verification : Shape → List ℕ → Result (Code × Marks) VerifyFault
bytes_verification shape bytes =
    if nat_lt CODE_MAX (length bytes) then Err (TooLong (length bytes)) else of_decoded shape (decoded (table_of shape) bytes)

-- what the verification of bytes shows of the code
pub record AreVerified (shape : Shape) (bytes : List ℕ) (code : Code) (marks : Marks) : Type 0 where
  pub is_decoded : IsDecoded (table_of shape) 0 bytes code
  pub is_verified : IsVerified shape code marks
  pub size : size_of_code code ≡ length bytes
  pub fits : length bytes ≤ CODE_MAX
