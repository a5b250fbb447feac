-- What the verification of bytes says of the code.
use Rattle.std.proofs.Common.{◌≡◌, ℕ, ◌+◌, ◌≤◌, List, [], ◌∷◌, Bool, true, false, Result, Ok, Err, length, refl, ap, sym, ◌∙◌, subst, length-append}
use Rattle.mate_num.specs.Results.{result_map}
use Rattle.std.specs.Prelude.{nat_lt, if◌then◌else◌}
use Rattle.std.proofs.lemmas.Bool.{ltb-false}
use Rattle.mate_num.specs.declared.bounds.TheConstants.{CODE_MAX}
use Rattle.mate_num.specs.declared.shape.Shape.{Shape}
use Rattle.mate_code.specs.declared.decoding.DecodeFault.{DecodeFault}
use Rattle.mate_code.specs.declared.decoding.DecodeFault.TheVariants.{BadOpcode, CutShort}
use Rattle.mate_code.specs.declared.instr.Instr.{Instr}
use Rattle.mate_code.specs.BytesVerification.{of_decoded, bytes_verification, AreVerified}
use Rattle.mate_code.specs.Code.{code_bytes, instr_bytes, placed, instrs_of, decoded, AreBytes, IsDecoded}
use Rattle.mate_code.specs.Instr.{size_of}
use Rattle.mate_code.specs.Run.{Code, size_of_code}
use Rattle.mate_code.specs.Table.{Layout, table_of}
use Rattle.mate_code.specs.declared.fault.VerifyFault.{VerifyFault}
use Rattle.mate_code.specs.declared.fault.VerifyFault.TheVariants.{TooLong}
use Rattle.mate_code.specs.Verification.{Marks, verification, AreFrom}
use Rattle.mate_code.proofs.CodeLemmas.{length-instr_bytes}
use Rattle.mate_code.proofs.DecodeLaws.{IsDecoded-decoded}

pub placed-AreFrom : (place : ℕ) (instrs : List Instr) → AreFrom place (placed place instrs)
placed-AreFrom place [] = tt
placed-AreFrom place (i ∷ instrs) = (refl, placed-AreFrom (place + size_of i) instrs)

pub size_of_code-placed : (t : Layout) (place : ℕ) (instrs : List Instr) → size_of_code (placed place instrs) ≡ length (code_bytes t instrs)
size_of_code-placed t place [] = refl
size_of_code-placed t place (i ∷ instrs) =
    ap (λ (n : ℕ). size_of i + n) (size_of_code-placed t (place + size_of i) instrs)
    ∙ ap (λ (n : ℕ). n + length (code_bytes t instrs)) (sym (length-instr_bytes t i))
    ∙ sym (length-append (instr_bytes t i) (code_bytes t instrs))

with_code-Ok : (code : Code) (r : Result Marks VerifyFault) (code' : Code) (marks : Marks) → result_map {B = Code × Marks} (λ marks. (code, marks)) r ≡ Ok (code', marks) → (code ≡ code') × (r ≡ Ok marks)
with_code-Ok code (Ok m) code' marks e =
    let p : ◌≡◌ {A = Code × Marks} (code, m) (code', marks) = cc in
    (ap (λ (x : Code × Marks). x.0) p, ap (λ (x : Code × Marks). Ok x.1) p)
with_code-Ok code (Err refusal) code' marks e = cc

-- what is decoded and verified
record Parts (shape : Shape) (r : Result Code DecodeFault) (code : Code) (marks : Marks) : Type 0 where
  is_decoded : r ≡ Ok code
  passed : verification shape code ≡ Ok marks

of_decoded-Parts : (shape : Shape) (r : Result Code DecodeFault) (code : Code) (marks : Marks) → of_decoded shape r ≡ Ok (code, marks) → Parts shape r code marks
of_decoded-Parts shape (Ok c) code marks e =
    let h = with_code-Ok c (verification shape c) code marks e in
    let P : Code → Type 0 = λ d. verification shape d ≡ Ok marks in
    record { is_decoded = ap (λ (d : Code). Ok d) h.0; passed = subst P h.0 h.1 }
of_decoded-Parts shape (Err (BadOpcode place)) code marks e = cc
of_decoded-Parts shape (Err (CutShort place)) code marks e = cc

fits_from : (shape : Shape) (bytes : List ℕ) (code : Code) (marks : Marks) → bytes_verification shape bytes ≡ Ok (code, marks) → (length bytes ≤ CODE_MAX) × (of_decoded shape (decoded (table_of shape) bytes) ≡ Ok (code, marks))
fits_from shape bytes code marks e = by (nat_lt CODE_MAX (length bytes)) refl e where
  by : (b : Bool) → nat_lt CODE_MAX (length bytes) ≡ b → (if b then Err (TooLong (length bytes)) else of_decoded shape (decoded (table_of shape) bytes)) ≡ Ok (code, marks) → (length bytes ≤ CODE_MAX) × (of_decoded shape (decoded (table_of shape) bytes) ≡ Ok (code, marks))
  by true is e = cc
  by false is e = (ltb-false CODE_MAX (length bytes) is, e)

pub bytes-AreVerified : (shape : Shape) (bytes : List ℕ) (code : Code) (marks : Marks) → AreBytes bytes → bytes_verification shape bytes ≡ Ok (code, marks) → AreVerified shape bytes code marks
bytes-AreVerified shape bytes code marks are e =
    let h = fits_from shape bytes code marks e in
    let p = of_decoded-Parts shape (decoded (table_of shape) bytes) code marks h.1 in
    let d : IsDecoded (table_of shape) 0 bytes code = IsDecoded-decoded (table_of shape) bytes code are p.is_decoded in
    let F : Code → Type 0 = λ c. AreFrom 0 c in
    record {
      is_decoded = d;
      is_verified = record { places = subst F d.places (placed-AreFrom 0 (instrs_of code)); passed = p.passed };
      size = ap size_of_code (sym d.places) ∙ size_of_code-placed (table_of shape) 0 (instrs_of code) ∙ ap (λ (bs : List ℕ). length bs) d.encoding;
      fits = h.0;
    }
