-- Compiler, verifier and lock inference together.
use Rattle.std.proofs.Common.{◌≡◌, ℕ, List, Result, Ok, Err, sym, ◌∙◌, ap, subst}
use Rattle.arrayvec.specs.ArrayVec.{ArrayVec}
use Rattle.mate_num.specs.Uses.{Uses, IsSameUses}
use Rattle.mate_num.specs.declared.lock_set.LockSet.{LockSet}
use Rattle.mate_num.specs.declared.shape.Shape.{Shape}
use Rattle.mate_code.specs.BytesVerification.{bytes_verification}
use Rattle.ts_checked.specs.Statement.{Block}
use Rattle.ts_semantics.specs.Uses.{script_uses}
use Rattle.ts_semantics.specs.Translation.{code_of}
use Rattle.ts_semantics.proofs.UsesLemmas.{UsesAsItsScript-script_code}
use Rattle.ts_compiler.specs.Compiled.{AreAccepted}
use Rattle.code_verifier.specs.Verified.{VerifiedCode, Verifies, marks_of}
use Rattle.mate_code.specs.declared.fault.VerifyFault.{VerifyFault}
use Rattle.lock_inference.specs.Locks.{AreLocksOf, held_uses}

pub taken : (shape : Shape) (tree : Block) (bytes : ArrayVec ℕ) (fault : VerifyFault) → AreAccepted shape tree bytes → Verifies shape bytes.items (Err fault) → ⊥
taken shape tree bytes fault are refused = let e = are.1 in cc

-- the first part of the one value that x is
pub first_same : {A B E : Type 0} (a c : A) (b d : B) (x : Result (A × B) E) → x ≡ Ok (a, b) → x ≡ Ok (c, d) → a ≡ c
first_same {A} {B} a c b d x p q =
    let e : Ok (a, b) ≡ Ok (c, d) = sym p ∙ q in
    let pair : (a, b) ≡ (c, d) = cc in
    ap (λ (z : A × B). z.0) pair

pub code : (shape : Shape) (tree : Block) (bytes : ArrayVec ℕ) (v : VerifiedCode) → AreAccepted shape tree bytes → Verifies shape bytes.items (Ok v) → v.code ≡ code_of tree
code shape tree bytes v are is =
    let a : bytes_verification shape v.bytes ≡ Ok (v.code, marks_of v) =
    subst (λ (s : Shape). bytes_verification s v.bytes ≡ Ok (v.code, marks_of v)) is.shape_is is.is_verified.accepted in
    let b : bytes_verification shape bytes.items ≡ Ok (v.code, marks_of v) =
    subst (λ (bs : List ℕ). bytes_verification shape bs ≡ Ok (v.code, marks_of v)) is.bytes_are a in
    first_same v.code (code_of tree) (marks_of v) are.0 (bytes_verification shape bytes.items) b are.1

pub locks : (shape : Shape) (tree : Block) (set : LockSet) → AreLocksOf shape (code_of tree) set → IsSameUses (held_uses set) (script_uses shape tree)
locks shape tree set are = subst (λ (u : Uses). IsSameUses (held_uses set) u) (UsesAsItsScript-script_code shape tree) are
