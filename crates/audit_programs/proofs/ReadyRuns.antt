-- Programs that are made ready: the code of an image, its run, and conflicts by locks.
use Rattle.std.proofs.Common.{◌≡◌, ℕ, ℤ, Bool, true, false, List, [], Result, Ok, Err, refl, sym, ◌∙◌, ap, subst}
use Rattle.std.specs.Result.{result_unwrap_or}
use Rattle.mate_num.specs.Results.{result_map}
use Rattle.std.specs.Prelude.{MatchResult, MatchBool, Decides, not, drop, length, nat_lt, if◌then◌else◌}
use Rattle.std.proofs.lemmas.Bool.{false≢true}
use Rattle.arrayvec.specs.ArrayVec.{ArrayVec}
use Rattle.mate_num.specs.Uses.{Uses, Conflicts, IsCompatible, IsSameUses}
use Rattle.mate_num.specs.Locks.{lock_uses}
use Rattle.mate_num.specs.declared.bounds.TheConstants.{CODE_MAX}
use Rattle.mate_num.specs.declared.lock_set.LockSet.{LockSet}
use Rattle.mate_num.specs.declared.shape.Shape.{Shape}
use Rattle.mate_num.specs.declared.store.Store.{Store}
use Rattle.mate_code.specs.declared.decoding.DecodeFault.{DecodeFault}
use Rattle.mate_code.specs.declared.decoding.DecodeFault.TheVariants.{BadOpcode, CutShort}
use Rattle.mate_code.specs.BytesVerification.{bytes_verification, of_decoded}
use Rattle.mate_code.specs.Code.{decoded}
use Rattle.mate_code.specs.CodeUses.{uses_of}
use Rattle.mate_code.specs.Run.{Code, code_run}
use Rattle.mate_code.specs.Table.{table_of}
use Rattle.mate_code.specs.declared.fault.VerifyFault.{VerifyFault}
use Rattle.mate_code.specs.declared.fault.VerifyFault.TheVariants.{TooLong}
use Rattle.mate_code.specs.Verification.{Marks, verification}
use Rattle.code_verifier.specs.Verified.{VerifiedCode, IsVerificationOf, marks_of}
use Rattle.lock_inference.specs.Locks.{AreLocksOf}
use Rattle.capsule_codec.specs.Image.{capsule_parts}
use Rattle.capsule_codec.specs.Reading.{GivesCapsule, capsule_in}
use Rattle.capsule_codec.specs.declared.capsule.Capsule.{Capsule}
use Rattle.capsule_codec.specs.declared.decoding.CapsuleFault.{CapsuleFault}
use Rattle.capsule_codec.proofs.ImageLemmas.{capsule_again}
use Rattle.vm_shape.specs.Shapes.{shape_of}
use Rattle.vm_shape.specs.declared.description.Description.{Description}
use Rattle.mate_journal.specs.Machine.{HeldProgram, Meaning}
use Rattle.mate_journal.specs.declared.program.Program.{Program}
use Rattle.node_state.specs.Meaning.{image_code}
use Rattle.node_programs.specs.Right.{IsRightProgram, AreRightPrograms}
use Rattle.node_programs.specs.Sources.{meaning_by}
use Rattle.node_programs.proofs.MeaningLemmas.{meaning_by-right}
use Rattle.audit_programs.specs.Images.{IsImageCode}

-- ---- from an image to code

-- a right program's image is read as its capsule
pub capsule-read : (d : Description) (p : Program) (right : IsRightProgram d p) (bytes : List ℕ) (r : Result Capsule CapsuleFault) → bytes ≡ p.image.items → GivesCapsule r (capsule_in d bytes)
    → MatchResult r (λ c. capsule_parts c ≡ right.capsule) (λ _. ⊥)
capsule-read d p right bytes (Ok c) same gives =
    let e : Ok (capsule_parts c) ≡ Ok right.capsule = sym gives ∙ ap (capsule_in d) (same ∙ right.image) ∙ capsule_again d right.capsule right.is_capsule right.of_machine in
    cc
capsule-read d p right bytes (Err fault) same gives =
    let e : Err fault ≡ Ok right.capsule = sym gives ∙ ap (capsule_in d) (same ∙ right.image) ∙ capsule_again d right.capsule right.is_capsule right.of_machine in
    cc

-- verified bytes spell the code
code-if : (b : Bool) (n : ℕ) (shape : Shape) (code : Code) (marks : Marks) (r : Result Code DecodeFault) → (if b then Err (TooLong n) else of_decoded shape r) ≡ Ok (code, marks) → result_unwrap_or r [] ≡ code
code-if true n shape code marks r is = cc
code-if false n shape code marks (Ok found) is = by (verification shape found) is where
  by : (v : Result Marks VerifyFault) → result_map {B = Code × Marks} (λ marks. (found, marks)) v ≡ Ok (code, marks) → found ≡ code
  by (Ok other) is = let pair : (found, other) ≡ (code, marks) = cc in ap (λ (p : Code × Marks). p.0) pair
  by (Err refusal) is = cc
code-if false n shape code marks (Err (BadOpcode place)) is = cc
code-if false n shape code marks (Err (CutShort place)) is = cc

-- the code of the capsule is that of the image
pub IsImageCode-verified : (d : Description) (p : Program) (right : IsRightProgram d p) (code : List ℕ) (v : VerifiedCode) → code ≡ right.capsule.code → IsVerificationOf (shape_of d) code v → IsImageCode d p.image v
unfolding image_code
IsImageCode-verified d p right code v same is =
    let shape : Shape = shape_of d in
    let S : Shape → Type 0 = λ s. bytes_verification s v.bytes ≡ Ok (v.code, marks_of v) in
    let B : List ℕ → Type 0 = λ bs. bytes_verification shape bs ≡ Ok (v.code, marks_of v) in
    let accepted : bytes_verification shape right.capsule.code ≡ Ok (v.code, marks_of v) = subst B (is.bytes_are ∙ same) (subst S is.shape_is is.is_verified.accepted) in
    let spelled : result_unwrap_or (decoded (table_of shape) right.capsule.code) [] ≡ v.code =
    code-if (nat_lt CODE_MAX (length right.capsule.code)) (length right.capsule.code) shape v.code (marks_of v) (decoded (table_of shape) right.capsule.code) accepted in
    record {
      shape = is.shape_is;
      code = sym (ap (λ (bs : List ℕ). result_unwrap_or (decoded (table_of shape) (drop 16 bs)) []) right.image ∙ spelled);
    }

-- the locks are those of the code, by its own shape
pub locks-kept : (d : Description) (v : VerifiedCode) (locks : LockSet) → v.shape ≡ shape_of d → AreLocksOf (shape_of d) v.code locks → AreLocksOf v.shape v.code locks
locks-kept d v locks is are = let P : Shape → Type 0 = λ shape. AreLocksOf shape v.code locks in subst P (sym is) are

-- ---- runs

-- the run of the code is what the held program means
pub code-means : (d : Description) (ps : List Program) (h : HeldProgram) (v : VerifiedCode) (store : Store) (payload : ArrayVec ℤ) (answers : List ℤ) (turns : ℕ) → AreRightPrograms d ps → IsImageCode d h.image v
    → code_run v.shape v.code store payload answers turns ≡ (meaning_by d ps).run h store payload answers turns
code-means d ps h v store payload answers turns right is =
    ap (λ (shape : Shape). code_run shape v.code store payload answers turns) is.shape
    ∙ ap (λ (code : Code). code_run (shape_of d) code store payload answers turns) is.code
    ∙ ap (λ (m : Meaning). m.run h store payload answers turns) (sym (meaning_by-right d ps right))

-- ---- conflicts

same_uses : (a b : Uses) → IsSameUses a b → a ≡ b
same_uses a b same = λ i. record { reads = λ r. same.reads r i; writes = λ r. same.writes r i }

conflict-told : (b : Bool) (p q : Uses) → MatchBool b (IsCompatible p q) (Conflicts p q) → Decides (not b) (Conflicts p q)
conflict-told true p q apart = (λ e. absurd (false≢true e), λ w. absurd (apart.apart w.resource w.at))
conflict-told false p q conflict = (λ _. conflict, λ _. refl)

-- locks that aren't compatible are those of code that conflicts
pub locks-tell : (p q : VerifiedCode) (a b : LockSet) (compatible : Bool) → AreLocksOf p.shape p.code a → AreLocksOf q.shape q.code b → MatchBool compatible (IsCompatible (lock_uses a) (lock_uses b)) (Conflicts (lock_uses a) (lock_uses b))
    → Decides (not compatible) (Conflicts (uses_of p.shape p.code) (uses_of q.shape q.code))
locks-tell p q a b compatible of_p of_q told =
    let P : Uses → Type 0 = λ u. Decides (not compatible) (Conflicts u (lock_uses b)) in
    let Q : Uses → Type 0 = λ u. Decides (not compatible) (Conflicts (uses_of p.shape p.code) u) in
    subst Q (same_uses (lock_uses b) (uses_of q.shape q.code) of_q) (subst P (same_uses (lock_uses a) (uses_of p.shape p.code) of_p) (conflict-told compatible (lock_uses a) (lock_uses b) told))
