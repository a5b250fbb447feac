-- Live invocations with ready programs: conflicts, and runs.
use Rattle.std.proofs.Common.{◌≡◌, ℕ, Bool, List, None, sym, ◌∙◌, ap, subst}
use Rattle.std.specs.Prelude.{Decides}
use Rattle.std.proofs.lemmas.Bool.Decides.{same_from_decides}
use Rattle.arrayvec.specs.ArrayVec.{ArrayVec}
use Rattle.mate_num.specs.Uses.{Uses, Conflicts}
use Rattle.mate_num.specs.declared.resource.Resource.{Resource}
use Rattle.mate_num.specs.declared.shape.Shape.{Shape}
use Rattle.mate_num.specs.declared.store.Store.{Store}
use Rattle.mate_code.specs.CodeUses.{uses_of}
use Rattle.mate_code.specs.Run.{Code}
use Rattle.vm_shape.specs.Shapes.{shape_of}
use Rattle.vm_shape.specs.declared.description.Description.{Description}
use Rattle.mate_journal.specs.Journal.{Invocation, NodeState}
use Rattle.mate_journal.specs.Machine.{HeldProgram, Meaning}
use Rattle.mate_journal.specs.declared.program.Program.{Program}
use Rattle.node_state.specs.Meaning.{image_code}
use Rattle.node_programs.specs.Right.{AreRightPrograms}
use Rattle.node_programs.specs.Sources.{meaning_by}
use Rattle.node_programs.proofs.MeaningLemmas.{meaning_by-right}
use Rattle.audit_rules.specs.Rerun.{run_on}
use Rattle.audit_rules.specs.Shown.{HasLengthsOf}
use Rattle.audit_rules.proofs.ConflictLemmas.{code-TellsConflicts}
use Rattle.audit_rules.specs.Laws.{machine_by}
use Rattle.audit_rules.specs.Tests.{conflict_of}
use Rattle.audit_rules.proofs.RightLemmas.{lengths}
use Rattle.audit_programs.specs.Images.{IsImageCode}
use Rattle.audit_programs.specs.Ready.{IsReadyAs}
use Rattle.audit_programs.specs.declared.ready.ReadyProgram.{ReadyProgram}

-- ready programs conflict where the held ones do
pub conflict-told : (d : Description) (p q : HeldProgram) (a b : ReadyProgram) (r : Bool) → IsReadyAs d p a → IsReadyAs d q b → Decides r (Conflicts (uses_of a.code.shape a.code.code) (uses_of b.code.shape b.code.code)) → r ≡ conflict_of d p q
conflict-told d p q a b r of_p of_q told =
    let shape : Shape = shape_of d in
    let uses_p : uses_of a.code.shape a.code.code ≡ uses_of shape (image_code shape p.image) = ap (λ (s : Shape). uses_of s a.code.code) of_p.code.shape ∙ ap (λ (c : Code). uses_of shape c) of_p.code.code in
    let uses_q : uses_of b.code.shape b.code.code ≡ uses_of shape (image_code shape q.image) = ap (λ (s : Shape). uses_of s b.code.code) of_q.code.shape ∙ ap (λ (c : Code). uses_of shape c) of_q.code.code in
    let P : Uses → Type 0 = λ u. Decides r (Conflicts u (uses_of b.code.shape b.code.code)) in
    let Q : Uses → Type 0 = λ u. Decides r (Conflicts (uses_of shape (image_code shape p.image)) u) in
    same_from_decides r (conflict_of d p q) (subst Q uses_q (subst P uses_p told)) (code-TellsConflicts shape (λ h. image_code shape h.image) p q)

-- a run keeps them
pub run_on-lengths : (d : Description) (ps : List Program) (store : Store) (i : Invocation) → AreRightPrograms d ps → HasLengthsOf (machine_by d ps) store → HasLengthsOf (machine_by d ps) (run_on (machine_by d ps) store i).store
run_on-lengths d ps store i right long =
    let r : NodeState = record { serial = store; posts = 0; installed = λ _. None; invocations = λ _. i } in
    lengths d ps right r 0 long

-- a program is ready for one that is held with the same image
pub IsReadyAs-image : (d : Description) (h p : HeldProgram) (r : ReadyProgram) → h.image ≡ p.image → IsReadyAs d h r → IsReadyAs d p r
IsReadyAs-image d h p r same ready = record { code = subst (λ (image : ArrayVec ℕ). IsImageCode d image r.code) same ready.code; own = ready.own }

-- what the code writes is what the held program writes
pub writes-told : (d : Description) (ps : List Program) (h : HeldProgram) (a : ReadyProgram) (at : Resource) → AreRightPrograms d ps → IsReadyAs d h a → (uses_of a.code.shape a.code.code).writes at ≡ ((meaning_by d ps).uses h).writes at
writes-told d ps h a at right ready =
    ap (λ (s : Shape). (uses_of s a.code.code).writes at) ready.code.shape
    ∙ ap (λ (c : Code). (uses_of (shape_of d) c).writes at) ready.code.code
    ∙ ap (λ (m : Meaning). (m.uses h).writes at) (sym (meaning_by-right d ps right))
