-- What the calls of a node make of a step.
use Rattle.std.proofs.Common.{◌≡◌, ℕ, ◌<◌, ◌≤◌, List, [], ◌∷◌, length, Result, Ok, Err, refl, sym, ◌∙◌, ap, subst, arith, inl, inr}
use Rattle.std.specs.Prelude.{IsOk, slice_index_or}
use Rattle.std.proofs.lemmas.Option.{slice_get_read}
use Rattle.mate_num.specs.declared.call.Stamp.{Stamp}
use Rattle.capsule_codec.specs.Image.{CapsuleParts}
use Rattle.capsule_codec.specs.Reading.{capsule_in}
use Rattle.capsule_codec.specs.declared.decoding.CapsuleFault.{CapsuleFault}
use Rattle.capsule_codec.proofs.ImageLemmas.{capsule_again}
use Rattle.mate_code.specs.declared.fault.VerifyFault.{VerifyFault}
use Rattle.mate_code.specs.BytesVerification.{bytes_verification}
use Rattle.vm_shape.specs.Shapes.{shape_of}
use Rattle.vm_shape.specs.declared.description.Description.{Description}
use Rattle.mate_journal.specs.declared.entry.VoidCause.{VoidCause}
use Rattle.mate_journal.specs.declared.entry.VoidCause.TheVariants as void
use Rattle.mate_journal.specs.declared.program.Program.{Program}
use Rattle.mate_journal.specs.Machine.{HeldProgram}
use Rattle.mate_journal.specs.Journal.{JournalEntry, Void, NodeState}
use Rattle.mate_journal.specs.Pace.{Pace, paced_all}
use Rattle.mate_journal.specs.NodeScript.{Install, Makes, Installs, IsNotNewer}
use Rattle.node_state.specs.Meaning.{machine_in}
use Rattle.node_calls.specs.Installing.{IsRightCapsule, IsUnverified, program_by, InstallsBytes, IsNoNewer, Refuses}
use Rattle.node_calls.specs.declared.installing.InstallFault.{InstallFault}
use Rattle.node_calls.specs.declared.installing.InstallFault.TheVariants.{Capsule as BadCapsule, Code as BadCode}
use Rattle.node_open.specs.View.{NodeView, Tells}
use Rattle.node_open.proofs.CallLemmas.{Tells-by}
use Rattle.node_open.specs.Calls.{Pacing}
use Rattle.node_state.specs.Keeps.{IsTimely}
use Rattle.node_programs.specs.Right.{IsRightProgram, AreRightPrograms}
use Rattle.node_programs.specs.ScriptSteps.{held_or_none, program_at}
use Rattle.node_programs.specs.Sources.{held_as}
use Rattle.node_runs.specs.Running.{IsReadyFor}

-- a step that could do nothing
pub Tells-void : (old mid new : NodeView) (at : Stamp) (cause : VoidCause) (Other : Pace → List JournalEntry → Pace → Type 0) → mid ≡ old
    → ((p : Pace) → Other p (Void cause ∷ []) (paced_all p (Void cause ∷ []))) → Tells mid new at (Pacing (λ _ told. told ≡ Void cause ∷ [])) → Tells old new at Other
Tells-void old mid new at cause Other same makes t =
    Tells-by old new at (Pacing (λ _ told. told ≡ Void cause ∷ [])) Other
    (λ p told q x.
    let Q : List JournalEntry → Type 0 = λ ts. Other p ts (paced_all p ts) in
    subst (Other p told) (sym x.1) (subst Q (sym x.0) (makes p)))
    (let P : NodeView → Type 0 = λ v. Tells v new at (Pacing (λ _ told. told ≡ Void cause ∷ [])) in subst P same t)

-- a step that could do nothing leaves the node ready
pub ready-still : (old mid : NodeView) (at : Stamp) → mid ≡ old → IsReadyFor old at → IsTimely at mid.log × (1 ≤ mid.log.spare)
ready-still old mid at same ready =
    let P : NodeView → Type 0 = λ v. IsTimely at v.log × (1 ≤ v.log.spare) in
    let room = ready.room in
    subst P (sym same) (ready.timely, omega (arith, room))

-- ---- the program of a file

module _ (ps list : List Program) (file : ℕ) (p : Program) (same : list ≡ ps) (below : file < length ps) (is : p ≡ slice_index_or list file p) where
  stands : p ≡ slice_index_or ps file p
  stands = is ∙ ap (λ (l : List Program). slice_index_or l file p) same

  pub right-program : (d : Description) → AreRightPrograms d ps → IsRightProgram d p
  right-program d are = subst (IsRightProgram d) (sym stands) (are file p below)

  pub program-is : held_as p ≡ program_at ps file
  program-is = ap held_or_none (sym (slice_get_read ps (length ps) file p refl below stands))

-- ---- installs

same_ok : {A E : Type 0} (r : Result A E) (x y : A) → r ≡ Ok x → r ≡ Ok y → x ≡ y
same_ok r x y a b = let e : Ok x ≡ Ok y = sym a ∙ b in cc

not_both : {A E : Type 0} (r : Result A E) (x : A) (e : E) → r ≡ Ok x → r ≡ Err e → ⊥
not_both r x e a b = let both : Ok x ≡ Err e = sym a ∙ b in cc

not_refused : {A E : Type 0} (r : Result A E) (e : E) → IsOk r → r ≡ Err e → ⊥
not_refused (Ok x) e ok is = cc
not_refused (Err x) e ok is = cc

module _ (d : Description) (p : Program) (right : IsRightProgram d p) where
  -- the image is this capsule
  decodes : capsule_in d p.image.items ≡ Ok right.capsule
  decodes = ap (capsule_in d) right.image ∙ capsule_again d right.capsule right.is_capsule right.of_machine

  is-capsule : (fault : CapsuleFault) → capsule_in d p.image.items ≡ Err fault → ⊥
  is-capsule fault refused = not_both (capsule_in d p.image.items) right.capsule fault decodes refused

  is-verified : (fault : VerifyFault) → IsUnverified d p.image.items fault → ⊥
  is-verified fault u =
      let same : u.capsule ≡ right.capsule = same_ok (capsule_in d p.image.items) u.capsule right.capsule u.decoded decodes in
      not_refused (bytes_verification (shape_of d) right.capsule.code) fault right.verified
      (ap (λ (c : CapsuleParts). bytes_verification (shape_of d) c.code) (sym same) ∙ u.refused)

  -- no install of it is refused for its capsule or its code
  pub not-bad_capsule : (r : NodeState) (bytes : List ℕ) (fault : InstallFault) (cause : CapsuleFault) → bytes ≡ p.image.items → fault ≡ BadCapsule cause → Refuses d r bytes fault → ⊥
  not-bad_capsule r bytes fault cause same is refused =
      let P : List ℕ → Type 0 = λ bs. capsule_in d bs ≡ Err cause in
      let Q : InstallFault → Type 0 = λ f. Refuses d r bytes f in
      is-capsule cause (subst P same (subst Q is refused))

  pub not-bad_code : (r : NodeState) (bytes : List ℕ) (fault : InstallFault) (cause : VerifyFault) → bytes ≡ p.image.items → fault ≡ BadCode cause → Refuses d r bytes fault → ⊥
  not-bad_code r bytes fault cause same is refused =
      let P : List ℕ → Type 0 = λ bs. IsUnverified d bs cause in
      let Q : InstallFault → Type 0 = λ f. Refuses d r bytes f in
      is-verified cause (subst P same (subst Q is refused))

  -- the capsule's program is this one
  is-program : (c : CapsuleParts) → IsRightCapsule d p.image.items c → program_by c p.image.items ≡ held_as p
  is-program c of =
      let same : c ≡ right.capsule = same_ok (capsule_in d p.image.items) c right.capsule of.decoded decodes in
      ap (λ (x : CapsuleParts). program_by x p.image.items) same
      ∙ ap (λ (n : ℕ). let h : HeldProgram = record { handler = record { 0 = n }; version = right.capsule.version; image = p.image } in h) right.handler
      ∙ ap (λ (n : ℕ). let h : HeldProgram = record { handler = p.handler; version = n; image = p.image } in h) right.version

  pub Makes-installed : (r : NodeState) (pace : Pace) (told : List JournalEntry) (q : Pace) → Pacing (InstallsBytes d r p.image.items) pace told q
      → Makes (machine_in d) r pace (Install (held_as p)) told q
  Makes-installed r pace told q x =
      let P : HeldProgram → Type 0 = λ h. Installs (machine_in d) r pace h told in
      (inl (subst P (is-program x.0.capsule x.0.right) x.0.installs), x.1)

  pub Makes-not_newer : (r : NodeState) (pace : Pace) (version : ℕ) → IsNoNewer d r p.image.items version
      → Makes (machine_in d) r pace (Install (held_as p)) (Void (void.NotNewer version) ∷ []) (paced_all pace (Void (void.NotNewer version) ∷ []))
  Makes-not_newer r pace version n =
      let is : program_by n.capsule p.image.items ≡ held_as p = is-program n.capsule n.right in
      let P : HeldProgram → Type 0 = λ h. IsNotNewer r h (Void (void.NotNewer version) ∷ []) in
      let made : IsNotNewer r (program_by n.capsule p.image.items) (Void (void.NotNewer version) ∷ []) =
      record { older = n.older; made = ap (λ (v : ℕ). Void (void.NotNewer v) ∷ []) n.held_is } in
      (inr (subst P is made), refl)
