-- What an install records, and what goes on behind it.
use Rattle.std.proofs.Common.{◌≡◌, ◌≤◌, ℕ, true, false, List, [], ◌∷◌, Result, Ok, Err, refl, sym, ap, ◌∙◌, subst, arith, inl, inr}
use Rattle.std.specs.Prelude.{MatchResult, OnOk, IsTrue, if◌then◌else◌, ⊤}
use Rattle.std.proofs.lemmas.Bool.{MatchBool-at_true, MatchBool-at_false}
use Rattle.mate_num.specs.declared.call.Stamp.{Stamp}
use Rattle.mate_num.specs.declared.id.HandlerId.{HandlerId}
use Rattle.vm_shape.specs.declared.description.Description.{Description}
use Rattle.capsule_codec.specs.Image.{CapsuleParts}
use Rattle.capsule_codec.specs.Reading.{capsule_in}
use Rattle.mate_code.specs.BytesVerification.{bytes_verification}
use Rattle.vm_shape.specs.Shapes.{shape_of}
use Rattle.mate_journal.specs.Journal.{JournalEntry, Installed, Seen, NodeState, Phase, Unposted, Queued, Ready, Waiting, Over, is_live, held, state_after_entries}
use Rattle.mate_journal.specs.Machine.{Machine}
use Rattle.mate_journal.specs.NodeScript.{Installs, Resets, Occasion}
use Rattle.mate_journal.specs.Pace.{Pace}
use Rattle.journal_laws.specs.Progress.{IsNoneLive}
use Rattle.node_state.specs.Meaning.{machine_in}
use Rattle.node_calls.specs.Installing.{IsRightCapsule, InstallsBytes, Refuses, capsule_handler, program_by}
use Rattle.node_calls.specs.declared.installing.InstallFault.{InstallFault}
use Rattle.node_calls.specs.declared.installing.InstallFault.TheVariants as fault
use Rattle.node_open.proofs.CallLemmas.{Tells-by}
use Rattle.node_open.specs.Calls.{Pacing, StandsAs}
use Rattle.node_open.specs.View.{NodeView, Tells, HasPace, heard_of}
use Rattle.node_open.specs.declared.standing.Standing.{Standing}
use Rattle.node_open.specs.declared.standing.Standing.TheVariants.{Can, Outside, Idle}
use Rattle.callers_node.proofs.NodeLemmas.{heard-behind}
use Rattle.callers_node.specs.Told.{InstallsThis, BeginsWithEvent}

-- ---- an era's end cuts all

none_cut : (p : Phase) → IsTrue (is_live (if is_live p then Over else p)) → ⊥
none_cut Unposted live = cc
none_cut _ live = cc

-- ---- bytes are one capsule

same_ok : {A E : Type 0} (r : Result A E) (x y : A) → r ≡ Ok x → r ≡ Ok y → x ≡ y
same_ok r x y a b = let e : Ok x ≡ Ok y = sym a ∙ b in cc

not_both : {A E : Type 0} (r : Result A E) (x : A) (e : E) → r ≡ Ok x → r ≡ Err e → ⊥
not_both r x e a b = let both : Ok x ≡ Err e = sym a ∙ b in cc

abbrev pub InstallAnswers : NodeView → NodeView → Stamp → List ℕ → Result ⊤ InstallFault → Type 0
InstallAnswers old new at bytes result = MatchResult result
    (λ _. Tells old new at (Pacing (InstallsBytes old.description (heard_of old) bytes)))
    (λ why. Refuses old.description (heard_of old) bytes why × (new ≡ old))

module _ (old new : NodeView) (at : Stamp) (bytes : List ℕ) (c : CapsuleParts) (right : IsRightCapsule old.description bytes c) where
  abbrev d : Description
  d = old.description

  abbrev m : Machine
  m = machine_in old.description

  abbrev r : NodeState
  r = heard_of old

  one : (b : CapsuleParts) → capsule_in d bytes ≡ Ok b → b ≡ c
  one b is = same_ok (capsule_in d bytes) b c is right.decoded

  installs : (p : Pace) (told : List JournalEntry) → InstallsBytes d r bytes p told → Installs m r p (program_by c bytes) told
  installs p told is = subst (λ (b : CapsuleParts). Installs m r p (program_by b bytes) told) (one is.capsule is.right.decoded) is.installs

  not_newer : (why : InstallFault) → Refuses d r bytes why → why ≡ fault.NotNewer (held r (capsule_handler c))
  not_newer (fault.Capsule cause) refused = absurd (not_both (capsule_in d bytes) c cause right.decoded refused)
  not_newer (fault.Code cause) refused =
      let same = one refused.capsule refused.decoded in
      absurd (not_both (bytes_verification (shape_of d) c.code) (right.code, right.marks) _ right.verified
      (subst (λ (b : CapsuleParts). bytes_verification (shape_of d) b.code ≡ Err _) same refused.refused))
  not_newer (fault.NotNewer version) refused =
      ap fault.NotNewer (refused.held_is ∙ ap (λ (b : CapsuleParts). held r (capsule_handler b)) (one refused.capsule refused.right.decoded))

  pub refused_alone : (result : Result ⊤ InstallFault) (p : Pace) → HasPace old p → c.version ≤ held r (capsule_handler c) → InstallAnswers old new at bytes result → result ≡ Err (fault.NotNewer (held r (capsule_handler c)))
  refused_alone (Ok u) p has older gives =
      let newer = (installs p gives.told (gives.paces p has).1.0).newer in absurd (omega (arith, older, newer))
  refused_alone (Err why) p has older gives = ap Err (not_newer why gives.0)

  pub told_as_it_is : (result : Result ⊤ InstallFault) → InstallAnswers old new at bytes result → OnOk result (Tells old new at (λ _ told _. InstallsThis (program_by c bytes) (λ _. ⊤) told))
  told_as_it_is (Ok u) gives = Tells-by old new at _ _ (λ p told q x. let i = installs p told x.0 in record { store = i.seen; rest = i.rest; is = i.made; then = tt }) gives
  told_as_it_is (Err why) gives = tt

  begins : (s : NodeState) (h : HandlerId) (told : List JournalEntry) → Occasion m s h (record { items = [] }) told → BeginsWithEvent h told
  begins s h told (inl x) = record { first = _; more = []; is = x.made; event = refl }
  begins s h told (inr (inl x)) = record { first = _; more = []; is = x.made; event = refl }
  begins s h told (inr (inr x)) = record { first = _; more = x.starts; is = x.made; event = refl }

  pub has_event : (result : Result ⊤ InstallFault) → m.runs_once (capsule_handler c) ≡ true → InstallAnswers old new at bytes result
      → OnOk result (Tells old new at (λ _ told _. InstallsThis (program_by c bytes) (BeginsWithEvent (capsule_handler c)) told))
  has_event (Ok u) once gives =
      Tells-by old new at _ _ (λ p told q x.
      let i = installs p told x.0 in
      record { store = i.seen; rest = i.rest; is = i.made; then = begins _ (capsule_handler c) i.rest (MatchBool-at_true _ _ once i.follows) }) gives
  has_event (Err why) once gives = tt

  -- the entries behind which nothing is live
  pub era_told : (p : Pace) (told : List JournalEntry) → m.runs_once (capsule_handler c) ≡ false → InstallsBytes d r bytes p told → IsNoneLive (state_after_entries m r told)
  era_told p told never is =
      let i = installs p told is in
      subst (λ (ts : List JournalEntry). IsNoneLive (state_after_entries m r ts))
      (sym (i.made ∙ ap (λ (ts : List JournalEntry). Seen i.seen ∷ Installed (program_by c bytes) ∷ ts) (MatchBool-at_false _ _ never i.follows))) (λ n. none_cut (r.invocations n).phase)

live_as : (p q : Phase) → p ≡ q → is_live q ≡ true → IsTrue (is_live p)
live_as p q is live = ap is_live is ∙ live

-- where nothing is live, nothing can go on
pub stands_idle : (r : NodeState) (s : Standing) → IsNoneLive r → StandsAs r s → s ≡ Idle
stands_idle r (Can c) none stands = absurd (none stands.invocation (live_as _ Ready stands.ready refl))
stands_idle r (Outside c) none stands =
    absurd (none stands.1.invocation (live_as _ (Waiting stands.1.waits.fun stands.1.waits.args) stands.1.waits.waits refl))
stands_idle r Idle none stands = refl

pub reset_cuts : (m : Machine) (r : NodeState) (p : Pace) (told : List JournalEntry) → Resets m r p told → IsNoneLive (state_after_entries m r told)
reset_cuts m r p told is = subst (λ (ts : List JournalEntry). IsNoneLive (state_after_entries m r ts)) (sym is.made) (λ n. none_cut (r.invocations n).phase)

-- the state behind a call is the one in which nothing is live
pub none_behind : (old new : NodeView) (at : Stamp) (Rule : Pace → List JournalEntry → Pace → Type 0) (t : Tells old new at Rule) → IsNoneLive (state_after_entries (machine_in old.description) (heard_of old) t.told)
    → IsNoneLive (heard_of new)
none_behind old new at Rule t none = subst IsNoneLive (sym (heard-behind old new at Rule t)) none

-- ---- of each capsule

pub on_ok : {A E : Type 0} (result : Result A E) (P : CapsuleParts → Type 0) (Is : CapsuleParts → Type 0) → ((c : CapsuleParts) → Is c → OnOk result (P c)) → OnOk result ((c : CapsuleParts) → Is c → P c)
on_ok (Ok a) P Is all = all
on_ok (Err e) P Is all = tt

pub on_ok_once : {A E : Type 0} (result : Result A E) (P Is Once : CapsuleParts → Type 0) → ((c : CapsuleParts) → Is c → Once c → OnOk result (P c))
    → OnOk result ((c : CapsuleParts) → Is c → Once c → P c)
on_ok_once (Ok a) P Is Once all = all
on_ok_once (Err e) P Is Once all = tt
