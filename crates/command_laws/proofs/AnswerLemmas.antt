-- The answers to frames are those of `install`.
use Rattle.std.proofs.Common.{◌≡◌, ◌∙◌, ap, sym, subst, refl, ℕ, List, [], ◌∷◌, true, false, Option, Some, None}
use Rattle.std.specs.Prelude.{◌==◌, nat_lt, if◌then◌else◌, Bool}
use Rattle.std.proofs.lemmas.Bool.{lt-ltb, le-ltb}
use Rattle.arrayvec.specs.ArrayVec.{ArrayVec}
use Rattle.vm_shape.specs.declared.description.Description.{Description}
use Rattle.mate_num.specs.declared.id.HandlerId.{HandlerId}
use Rattle.capsule_codec.specs.Image.{CapsuleParts}
use Rattle.mate_journal.specs.Journal.{NodeState, JournalEntry, Installed as ToldInstalled, Seen, held, next_state, state_after_entries, first_state}
use Rattle.mate_journal.specs.Machine.{Machine, HeldProgram}
use Rattle.mate_journal.specs.NodeScript.{Installs}
use Rattle.mate_journal.specs.Pace.{Pace}
use Rattle.node_state.specs.Meaning.{machine_in}
use Rattle.node_calls.specs.Installing.{Refuses, InstallsBytes, IsRightCapsule, capsule_handler, program_by}
use Rattle.node_calls.specs.declared.installing.InstallFault.{InstallFault}
use Rattle.node_calls.specs.declared.installing.InstallFault.TheVariants as fault
use Rattle.slip_gateway.specs.Stream.{frames}
use Rattle.slip_gateway.specs.declared.frames.Frame.{Frame}
use Rattle.slip_gateway.specs.declared.frames.Frame.TheVariants.{Whole}
use Rattle.command_documents.specs.FeedAnswers.{Held, if_newer, verified_answer, decoded_answer, answer_to, answers_from, answers_to, held_after}
use Rattle.command_documents.specs.declared.answer.Answer.{Answer}
use Rattle.command_documents.specs.declared.answer.Answer.TheVariants.{Installed, NotNewer}
use Rattle.command_documents.proofs.FrameAnswers.{same-answer, after-same}
use Rattle.command_laws.specs.Installing.{held_in, frame_answer, IsFrameAnswer, installs, refuses, long, broken, AreAnswered}
use Rattle.journal_laws.proofs.Plain.{installs-plain, plains-none, same-installed}

-- ---- one answer

right : (d : Description) (r : NodeState) (image : ArrayVec ℕ) (c : CapsuleParts) → IsRightCapsule d image.items c → answer_to d (held_in r) (Whole image) ≡ if_newer (held_in r) c
right d r image c h = ap (decoded_answer d (held_in r)) h.decoded ∙ ap (verified_answer (held_in r) c) h.verified

by_test : (h : Held) (c : CapsuleParts) (b : Bool) → nat_lt (h c.handler) c.version ≡ b → if_newer h c ≡ (if b then Installed (capsule_handler c) c.version else NotNewer (h c.handler))
by_test h c b e = ap (λ (x : Bool). if x then Installed (capsule_handler c) c.version else NotNewer (h c.handler)) e

refused : (d : Description) (r : NodeState) (image : ArrayVec ℕ) (why : InstallFault) → Refuses d r image.items why → answer_to d (held_in r) (Whole image) ≡ frame_answer why
refused d r image (fault.Capsule why) h = ap (decoded_answer d (held_in r)) h
refused d r image (fault.Code why) h = ap (decoded_answer d (held_in r)) h.decoded ∙ ap (verified_answer (held_in r) h.capsule) h.refused
refused d r image (fault.NotNewer version) h =
    right d r image h.capsule h.right ∙ by_test (held_in r) h.capsule false (le-ltb _ _ h.older) ∙ ap NotNewer (sym h.held_is)

installed : (d : Description) (r : NodeState) (image : ArrayVec ℕ) (p : Pace) (told : List JournalEntry) (i : InstallsBytes d r image.items p told) → answer_to d (held_in r) (Whole image) ≡ Installed (capsule_handler i.capsule) i.capsule.version
installed d r image p told i =
    right d r image i.capsule i.right ∙ by_test (held_in r) i.capsule true (lt-ltb _ _ i.installs.newer)

-- ---- what is held behind an install

abbrev version_in : Option HeldProgram → ℕ
version_in None = 0
version_in (Some p) = p.version

held-is : (r : NodeState) (h : HandlerId) → held r h ≡ version_in (r.installed h)
held-is r h = by (r.installed h) refl where
  by : (o : Option HeldProgram) → r.installed h ≡ o → held r h ≡ version_in (r.installed h)
  by None e = cc
  by (Some p) e = cc

install-after : (d : Description) (r : NodeState) (q : Pace) (p : HeldProgram) (told : List JournalEntry) (h : ℕ) → Installs (machine_in d) r q p told
    → held_in (state_after_entries (machine_in d) r told) h ≡ held_after (held_in r) (Installed p.handler p.version) h
install-after d r q p told h is =
    held-is (state_after_entries m r told) i ∙ ap version_in found ∙ by (h == p.handler.0) where
      m : Machine
      m = machine_in d

      i : HandlerId
      i = record { 0 = h }

      found : (state_after_entries m r told).installed i ≡ (if h == p.handler.0 then Some p else r.installed i)
      found = subst (λ (xs : List JournalEntry). (state_after_entries m r xs).installed i ≡ (if h == p.handler.0 then Some p else r.installed i)) (sym is.made)
          (ap (λ (f : HandlerId → Option HeldProgram). f i) (same-installed m (next_state m (next_state m r (Seen is.seen)) (ToldInstalled p)) is.rest (plains-none is.rest (installs-plain m r q p told is))))

      by : (b : Bool) → version_in (if b then Some p else r.installed i) ≡ (if b then p.version else held_in r h)
      by true = refl
      by false = sym (held-is r i)

-- ---- all answers

one : (d : Description) (r : NodeState) (f : Frame) (a : Answer) (after : NodeState) → IsFrameAnswer d r f a after → (a ≡ answer_to d (held_in r) f) × ((h : ℕ) → held_in after h ≡ held_after (held_in r) a h)
one d r f a after (installs image p told i f_is a_is after_is) = (
  a_is ∙ sym (installed d r image p told i) ∙ ap (answer_to d (held_in r)) (sym f_is),
  λ h. ap (λ (s : NodeState). held_in s h) after_is ∙ install-after d r p (program_by i.capsule image.items) told h i.installs
      ∙ ap (λ (x : Answer). held_after (held_in r) x h) (sym a_is),
)
one d r f a after (refuses image why h f_is a_is after_is) = (
  a_is ∙ sym (refused d r image why h) ∙ ap (answer_to d (held_in r)) (sym f_is),
  λ k. ap (λ (s : NodeState). held_in s k) after_is ∙ kept why k ∙ ap (λ (x : Answer). held_after (held_in r) x k) (sym a_is),
) where
  kept : (w : InstallFault) (k : ℕ) → held_in r k ≡ held_after (held_in r) (frame_answer w) k
  kept (fault.Capsule x) k = refl
  kept (fault.Code x) k = refl
  kept (fault.NotNewer x) k = refl
one d r f a after (long f_is a_is after_is) =
    (a_is ∙ ap (answer_to d (held_in r)) (sym f_is), λ k. ap (λ (s : NodeState). held_in s k) after_is ∙ ap (λ (x : Answer). held_after (held_in r) x k) (sym a_is))
one d r f a after (broken f_is a_is after_is) =
    (a_is ∙ ap (answer_to d (held_in r)) (sym f_is), λ k. ap (λ (s : NodeState). held_in s k) after_is ∙ ap (λ (x : Answer). held_after (held_in r) x k) (sym a_is))

many : (d : Description) (r : NodeState) (g : Held) (fs : List Frame) (told : List Answer) → ((h : ℕ) → held_in r h ≡ g h) → AreAnswered d r fs told → told ≡ answers_from d g fs
many d r g [] told same is = is
many d r g (f ∷ fs) told same (a, others, after, told_is, is, more) =
    let h = one d r f a after is in
    let here : a ≡ answer_to d g f = h.0 ∙ same-answer d (held_in r) g f same in
    let rest : others ≡ answers_from d (held_after g a) fs =
    many d after (held_after g a) fs others (λ k. h.1 k ∙ after-same (held_in r) g a same k) more in
    told_is ∙ ap (λ (os : List Answer). a ∷ os) rest ∙ ap (λ (x : Answer). x ∷ answers_from d (held_after g x) fs) here

pub all : (d : Description) (bytes : List ℕ) (told : List Answer) → AreAnswered d (first_state (machine_in d)) (frames bytes) told → told ≡ answers_to d bytes
all d bytes told is = many d (first_state (machine_in d)) (λ _. 0) (frames bytes) told (λ h. refl) is
