-- Entries that neither answer a call nor begin an era, as turns and occasions make them; and entries that install nothing.
use Rattle.std.proofs.Common.{◌≡◌, ◌∙◌, List, [], ◌∷◌, refl, sym, subst, inl, inr}
use Rattle.std.specs.Prelude.{ℤ}
use Rattle.std.proofs.lemmas.Bool.{cases_Bool, MatchBool-at_true, MatchBool-at_false}
use Rattle.arrayvec.specs.ArrayVec.{ArrayVec}
use Rattle.mate_num.specs.declared.id.HandlerId.{HandlerId}
use Rattle.mate_num.specs.Lists.{Each}
use Rattle.mate_num.proofs.ListLemmas.{each-weaker}
use Rattle.mate_journal.specs.Journal.{JournalEntry, Answered, Installed, Reset, NodeState, next_state, state_after_entries}
use Rattle.mate_journal.specs.Machine.{Machine, HeldProgram}
use Rattle.mate_journal.specs.NodeScript.{Occasion, Installs}
use Rattle.mate_journal.specs.Pace.{Pace}
use Rattle.journal_laws.proofs.Settling.{IsOfTurn, AreOfTurns, starts-of_turns}

-- the entry neither answers a call nor begins an era
abbrev pub IsPlain : JournalEntry → Type 0
IsPlain (Answered n value) = ⊥
IsPlain (Installed p) = ⊥
IsPlain Reset = ⊥
IsPlain _ = Unit {0}

abbrev pub ArePlain : List JournalEntry → Type 0
ArePlain = Each IsPlain

turn-plain : (t : JournalEntry) → IsOfTurn t → IsPlain t
turn-plain (Answered n value) a = a
turn-plain (Installed p) a = a
turn-plain Reset a = a
turn-plain _ a = tt

pub turns-plain : (told : List JournalEntry) → AreOfTurns told → ArePlain told
turns-plain told all = each-weaker IsOfTurn IsPlain turn-plain told all

pub occasion-plain : (m : Machine) (r : NodeState) (h : HandlerId) (payload : ArrayVec ℤ) (told : List JournalEntry) → Occasion m r h payload told → ArePlain told
occasion-plain m r h payload told (inl a) = subst ArePlain (sym a.made) (tt, tt)
occasion-plain m r h payload told (inr (inl a)) = subst ArePlain (sym a.made) (tt, tt)
occasion-plain m r h payload told (inr (inr a)) = subst ArePlain (sym a.made) (tt, turns-plain a.starts (starts-of_turns a.starts a.are_starts))

-- behind its entry an install makes an occasion at most
pub installs-plain : (m : Machine) (r : NodeState) (q : Pace) (p : HeldProgram) (told : List JournalEntry) → (is : Installs m r q p told) → ArePlain is.rest
installs-plain m r q p told is = elim (cases_Bool (m.runs_once p.handler)) [
  | inl once ↦ occasion-plain m (next_state m r (Installed p)) p.handler (record { items = [] }) is.rest (MatchBool-at_true _ _ once is.follows)
  | inr never ↦ subst ArePlain (sym (MatchBool-at_false _ _ never is.follows)) tt
]

-- ---- entries that install nothing

abbrev pub NoInstall : JournalEntry → Type 0
NoInstall (Installed p) = ⊥
NoInstall _ = Unit {0}

abbrev pub NoneInstall : List JournalEntry → Type 0
NoneInstall = Each NoInstall

plain-none : (t : JournalEntry) → IsPlain t → NoInstall t
plain-none (Installed p) plain = plain
plain-none _ plain = tt

pub plains-none : (told : List JournalEntry) → ArePlain told → NoneInstall told
plains-none told all = each-weaker IsPlain NoInstall plain-none told all

same-one : (m : Machine) (r : NodeState) (t : JournalEntry) → NoInstall t → (next_state m r t).installed ≡ r.installed
same-one m r (Installed p) a = absurd a
same-one m r _ a = refl

-- what is installed stays
pub same-installed : (m : Machine) (r : NodeState) (told : List JournalEntry) → NoneInstall told → (state_after_entries m r told).installed ≡ r.installed
same-installed m r [] a = refl
same-installed m r (t ∷ told) a = same-installed m (next_state m r t) told a.1 ∙ same-one m r t a.0
