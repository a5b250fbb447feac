-- What a call's entries say of the node behind it.
use Rattle.std.proofs.Common.{◌≡◌, ℤ, List, ap, ◌∙◌, subst}
use Rattle.arrayvec.specs.ArrayVec.{ArrayVec}
use Rattle.mate_num.specs.declared.call.Stamp.{Stamp}
use Rattle.mate_num.specs.declared.id.ContextId.{ContextId}
use Rattle.mate_num.specs.declared.id.HandlerId.{HandlerId}
use Rattle.vm_shape.specs.declared.description.Description.{Description}
use Rattle.mate_journal.specs.Log.{Log}
use Rattle.mate_journal.specs.Grants.{AllHeldBack, GrantsInOrder}
use Rattle.mate_journal.specs.Journal.{JournalEntry, TimedEntry, NodeState, state_after_entries, journal_of, first_state, AtEachPlace}
use Rattle.mate_journal.specs.Machine.{Machine, IsContextOf}
use Rattle.mate_journal.specs.Pace.{Pace}
use Rattle.mate_journal.specs.WellFormed.{IsBusy, IsIdle, IsWellFormed}
use Rattle.journal_laws.proofs.Append.{GrantsInOrder-last, AtEachPlace-last}
use Rattle.journal_laws.specs.Apart.{AreApart}
use Rattle.node_state.specs.Keeps.{reading}
use Rattle.node_state.specs.Meaning.{machine_in}
use Rattle.node_calls.proofs.SettleLemmas.{reading-grows}
use Rattle.node_calls.specs.Posting.{PostGives}
use Rattle.node_calls.specs.declared.posting.PostAnswer.{PostAnswer}
use Rattle.node_calls.specs.declared.posting.PostAnswer.TheVariants.{AllBusy}
use Rattle.node_open.specs.Journal.{KeepsJournal}
use Rattle.node_open.specs.View.{NodeView, Tells, heard_of}

-- the state behind a call is that of its entries
pub heard-behind : (old new : NodeView) (at : Stamp) (Rule : Pace → List JournalEntry → Pace → Type 0) (t : Tells old new at Rule)
    → heard_of new ≡ state_after_entries (machine_in old.description) (heard_of old) t.told
heard-behind old new at Rule t =
    ap (λ (d : Description). reading d new.log) t.description ∙ reading-grows old.description old.log new.log at t.told t.grows

-- ---- posts

pub not_all_busy : (m : Machine) (r : NodeState) (h : HandlerId) (payload : ArrayVec ℤ) (answer : PostAnswer) (told : List JournalEntry) (c : ContextId) → PostGives m r h payload answer told
    → IsContextOf m h c → IsIdle r c → answer ≡ AllBusy → ⊥
not_all_busy m r h payload answer told c gives of idle is =
    let drops = subst (λ (a : PostAnswer). PostGives m r h payload a told) is gives in
    let busy : IsBusy r c = drops.busy c of in
    idle busy.invocation busy.live busy.context

-- ---- what each log keeps

pub held_back : (d : Description) (l : Log) → KeepsJournal d (machine_in d) l → AllHeldBack (machine_in d) (reading d l)
unfolding reading
held_back d l keeps = GrantsInOrder-last (machine_in d) (first_state (machine_in d)) 0 (journal_of l) keeps.grants

-- the law of journals, at the end of this one
pub side_by_side : (d : Description) (l : Log) → KeepsJournal d (machine_in d) l
    → ((m : Machine) (es : List TimedEntry) → IsWellFormed m (first_state m) es → GrantsInOrder m (first_state m) 0 es → AtEachPlace (AreApart m) m (first_state m) es)
    → AreApart (machine_in d) (reading d l)
unfolding reading
side_by_side d l keeps law =
    AtEachPlace-last (AreApart (machine_in d)) (machine_in d) (first_state (machine_in d)) (journal_of l) (law (machine_in d) (journal_of l) keeps.well_formed keeps.grants)
