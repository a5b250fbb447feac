-- The journals of nodes, event by event.
use Rattle.std.proofs.Common.{◌≡◌, ◌≢◌, ℕ, List, [], ◌∷◌, ◌++◌, map, refl, sym, ◌∙◌, ap, subst, inl, inr}
use Rattle.std.proofs.lemmas.List.{append-nil}
use Rattle.std.proofs.lemmas.List.Folds.{fold-map}
use Rattle.std.proofs.lemmas.Bool.Decides.{eqb_tells}
use Rattle.mate_journal.specs.Machine.{Machine}
use Rattle.mate_journal.specs.Journal.{JournalEntry, TimedEntry, NodeState, first_state, next_state, state_after_all}
use Rattle.mate_journal.proofs.JournalLemmas.{heard_all-append}
use Rattle.mate_num.specs.declared.call.Stamp.{Stamp}
use Rattle.world_rules.specs.World.{World}
use Rattle.world_rules.specs.Effect.{Node, event_node}
use Rattle.mate_journal.specs.Journal.{state_after_entries}
use Rattle.world_rules.specs.State.{Moment, state}
use Rattle.world_rules.specs.Run.{stamp_of, journal}
use Rattle.world_laws.specs.Journals.{ReadsJournals}
use Rattle.world_laws.proofs.Points.{nodes-here, nodes-other}

-- a list of entries of one event is heard as what it tells
hear-stamped : (m : Machine) (r : NodeState) (at : Stamp) (told : List JournalEntry) → state_after_all m r (map (λ (t : JournalEntry). record { stamp = at; told = t }) told) ≡ state_after_entries m r told
hear-stamped m r at told =
    let stamped : JournalEntry → TimedEntry = λ t. record { stamp = at; told = t } in
    fold-map (λ s e. next_state m s e.told) stamped r told

-- the journal of a node of which the event isn't
pub journal-other : (w : World) (k : ℕ) (m : Moment) (before : List Moment) → k ≢ event_node w m.cause → journal w k (m ∷ before) ≡ journal w k before
journal-other w k m before other = elim (eqb_tells k (event_node w m.cause)) [ inl same ↦ absurd (other same.1) | inr apart ↦ rw apart.0 (append-nil (journal w k before)) ]

-- the journal of its own node
pub journal-here : (w : World) (m : Moment) (before : List Moment) → journal w (event_node w m.cause) (m ∷ before) ≡ journal w (event_node w m.cause) before ++ map (λ (t : JournalEntry). record { stamp = stamp_of m before; told = t }) m.told
journal-here w m before = elim (eqb_tells (event_node w m.cause) (event_node w m.cause)) [ inl same ↦ rw same.0 refl | inr other ↦ absurd (other.1 refl) ]

pub reads_journals : (w : World) → ReadsJournals w
reads_journals w k [] = refl
reads_journals w k (m ∷ before) = elim (eqb_tells k (event_node w m.cause)) [
  | inl same ↦ subst (λ (j : ℕ). ((state w (m ∷ before)).nodes j).reading ≡ state_after_all w.machine (first_state w.machine) (journal w j (m ∷ before))) (sym same.1) (here (reads_journals w (event_node w m.cause) before))
  | inr other ↦ ap (λ (n : Node). n.reading) (nodes-other w (state w before) m k other.1) ∙ reads_journals w k before ∙ ap (state_after_all w.machine (first_state w.machine)) (sym (journal-other w k m before other.1))
] where
  world_start : NodeState
  world_start = first_state w.machine

  here : ((state w before).nodes (event_node w m.cause)).reading ≡ state_after_all w.machine (first_state w.machine) (journal w (event_node w m.cause) before)
      → ((state w (m ∷ before)).nodes (event_node w m.cause)).reading ≡ state_after_all w.machine (first_state w.machine) (journal w (event_node w m.cause) (m ∷ before))
  here earlier =
      ap (λ (n : Node). n.reading) (nodes-here w (state w before) m)
      ∙ ap (λ (r : NodeState). state_after_entries w.machine r m.told) earlier
      ∙ sym (hear-stamped w.machine (state_after_all w.machine (first_state w.machine) (journal w (event_node w m.cause) before)) (stamp_of m before) m.told)
      ∙ sym (heard_all-append w.machine (first_state w.machine) (journal w (event_node w m.cause) before) (map (λ (t : JournalEntry). record { stamp = stamp_of m before; told = t }) m.told))
      ∙ ap (state_after_all w.machine (first_state w.machine)) (sym (journal-here w m before))
