-- A rule that each entry keeps that installs nothing, and each install of what is newer: each entry of a node's journal in a run keeps it.
use Rattle.std.proofs.Common.{◌≡◌, ◌<◌, ℕ, List, [], ◌∷◌, map, refl, sym, subst, inl, inr}
use Rattle.std.proofs.lemmas.Bool.Decides.{eqb_tells}
use Rattle.mate_num.specs.declared.call.Stamp.{Stamp}
use Rattle.mate_num.specs.Lists.{Along}
use Rattle.mate_num.proofs.ListLemmas.{along-append, along-each, along-map}
use Rattle.mate_journal.specs.Machine.{Machine, HeldProgram}
use Rattle.mate_journal.specs.Journal.{JournalEntry, Installed, Seen, TimedEntry, NodeState, first_state, next_state, state_after_all, state_after_entries, held, AtEachEntry}
use Rattle.mate_journal.specs.NodeScript.{RunEnd, Whole}
use Rattle.mate_journal.specs.Pace.{Pace, paced_all}
use Rattle.mate_journal.specs.Turns.{Settles}
use Rattle.journal_laws.proofs.Plain.{NoInstall, NoneInstall}
use Rattle.world_rules.specs.World.{World}
use Rattle.world_rules.specs.Effect.{Node, Deed, Installing, event_node}
use Rattle.world_rules.specs.State.{Moment, node_at, effect_at, state}
use Rattle.world_rules.specs.Run.{FirstThen, DeedMakes, HaveCome, EndsJournal, IsJournalOf, stamp_of, journal}
use Rattle.world_laws.proofs.Journals.{journal-here, journal-other, reads_journals}
use Rattle.world_laws.proofs.Agree.{deed-none, installs-rest, settles-none}

module _ (Rule : NodeState → JournalEntry → Type 0) (none : (r : NodeState) (t : JournalEntry) → NoInstall t → Rule r t) where
  -- what is installed may be, at a state at which something older is held
  abbrev pub MayInstall : Deed → Type 0
  MayInstall d = (p : HeldProgram) (r : NodeState) → d ≡ Installing p → held r p.handler < p.version → Rule r (Installed p)

  none-along : (m : Machine) (r : NodeState) (told : List JournalEntry) → NoneInstall told → Along Rule (next_state m) r told
  none-along m r told all = along-each NoInstall Rule (next_state m) none r told all

  deed-along : (m : Machine) (r : NodeState) (q : Pace) (d : Deed) (told : List JournalEntry) → MayInstall d → DeedMakes m d r q told → Along Rule (next_state m) r told
  deed-along m r q (Installing p) told may is = subst (λ (ts : List JournalEntry). Along Rule (next_state m) r ts) (sym is.made)
      (none r (Seen is.seen) tt, (may p r refl is.newer, none-along m (next_state m r (Installed p)) is.rest (installs-rest m r q p told is)))
  deed-along m r q d told may is = none-along m r told (deed-none m r q d told is)

  event-along : (m : Machine) (r : NodeState) (q : Pace) (d : Deed) (told : List JournalEntry) (after : Pace) → MayInstall d → FirstThen m (DeedMakes m d) (λ s p xs. Settles m s p xs after) r q told
      → Along Rule (next_state m) r told
  event-along m r q d told after may both = subst (λ (ts : List JournalEntry). Along Rule (next_state m) r ts) (sym both.made)
      (along-append Rule (next_state m) r both.front both.rest (deed-along m r q d both.front may both.by_first)
      (none-along m _ both.rest (settles-none m (state_after_entries m r both.front) (paced_all q both.front) both.rest after both.by_second)))

  -- the entries of the journal keep it
  abbrev pub AllKeep : World → List TimedEntry → Type 0
  AllKeep w es = AtEachEntry Rule w.machine (first_state w.machine) es

  -- what an event records, and what is seen at the end, under a stamp
  stamped-along : (m : Machine) (r : NodeState) (at : Stamp) (told : List JournalEntry) → Along Rule (next_state m) r told → AtEachEntry Rule m r (map (λ (t : JournalEntry). record { stamp = at; told = t }) told)
  stamped-along m r at told all =
      let stamped : JournalEntry → TimedEntry = λ t. record { stamp = at; told = t } in
      along-map stamped (λ s e. Rule s e.told) (λ s e. next_state m s e.told) r told all

  run-along : (w : World) (k : ℕ) (ms : List Moment) → ((m : Moment) (before : List Moment) → HaveCome w (m ∷ before) → MayInstall (effect_at w (state w before) m).deed) → HaveCome w ms
      → AllKeep w (journal w k ms)
  run-along w k [] may come = tt
  run-along w k (m ∷ before) may come = elim (eqb_tells k (event_node w m.cause)) [
    | inl same ↦ subst (λ (j : ℕ). AllKeep w (journal w j (m ∷ before))) (sym same.1) (subst (AllKeep w) (sym (journal-here w m before))
        (along-append _ _ (first_state w.machine) (journal w (event_node w m.cause) before) _ (run-along w (event_node w m.cause) before may come.0)
        (subst (λ (r : NodeState). AtEachEntry Rule w.machine r (map (λ (t : JournalEntry). record { stamp = stamp_of m before; told = t }) m.told)) (reads_journals w (event_node w m.cause) before)
        (stamped-along w.machine n.reading (stamp_of m before) m.told
        (event-along w.machine n.reading n.pace (effect_at w (state w before) m).deed m.told m.pace (may m before come) come.1.makes)))))
    | inr other ↦ subst (AllKeep w) (sym (journal-other w k m before other.1)) (run-along w k before may come.0)
  ] where
    n : Node
    n = node_at w (state w before) m

  ends-along : (w : World) (k : ℕ) (how : RunEnd) (ms : List Moment) (last : List TimedEntry) (r : NodeState) → EndsJournal w k how ms last → AtEachEntry Rule w.machine r last
  ends-along w k Whole ms last r ends = subst (λ (es : List TimedEntry). AtEachEntry Rule w.machine r es) (sym ends.stamped)
      (stamped-along w.machine r _ ends.told (none-along w.machine r ends.told (subst NoneInstall (sym ends.shown.made) (tt, tt))))
  ends-along w k _ ms last r ends = subst (λ (es : List TimedEntry). AtEachEntry Rule w.machine r es) (sym ends) tt

  -- along a node's whole journal
  pub journal-along : (w : World) (how : RunEnd) (ms : List Moment) (k : ℕ) (es : List TimedEntry) → ((m : Moment) (before : List Moment) → HaveCome w (m ∷ before) → MayInstall (effect_at w (state w before) m).deed)
      → HaveCome w ms → IsJournalOf w how ms k es → AllKeep w es
  journal-along w how ms k es may come of = subst (AllKeep w) (sym of.journal_is)
      (along-append _ _ (first_state w.machine) (journal w k ms) of.last (run-along w k ms may come)
      (ends-along w k how ms of.last (state_after_all w.machine (first_state w.machine) (journal w k ms)) of.ends))
