-- What an event tells follows what was heard before, where the node's journal is well formed; and what such journals keep.
use Rattle.std.proofs.Common.{◌≡◌, ◌<◌, ◌≤◌, ℕ, ◌+◌, List, [], ◌∷◌, map, refl, sym, ap, subst, arith}
use Rattle.std.specs.Prelude.{Option, Some, None, ◌==◌, if◌then◌else◌, slice_get}
use Rattle.mate_num.specs.declared.bounds.TheConstants.{CONTEXTS_MAX}
use Rattle.vm_shape.specs.declared.description.Description.{Description}
use Rattle.vm_shape.specs.declared.handler.Handler.{Handler}
use Rattle.vm_shape.specs.Contexts.{first_context}
use Rattle.vm_shape.specs.Whole.{context_count}
use Rattle.vm_shape.proofs.DescriptionLemmas.{bounds_of, first_context-within}
use Rattle.std.proofs.lemmas.Option.{slice_get_within, get_or_from_slice_get}
use Rattle.mate_journal.specs.Machine.{Meaning}
use Rattle.mate_journal.specs.Described.{machine_of, contexts_of}
use Rattle.mate_journal.specs.Journal.{JournalEntry, TimedEntry, NodeState, first_state, next_state, state_after_all, AtEachEntry}
use Rattle.mate_journal.specs.WellFormed.{MayFollow}
use Rattle.journal_laws.specs.Waiting.{AreFollowing, HasFewContexts, WaitApart, WaitSmall}
use Rattle.journal_laws.proofs.Staying.{numbered-after}
use Rattle.journal_laws.proofs.WaitsApart.{apart-after, nothing_heard-apart, live-waits_apart, small-after, nothing_heard-small, live-waits_small}
use Rattle.mate_num.proofs.ListLemmas.{along-parts, along-unmap}
use Rattle.journal_laws.proofs.Apart.{IsNumbered}
use Rattle.world_rules.specs.World.{World}
use Rattle.world_rules.specs.Effect.{event_node}
use Rattle.world_rules.specs.State.{Moment, node_at, state}
use Rattle.world_rules.specs.Run.{stamp_of, journal}
use Rattle.world_laws.proofs.Journals.{journal-here, reads_journals}

-- the entries of a node's journal follow one another
abbrev pub IsFollowed : World → ℕ → List Moment → Type 0
IsFollowed w k ms = AtEachEntry (MayFollow w.machine) w.machine (first_state w.machine) (journal w k ms)

pub followed-before : (w : World) (k : ℕ) (m : Moment) (before : List Moment) → IsFollowed w k (m ∷ before) → IsFollowed w k before
followed-before w k m before follow = (along-parts _ _ (first_state w.machine) (journal w k before)
    (if k == event_node w m.cause then map (λ (t : JournalEntry). record { stamp = stamp_of m before; told = t }) m.told else []) follow).0

pub followed-told : (w : World) (m : Moment) (before : List Moment) → IsFollowed w (event_node w m.cause) (m ∷ before) → AreFollowing w.machine (node_at w (state w before) m).reading m.told
followed-told w m before follow =
    let stamped : JournalEntry → TimedEntry = λ t. record { stamp = stamp_of m before; told = t } in
    let i = event_node w m.cause in
    let all = subst (λ (es : List TimedEntry). AtEachEntry (MayFollow w.machine) w.machine (first_state w.machine) es) (journal-here w m before) follow in
    along-unmap stamped (λ r e. MayFollow w.machine r e.told) (λ r e. next_state w.machine r e.told) _ m.told
    (subst (λ (r : NodeState). AtEachEntry (MayFollow w.machine) w.machine r (map stamped m.told)) (sym (reads_journals w i before))
    (along-parts _ _ (first_state w.machine) (journal w i before) (map stamped m.told) all).1)

-- ---- along a journal

pub run-numbered : (w : World) (k : ℕ) (ms : List Moment) → IsFollowed w k ms → IsNumbered ((state w ms).nodes k).reading
run-numbered w k ms follow = subst IsNumbered (sym (reads_journals w k ms)) (numbered-after w.machine (first_state w.machine) (journal w k ms) follow (record { numbered = λ n above. refl }))

-- ---- contexts

pub few-contexts : (d : Description) (meaning : Meaning) → HasFewContexts (machine_of d meaning)
few-contexts d meaning h c is = by (slice_get d.handlers.items h.0) refl is.below where
  by : (o : Option Handler) → slice_get d.handlers.items h.0 ≡ o → c.0 < first_context d.handlers.items h.0 + contexts_of o → c.0 < CONTEXTS_MAX
  by None none below = let from : first_context d.handlers.items h.0 ≤ c.0 = is.from in absurd (omega arith)
  by (Some x) some below =
      let within = first_context-within d.handlers.items h.0 x (slice_get_within d.handlers.items h.0 x some) in
      let same = ap (λ (y : Handler). y.contexts) (get_or_from_slice_get d.handlers.items h.0 x x some) in
      let high : context_count d ≤ CONTEXTS_MAX = (bounds_of d).contexts_high in
      omega arith

-- ---- who waits

pub run-apart : (w : World) (k : ℕ) (ms : List Moment) → IsFollowed w k ms → WaitApart ((state w ms).nodes k).reading
run-apart w k ms follow = subst WaitApart (sym (reads_journals w k ms))
    (live-waits_apart (state_after_all w.machine (first_state w.machine) (journal w k ms)) (apart-after w.machine (first_state w.machine) (journal w k ms) follow (nothing_heard-apart w.machine)))

pub run-small : (w : World) (k : ℕ) (ms : List Moment) → HasFewContexts w.machine → IsFollowed w k ms → WaitSmall ((state w ms).nodes k).reading
run-small w k ms few follow = subst WaitSmall (sym (reads_journals w k ms))
    (live-waits_small (state_after_all w.machine (first_state w.machine) (journal w k ms)) (small-after w.machine (first_state w.machine) (journal w k ms) few follow (nothing_heard-small w.machine)))
