-- The turns of a node: what they tell is little, and what calls in them waits behind them.
use Rattle.std.proofs.Common.{◌≡◌, ℕ, ◌+◌, ◌≤◌, List, [], ◌∷◌, length, map, drop, refl, sym, ◌∙◌, ap, subst, arith, append-nil}
use Rattle.mate_num.specs.declared.call.Stamp.{Stamp}
use Rattle.mate_journal.specs.Machine.{Machine}
use Rattle.mate_journal.specs.Journal.{JournalEntry, TimedEntry, NodeState, first_state, next_state, state_after_all, state_after_entries, journal_of, AtEachEntry}
use Rattle.mate_journal.specs.Pace.{Pace}
use Rattle.mate_journal.specs.WellFormed.{MayFollow, IsWellFormed}
use Rattle.mate_journal.specs.Turns.{Settles}
use Rattle.mate_journal.specs.declared.entry.Stamped.{Stamped}
use Rattle.journal_laws.proofs.Append.{AtEachEntry-back, journal_of-same}
use Rattle.journal_laws.specs.Growth.{FollowsLast}
use Rattle.node_state.specs.Meaning.{machine_in}
use Rattle.node_state.specs.Keeps.{reading, event_at, Grows, IsTimely}
use Rattle.node_state.proofs.PostLemmas.{in-machine}
use Rattle.node_calls.specs.Pacing.{SettlesWithin}
use Rattle.node_open.specs.View.{NodeView, heard_of, HasPace, Tells, IsSameNode}
use Rattle.vm_shape.specs.declared.description.Description.{Description}
use Rattle.vm_shape.proofs.DescriptionLemmas.{bounds_of}
use Rattle.node_open.proofs.CallLemmas.{Tells-by}
use Rattle.world_state.proofs.NodeLemmas.{tells-behind}
use Rattle.journal_laws.specs.Waiting.{WaitApart, WaitSmall, AreAwaited, AreFollowing, HasFewContexts, JournalsWaitApart, JournalsWaitSmall, SettlingAwaits, SettlingTellsFew}
use Rattle.node_open.specs.Calls.{IsNoneReady, told_by_entries, told_from}
use Rattle.world_event.specs.Handling.{IsPaced}
use Rattle.world_event.proofs.ToldLemmas.{tells-heard, told-behind}

-- the stamp may come next on the same node
pub timely-behind : (old mid : NodeView) (at : Stamp) → IsSameNode old mid → IsTimely at old.log → IsTimely at mid.log
timely-behind old mid at same t = let P : List TimedEntry → Type 0 = λ es. FollowsLast es at in record { after_last = subst P (sym (journal_of-same old.log mid.log same.log)) t.after_last }

few-contexts : (d : Description) → HasFewContexts (machine_in d)
few-contexts d h c is = let low = (in-machine d h c is).1 in let few = (bounds_of d).contexts_high in omega (arith, low, few)

following : (m : Machine) (r : NodeState) (at : Stamp) (told : List JournalEntry) → AtEachEntry (MayFollow m) m r (map (event_at at) told) → AreFollowing m r told
following m r at [] each = tt
following m r at (t ∷ told) each = (each.0, following m (next_state m r t) at told each.1)

-- a well-formed journal of a node
abbrev pub IsFormed : NodeView → Type 0
IsFormed v = IsWellFormed (machine_in v.description) (first_state (machine_in v.description)) (journal_of v.log)

-- what turns tell may follow
turns-follow : (old new : NodeView) (at : Stamp) (told : List JournalEntry) → new.description ≡ old.description → Grows old.log new.log at told → IsFormed new → AreFollowing (machine_in old.description) (heard_of old) told
unfolding reading
turns-follow old new at told same grows formed =
    let m : Machine = machine_in old.description in
    let all : AtEachEntry (MayFollow m) m (first_state m) (journal_of new.log) = subst (λ (d : Description). AtEachEntry (MayFollow (machine_in d)) (machine_in d) (first_state (machine_in d)) (journal_of new.log)) same formed.follow in
    following m (state_after_all m (first_state m) (journal_of old.log)) at told
    (AtEachEntry-back (MayFollow m) m (first_state m) (journal_of old.log) (map (event_at at) told) (subst (AtEachEntry (MayFollow m) m (first_state m)) grows.journal all))

-- the node settled in one pace
settled-few : (old new : NodeView) (at : Stamp) (p q : Pace) (told : List JournalEntry) → IsFormed old → SettlingTellsFew (machine_in old.description) → Settles (machine_in old.description) (heard_of old) p told q
    → AreFollowing (machine_in old.description) (heard_of old) told → length told ≤ 32
unfolding reading
settled-few old new at p q told formed law settles follow = law (few-contexts old.description) (journal_of old.log) formed p told q settles follow

formed-small : (v : NodeView) → IsFormed v → JournalsWaitSmall (machine_in v.description) → WaitSmall (heard_of v)
unfolding reading
formed-small v formed law = law (few-contexts v.description) (journal_of v.log) formed

pub formed-apart : (v : NodeView) → IsFormed v → JournalsWaitApart (machine_in v.description) → WaitApart (heard_of v)
unfolding reading
formed-apart v formed law = law (journal_of v.log) formed

module _ (old mid new : NodeView) (at : Stamp) (bound : ℕ) (same : IsSameNode old mid) (paces : (p : Pace) → HasPace old p → HasPace mid p) (paced : IsPaced old)
    (tells : Tells mid new at (SettlesWithin (machine_in mid.description) bound (heard_of mid))) where
  pub turns-tell : Tells old new at (Settles (machine_in old.description) (heard_of old))
  turns-tell =
      tells-behind old mid new at (λ d r. Settles (machine_in d) r) same paces
      (Tells-by mid new at (SettlesWithin (machine_in mid.description) bound (heard_of mid)) (Settles (machine_in mid.description) (heard_of mid)) (λ p told q x. x.settles) tells)

  settles : (q : Pace) × Settles (machine_in mid.description) (heard_of mid) paced.pace tells.told q
  settles = let x = tells.paces paced.pace (paces paced.pace paced.has) in (x.0, x.1.settles)

  pub turns-few : IsFormed mid → IsFormed new → SettlingTellsFew (machine_in mid.description) → length new.log.entries ≤ length old.log.entries + 32
  turns-few formed formed_new law =
      let few = settled-few mid new at paced.pace settles.0 tells.told formed law settles.1 (turns-follow mid new at tells.told tells.description tells.grows formed_new) in
      let long = ap (λ (es : List Stamped). length es) same.log.entries in
      let count = tells.grows.count in
      omega (arith, few, long, count)

  pub turns-awaited : IsFormed new → SettlingAwaits (machine_in mid.description) → JournalsWaitSmall (machine_in new.description) → AreAwaited (heard_of new) (told_from (length old.log.entries) new.log)
  turns-awaited formed_new law small =
      let m : Machine = machine_in mid.description in
      let heard_is : heard_of new ≡ state_after_entries (machine_in mid.description) (heard_of mid) tells.told = tells-heard mid new at _ tells in
      let told_is : told_from (length old.log.entries) new.log ≡ tells.told = ap (λ (es : List Stamped). told_from (length es) new.log) (sym same.log.entries) ∙ told-behind mid.log new.log at tells.told tells.grows in
      let waits = law (heard_of mid) paced.pace tells.told settles.0 settles.1 (turns-follow mid new at tells.told tells.description tells.grows formed_new)
      (subst WaitSmall heard_is (formed-small new formed_new small)) in
      subst (AreAwaited (heard_of new)) (sym told_is) (subst (λ (r : NodeState). AreAwaited r tells.told) (sym heard_is) waits)

-- ---- where nobody is ready

drop-all : {A : Type 0} (xs : List A) → drop (length xs) xs ≡ []
drop-all [] = refl
drop-all (x ∷ xs) = drop-all xs

module _ (v : NodeView) (at : Stamp) (none : IsNoneReady (heard_of v)) where
  -- no turn is had
  pub none-tell : v.line ≡ [] → IsTimely at v.log → Tells v v at (Settles (machine_in v.description) (heard_of v))
  none-tell empty timely = record {
    told = [];
    description = refl;
    grows = record { journal = sym (append-nil (journal_of v.log)); count = omega arith; spare = omega arith; timely = timely };
    gone = refl;
    places = omega arith;
    paces = λ p pace. (p, record { turns = []; are_turns = tt; made = refl; then = refl; empty = pace.line ∙ empty; settled = none }, pace);
  }

-- and nothing is told
pub none-awaited : (v : NodeView) → AreAwaited (heard_of v) (told_from (length v.log.entries) v.log)
none-awaited v = subst (λ (es : List Stamped). AreAwaited (heard_of v) (told_by_entries v.log es)) (sym (drop-all v.log.entries)) tt
