-- Ends in the order of posts: what is live was live before, with the same program.
use Rattle.std.proofs.Common.{◌≡◌, ◌≢◌, ◌<◌, ◌≤◌, ℕ, zero, suc, false, IsTrue, refl, sym, ◌∙◌, ap, subst, arith, inl, inr, List, [], ◌∷◌}
use Rattle.std.proofs.lemmas.Bool.Decides.{eqb_tells}
use Rattle.std.proofs.lemmas.Bool.{cases_order}
use Rattle.mate_num.specs.declared.call.End.{End}
use Rattle.mate_journal.specs.Machine.{Machine}
use Rattle.mate_journal.specs.Journal.{JournalEntry, Posted, Dropped, Started, Asked, Answered, Ended, Installed, Reset, Seen, Void, TimedEntry, Phase, Unposted, Queued, Ready, Waiting, Over, is_live, is_started, Invocation, NodeState, next_state, state_after_all, AtEachEntry}
use Rattle.mate_journal.specs.WellFormed.{MayFollow}
use Rattle.mate_journal.specs.Grants.{IsAhead, AreConflicting, started_number}
use Rattle.journal_laws.specs.Growth.{GrantsBefore}
use Rattle.mate_journal.specs.Positions.{EndsAt}
use Rattle.journal_laws.specs.Apart.{IsOrderly, EndAsPosted}
use Rattle.journal_laws.proofs.Changed.{untrue}
use Rattle.journal_laws.proofs.Moves.{Moves, started-Moves, asked-Moves, answered-Moves, ended-Moves, Joins, posted-Joins, Cuts, cut-dead}
use Rattle.journal_laws.proofs.Apart.{live_posted, conflicting_by, queued_live, ready_live, waiting_live, ready_started, orderly-step}

-- later, of what was posted before: what is live was live, and has the same program
pub record IsLater (r s : NodeState) : Type 0 where
  pub posts : r.posts ≤ s.posts
  pub program : (n : ℕ) → n ≤ r.posts → (s.invocations n).program ≡ (r.invocations n).program
  pub live : (n : ℕ) → n ≤ r.posts → IsTrue (is_live (s.invocations n).phase) → IsTrue (is_live (r.invocations n).phase)

later-self : (r : NodeState) → IsLater r r
later-self r = record { posts = omega arith; program = λ n below. refl; live = λ n below live. live }

pub later-later : (r s t : NodeState) → IsLater r s → IsLater s t → IsLater r t
later-later r s t first second = record {
  posts = omega (arith, first.posts, second.posts);
  program = λ n below. second.program n (omega (arith, first.posts)) ∙ first.program n below;
  live = λ n below live. first.live n below (second.live n (omega (arith, first.posts)) live);
}

later-moves : (r s : NodeState) (n : ℕ) (phase : Phase) → Moves r s n phase → IsTrue (is_live (r.invocations n).phase) → IsLater r s
later-moves r s n phase moves live = record {
  posts = omega (arith, moves.posts);
  program = λ k below. elim (eqb_tells k n) [ inl t ↦ subst (λ (j : ℕ). (s.invocations j).program ≡ (r.invocations j).program) (sym t.1) moves.program | inr u ↦ ap (λ (i : Invocation). i.program) (moves.others k u.1) ];
  live = λ k below now. elim (eqb_tells k n) [ inl t ↦ subst (λ (j : ℕ). IsTrue (is_live (r.invocations j).phase)) (sym t.1) live | inr u ↦ subst (λ (i : Invocation). IsTrue (is_live i.phase)) (moves.others k u.1) now ];
}

later-joins : (r s : NodeState) (n : ℕ) → Joins r s n → n ≡ suc r.posts → IsLater r s
later-joins r s n joins next = record {
  posts = omega (arith, joins.posts);
  program = λ k below. let other : k ≢ n = omega arith in ap (λ (i : Invocation). i.program) (joins.others k other);
  live = λ k below now. let other : k ≢ n = omega arith in subst (λ (i : Invocation). IsTrue (is_live i.phase)) (joins.others k other) now;
}

later-cuts : (r s : NodeState) → Cuts r s → IsLater r s
later-cuts r s cuts = record {
  posts = omega (arith, cuts.posts);
  program = λ k below. ap (λ (i : Invocation). i.program) (cuts.each k);
  live = λ k below now. absurd (cut-dead (r.invocations k) (subst (λ (i : Invocation). IsTrue (is_live i.phase)) (cuts.each k) now));
}

pub later-step : (m : Machine) (r : NodeState) (told : JournalEntry) → MayFollow m r told → IsLater r (next_state m r told)
later-step m r (Posted n h c payload) follows = later-joins r (next_state m r (Posted n h c payload)) n (posted-Joins m r n h c payload) follows.0
later-step m r (Started n) follows = later-moves r (next_state m r (Started n)) n Ready (started-Moves m r n) (queued_live r n follows)
later-step m r (Asked n f args) follows = later-moves r (next_state m r (Asked n f args)) n (Waiting f args) (asked-Moves m r n f args) (ready_live r n follows)
later-step m r (Answered n value) follows = later-moves r (next_state m r (Answered n value)) n Ready (answered-Moves m r n value) (waiting_live r n follows)
later-step m r (Ended n how) follows = later-moves r (next_state m r (Ended n how)) n Over (ended-Moves m r n how) (ready_live r n follows.0)
later-step m r (Installed p) follows = later-cuts r (next_state m r (Installed p)) (record { posts = refl; each = λ n. refl })
later-step m r Reset follows = later-cuts r (next_state m r Reset) (record { posts = refl; each = λ n. refl })
later-step m r _ follows = later-self r

pub later-after : (m : Machine) (r : NodeState) (es : List TimedEntry) → AtEachEntry (MayFollow m) m r es → IsLater r (state_after_all m r es)
later-after m r [] follow = later-self r
later-after m r (e ∷ es) follow =
    later-later r (next_state m r e.told) (state_after_all m (next_state m r e.told) es) (later-step m r e.told follow.0) (later-after m (next_state m r e.told) es follow.1)

-- ---- an invocation is ready where it ends, and live before

ends_ready : (m : Machine) (r : NodeState) (told : JournalEntry) (n : ℕ) (how : End) → told ≡ Ended n how → MayFollow m r told → (r.invocations n).phase ≡ Ready
ends_ready m r told n how is follows = (subst (λ (t : JournalEntry). MayFollow m r t) is follows).0

pub ends_live : (m : Machine) (r : NodeState) (es : List TimedEntry) (n p : ℕ) → AtEachEntry (MayFollow m) m r es → n ≤ r.posts → EndsAt es n p → IsTrue (is_live (r.invocations n).phase)
ends_live m r [] n p follow posted ends = absurd ends.tells
ends_live m r (e ∷ es) n zero follow posted ends = ready_live r n (ends_ready m r e.told n ends.how ends.tells follow.0)
ends_live m r (e ∷ es) n (suc p) follow posted ends =
    let step = later-step m r e.told follow.0 in
    step.live n posted (ends_live m (next_state m r e.told) es n p follow.1 (omega (arith, step.posts)) (record { how = ends.how; tells = ends.tells }))

-- after its end an invocation is not live
ended_dead : (m : Machine) (r : NodeState) (told : JournalEntry) (n : ℕ) (how : End) → told ≡ Ended n how → IsTrue (is_live ((next_state m r told).invocations n).phase) → ⊥
ended_dead m r told n how is live =
    untrue (is_live ((next_state m r (Ended n how)).invocations n).phase) (subst (λ (t : JournalEntry). IsTrue (is_live ((next_state m r t).invocations n).phase)) is live)
    (ap is_live (ended-Moves m r n how).here)

-- ---- the order

module _ (m : Machine) (r : NodeState) (e : TimedEntry) (es : List TimedEntry) (last j k q : ℕ) (orderly : IsOrderly m r)
    (follow : AtEachEntry (MayFollow m) m r (e ∷ es)) (first : EndsAt (e ∷ es) j zero) (second : EndsAt es k q)
    (conflict : AreConflicting m (state_after_all m r (e ∷ es)) j k) where
  ready : (r.invocations j).phase ≡ Ready
  ready = ends_ready m r e.told j first.how first.tells follow.0

  posted : j ≤ r.posts
  posted = live_posted r j (record { numbered = orderly.numbered }) (ready_live r j ready)

  after : IsLater r (next_state m r e.told)
  after = later-step m r e.told follow.0

  live_after : (i : ℕ) → i ≤ r.posts → EndsAt es i q → IsTrue (is_live ((next_state m r e.told).invocations i).phase)
  live_after i below ends = ends_live m (next_state m r e.told) es i q follow.1 (omega (arith, after.posts)) ends

  another : j ≢ k
  another = λ is. ended_dead m r e.told j first.how first.tells (live_after j posted (subst (λ (i : ℕ). EndsAt es i q) (sym is) second))

  -- one that was posted before and is live is ahead
  ahead : (phase : Phase) → (r.invocations k).phase ≡ phase → k < j → IsTrue (is_live phase) → IsAhead r j k
  ahead Unposted is below live = absurd (untrue false live refl)
  ahead Queued is below live = inr (below, is)
  ahead Ready is below live = inl (subst (λ (x : Phase). IsTrue (is_started x)) (sym is) refl)
  ahead (Waiting f args) is below live = inl (subst (λ (x : Phase). IsTrue (is_started x)) (sym is) refl)
  ahead Over is below live = absurd (untrue false live refl)

  not_before : k < j → ⊥
  not_before below =
      let k_posted : k ≤ r.posts = omega (arith, posted) in
      let whole = later-after m r (e ∷ es) follow in
      orderly.unhindered j k another (ready_started r j ready)
      (ahead (r.invocations k).phase refl below (after.live k k_posted (live_after k k_posted second)))
      (conflicting_by m r (state_after_all m r (e ∷ es)) j k (whole.program j posted) (whole.program k k_posted) conflict)

  first_is_first : j < k
  first_is_first = elim (cases_order j k) [ inl is ↦ absurd (another is) | inr other ↦ elim other [ inl below ↦ below | inr above ↦ absurd (not_before above) ] ]

pub ends-in_order : (m : Machine) (r : NodeState) (last : ℕ) (es : List TimedEntry) → AtEachEntry (MayFollow m) m r es → GrantsBefore m r last es → IsOrderly m r → EndAsPosted m r es
ends-in_order m r last [] follow granted orderly j k p q first second below conflict = absurd first.tells
ends-in_order m r last (e ∷ es) follow granted orderly j k zero zero first second below conflict = absurd (omega arith)
ends-in_order m r last (e ∷ es) follow granted orderly j k zero (suc q) first second below conflict =
    first_is_first m r e es last j k q orderly follow first (record { how = second.how; tells = second.tells }) conflict
ends-in_order m r last (e ∷ es) follow granted orderly j k (suc p) zero first second below conflict = absurd (omega arith)
ends-in_order m r last (e ∷ es) follow granted orderly j k (suc p) (suc q) first second below conflict =
    ends-in_order m (next_state m r e.told) (started_number e.told) es follow.1 granted.1 (orderly-step m r last e.told follow.0 granted.0 orderly) j k p q
    (record { how = first.how; tells = first.tells }) (record { how = second.how; tells = second.tells }) (omega arith) conflict
