-- Each answer that is due is awaited, and once.
use Rattle.std.proofs.Common.{◌≡◌, ◌≢◌, ◌<◌, ◌≤◌, ℕ, suc, ◌+◌, Bool, true, false, not, ◌&&◌, List, [], ◌∷◌, refl, sym, ◌∙◌, ap, subst, arith, inl, inr}
use Rattle.std.specs.Prelude.{ℤ, ◌==◌}
use Rattle.std.specs.List.{range_with_len}
use Rattle.std.proofs.lemmas.Bool.{cases_lt}
use Rattle.std.proofs.lemmas.Bool.Decides.{eqb_tells}
use Rattle.mate_num.specs.declared.id.ContextId.{ContextId}
use Rattle.mate_journal.specs.Journal.{Invocation, NodeState, state_after_entries}
use Rattle.mate_journal.specs.WellFormed.{IsWaiting}
use Rattle.trickle_timer.specs.Timer.{Timer}
use Rattle.journal_laws.specs.Waiting.{AreFollowing}
use Rattle.journal_laws.proofs.Staying.{waits-same}
use Rattle.journal_laws.proofs.Apart.{IsNumbered}
use Rattle.world_rules.specs.Cause.{Cause}
use Rattle.world_rules.specs.Cause as event
use Rattle.world_rules.specs.World.{World}
use Rattle.world_rules.specs.Effect.{Node, event_node, cuts}
use Rattle.world_rules.specs.State.{Moment, WorldState, Scheduled, of_time, of_interval, node_at, effect_at, node_after, schedules, left_due, after_moment, start_node, lines_from, first_of, world_start, state}
use Rattle.world_rules.specs.Run.{IsNext, HaveCome}
use Rattle.mate_num.specs.Lists.{Among}
use Rattle.mate_num.proofs.ListLemmas.{among-append, among-flat_map}
use Rattle.world_laws.proofs.OfTime.{among-un_of_time, apart}
use Rattle.world_laws.proofs.Due.{at, Outlasts, due-from, kind, AnswerOf, Source, period, interval, delivery, pump, answer, source}
use Rattle.world_laws.proofs.Points.{cause_is, nodes-here, nodes-other, line-kind, period-kind}
use Rattle.world_run_laws.proofs.Waits.{calls_of, asked-calls, BeginsWith, AnswersOther, event-begins, event-keeps, event-once, event-waits}
use Rattle.world_run_laws.proofs.Follows.{IsFollowed, followed-before, followed-told, run-numbered}
use Rattle.world_run_laws.proofs.Answering.{answers-cause}
use Rattle.world_run_laws.proofs.Counts.{answers_by, answers_in, own-answer, answers-among, answers-some, answers-append, left-most, left-here, left-among, two-times, new-answers, no-answers}

-- the invocation waits in the context
pub record AwaitsIn (r : NodeState) (c : ContextId) (n : ℕ) : Type 0 where
  pub waits : IsWaiting r n
  pub context : (r.invocations n).context ≡ c

-- the answers to a node's invocations that are due
pub record AreDuesAwaited (k : ℕ) (s : WorldState) : Type 0 where
  pub each : (t : ℕ) (c : ContextId) (n : ℕ) (value : ℤ) → Among (event.Due k c n value) (s.due t) → AwaitsIn (s.nodes k).reading c n
  pub once : (n t u : ℕ) → t ≢ u → answers_in k n (s.due t) + answers_in k n (s.due u) ≤ 1

-- ---- an answer that is left

-- its node isn't cut, and it isn't the event
record IsLeft (w : World) (s : WorldState) (m : Moment) (c : ContextId) (n : ℕ) : Type 0 where
  stays : cuts (effect_at w s m).deed ≡ false
  other : AnswersOther (effect_at w s m).deed n
  awaited : AwaitsIn (node_at w s m).reading c n

uncut : (b : Bool) (k : ℕ) → not (b && k == k) ≡ true → b ≡ false
uncut true k kept = elim (eqb_tells k k) [
  | inr other ↦ absurd (other.1 refl)
  | inl same ↦ let clash : not (true && true) ≡ true = subst (λ (b : Bool). not (true && b) ≡ true) same.0 kept in cc
]
uncut false k kept = refl

is-left : (w : World) (s : WorldState) (m : Moment) → IsNext s m.time m.cause → AreDuesAwaited (event_node w m.cause) s
    → (t : ℕ) (c : ContextId) (n : ℕ) (value : ℤ) → Among (event.Due (event_node w m.cause) c n value) (left_due w s m t) → IsLeft w s m c n
is-left w s m next old t c n value h = record {
  stays = uncut (cuts (effect_at w s m).deed) (event_node w m.cause) was.1;
  other = elim (answers-cause w (node_at w s m) n m.cause) [ inl fine ↦ fine | inr found ↦ absurd (twice (own found.0 found.1 found.2 found.3)) ];
  awaited = old.each t c n value was.0;
} where
  was : Among (event.Due (event_node w m.cause) c n value) (s.due t) × Outlasts w s m (event.Due (event_node w m.cause) c n value)
  was = left-among w s m t (event.Due (event_node w m.cause) c n value) h

  own : (k : ℕ) (d : ContextId) (v : ℤ) → m.cause ≡ event.Due k d n v → answers_by (event_node w m.cause) n m.cause ≡ 1
  own k d v is = subst (λ (x : Cause). answers_by (event_node w x) n x ≡ 1) (sym is) (own-answer k n d v)

  some : 1 ≤ answers_in (event_node w m.cause) n (left_due w s m t)
  some = answers-among (event_node w m.cause) n c value (left_due w s m t) h

  here : answers_in (event_node w m.cause) n (left_due w s m m.time) + answers_by (event_node w m.cause) n m.cause ≤ answers_in (event_node w m.cause) n (s.due m.time)
  here = left-here (event_node w m.cause) n w s m next

  twice : answers_by (event_node w m.cause) n m.cause ≡ 1 → ⊥
  twice one = elim (eqb_tells t m.time) [
    | inl same ↦
        let some_now : 1 ≤ answers_in (event_node w m.cause) n (left_due w s m m.time) = subst (λ (u : ℕ). 1 ≤ answers_in (event_node w m.cause) n (left_due w s m u)) same.1 some in
        let most : answers_in (event_node w m.cause) n (s.due m.time) + answers_in (event_node w m.cause) n (s.due (suc m.time)) ≤ 1 = old.once n m.time (suc m.time) (λ e. omega (arith, e)) in
        omega (arith, one, here, some_now, most)
    | inr other ↦
        let left : answers_in (event_node w m.cause) n (left_due w s m t) ≤ answers_in (event_node w m.cause) n (s.due t) = left-most (event_node w m.cause) n w s m t in
        let most : answers_in (event_node w m.cause) n (s.due t) + answers_in (event_node w m.cause) n (s.due m.time) ≤ 1 = old.once n t m.time other.1 in
        omega (arith, one, here, some, left, most)
  ]

-- ---- an event of the node

-- what an event told, as in a well-formed journal
record IsToldBy (w : World) (s : WorldState) (m : Moment) : Type 0 where
  next : IsNext s m.time m.cause
  begins : BeginsWith (effect_at w s m).deed m.told
  follow : AreFollowing w.machine (node_at w s m).reading m.told
  right : IsNumbered (node_at w s m).reading

no-interval : (t k : ℕ) (c : ContextId) (n : ℕ) (value : ℤ) (i : ℕ) (timer : Timer) → Among (at t (event.Due k c n value)) (of_interval i timer) → ⊥
no-interval t k c n value i timer (inl e) = apart 2 5 refl (ap (λ (x : Scheduled). kind x.cause) e)
no-interval t k c n value i timer (inr (inl e)) = apart 3 5 refl (ap (λ (x : Scheduled). kind x.cause) e)
no-interval t k c n value i timer (inr (inr a)) = a

-- an answer that is scheduled is that to a call of the event
answer-source : (w : World) (s : WorldState) (m : Moment) (t k : ℕ) (c : ContextId) (n : ℕ) (value : ℤ) → Source w s m (at t (event.Due k c n value))
    → AnswerOf w (event_node w m.cause) m.time (node_after w (node_at w s m) m).reading (node_at w s m).called m.told (at t (event.Due k c n value))
answer-source w s m t k c n value (period is later) = absurd (apart 5 1 refl is)
answer-source w s m t k c n value (interval l is a) = absurd (no-interval t k c n value (event_node w m.cause) (node_after w (node_at w s m) m).timer a)
answer-source w s m t k c n value (delivery sending j among leaves kept is) = absurd (apart 5 6 refl (ap (λ (x : Scheduled). kind x.cause) is))
answer-source w s m t k c n value (pump is) = absurd (apart 5 4 refl (ap (λ (x : Scheduled). kind x.cause) is))
answer-source w s m t k c n value (answer is later call) = call

here-each : (w : World) (s : WorldState) (m : Moment) → IsToldBy w s m → AreDuesAwaited (event_node w m.cause) s
    → (t : ℕ) (c : ContextId) (n : ℕ) (value : ℤ) → Among (event.Due (event_node w m.cause) c n value) ((after_moment w s m).due t) → AwaitsIn (state_after_entries w.machine (node_at w s m).reading m.told) c n
here-each w s m told old t c n value h = elim (among-append (event.Due (event_node w m.cause) c n value) (left_due w s m t) (of_time t (schedules w s m)) h) [
  | inl a ↦ left (is-left w s m told.next old t c n value a)
  | inr b ↦ new (answer-source w s m t (event_node w m.cause) c n value (source w s m (at t (event.Due (event_node w m.cause) c n value)) (among-un_of_time t (event.Due (event_node w m.cause) c n value) (schedules w s m) b)))
] where
  left : IsLeft w s m c n → AwaitsIn (state_after_entries w.machine (node_at w s m).reading m.told) c n
  left is =
      let same = (event-keeps w.machine (node_at w s m).reading (effect_at w s m).deed m.told n told.begins told.follow told.right is.stays is.other is.awaited.waits).0 in
      record {
        waits = waits-same (node_at w s m).reading (state_after_entries w.machine (node_at w s m).reading m.told) n same is.awaited.waits;
        context = ap (λ (i : Invocation). i.context) same ∙ is.awaited.context;
      }

  new : AnswerOf w (event_node w m.cause) m.time (node_after w (node_at w s m) m).reading (node_at w s m).called m.told (at t (event.Due (event_node w m.cause) c n value))
      → AwaitsIn (state_after_entries w.machine (node_at w s m).reading m.told) c n
  new call =
      let some : 1 ≤ calls_of call.invocation m.told = asked-calls m.told call.front call.rest call.invocation call.fun call.args call.told_is in
      let is = cause_is (at t (event.Due (event_node w m.cause) c n value)) _ call.is in
      let own : n ≡ call.invocation = ap due_of is in
      let context : c ≡ ((state_after_entries w.machine (node_at w s m).reading m.told).invocations call.invocation).context = ap context_of is in
      subst (λ (i : ℕ). AwaitsIn (state_after_entries w.machine (node_at w s m).reading m.told) c i) (sym own) (record {
        waits = event-waits w.machine (node_at w s m).reading (effect_at w s m).deed m.told call.invocation told.begins told.follow told.right some;
        context = sym context;
      }) where
        due_of : Cause → ℕ
        due_of (event.Planned line) = 0
        due_of (event.Period node g) = 0
        due_of (event.Fire node) = 0
        due_of (event.Expire node) = 0
        due_of (event.Pump node) = 0
        due_of (event.Due node d inv v) = inv
        due_of (event.Deliver link number packet) = 0

        context_of : Cause → ContextId
        context_of (event.Planned line) = c
        context_of (event.Period node g) = c
        context_of (event.Fire node) = c
        context_of (event.Expire node) = c
        context_of (event.Pump node) = c
        context_of (event.Due node d inv v) = d
        context_of (event.Deliver link number packet) = c

here-once : (w : World) (s : WorldState) (m : Moment) → IsToldBy w s m → AreDuesAwaited (event_node w m.cause) s
    → (n t u : ℕ) → t ≢ u → answers_in (event_node w m.cause) n ((after_moment w s m).due t) + answers_in (event_node w m.cause) n ((after_moment w s m).due u) ≤ 1
here-once w s m told old n t u differ =
    let now_t = answers-append (event_node w m.cause) n (left_due w s m t) (of_time t (schedules w s m)) in
    let now_u = answers-append (event_node w m.cause) n (left_due w s m u) (of_time u (schedules w s m)) in
    let new = two-times (event_node w m.cause) n t u (schedules w s m) differ in
    let scheduled = new-answers n w s m in
    elim (cases_lt 0 (calls_of n m.told)) [
      | inl calls ↦
          let most = event-once w.machine (node_at w s m).reading (effect_at w s m).deed m.told n told.begins told.follow told.right in
          let a = none_left calls t in
          let b = none_left calls u in
          omega (arith, a, b, now_t, now_u, new, scheduled, most)
      | inr none ↦
          let left_t = left-most (event_node w m.cause) n w s m t in
          let left_u = left-most (event_node w m.cause) n w s m u in
          let before = old.once n t u differ in
          omega (arith, none, left_t, left_u, before, now_t, now_u, new, scheduled)
    ] where
      none_left : 0 < calls_of n m.told → (v : ℕ) → answers_in (event_node w m.cause) n (left_due w s m v) ≡ 0
      none_left calls v = elim (cases_lt 0 (answers_in (event_node w m.cause) n (left_due w s m v))) [
        | inr none ↦ omega (arith, none)
        | inl some ↦
            let found = answers-some (event_node w m.cause) n (left_due w s m v) (omega (arith, some)) in
            let is = is-left w s m told.next old v found.0 n found.1 found.2 in
            let quiet = (event-keeps w.machine (node_at w s m).reading (effect_at w s m).deed m.told n told.begins told.follow told.right is.stays is.other is.awaited.waits).1 in
            absurd (omega (arith, quiet, calls))
      ]

here-step : (w : World) (s : WorldState) (m : Moment) → IsToldBy w s m → AreDuesAwaited (event_node w m.cause) s → AreDuesAwaited (event_node w m.cause) (after_moment w s m)
here-step w s m told old = record {
  each = λ t c n value h. subst (λ (x : Node). AwaitsIn x.reading c n) (sym (nodes-here w s m)) (here-each w s m told old t c n value h);
  once = λ n t u differ. here-once w s m told old n t u differ;
}

-- ---- an event of another node

other-step : (w : World) (s : WorldState) (m : Moment) (k : ℕ) → k ≢ event_node w m.cause → AreDuesAwaited k s → AreDuesAwaited k (after_moment w s m)
other-step w s m k other old = record {
  each = λ t c n value h. subst (λ (x : Node). AwaitsIn x.reading c n) (sym (nodes-other w s m k other)) (elim (due-from w s m t (event.Due k c n value) h) [
    | inl was ↦ old.each t c n value was.0
    | inr new ↦ absurd (not_new t c n value new)
  ]);
  once = λ n t u differ.
      let a = answers-append k n (left_due w s m t) (of_time t (schedules w s m)) in
      let b = answers-append k n (left_due w s m u) (of_time u (schedules w s m)) in
      let left_t = left-most k n w s m t in
      let left_u = left-most k n w s m u in
      let before = old.once n t u differ in
      let new = two-times k n t u (schedules w s m) differ in
      let none = no-answers k n w s m other in
      omega (arith, a, b, left_t, left_u, before, new, none);
} where
  not_new : (t : ℕ) (c : ContextId) (n : ℕ) (value : ℤ) → Among (at t (event.Due k c n value)) (schedules w s m) → ⊥
  not_new t c n value h =
      let call = answer-source w s m t k c n value (source w s m (at t (event.Due k c n value)) h) in
      other (ap (event_node w) (cause_is (at t (event.Due k c n value)) _ call.is))

-- ---- along a run

start-none : (w : World) (k t : ℕ) (c : ContextId) (n : ℕ) (value : ℤ) → Among (event.Due k c n value) ((world_start w).due t) → ⊥
start-none w k t c n value a = elim (among-append (at t (event.Due k c n value)) (lines_from 0 w.plan) _ (among-un_of_time t (event.Due k c n value) _ a)) [
  | inl line ↦ apart 5 0 refl (line-kind (at t (event.Due k c n value)) 0 w.plan line)
  | inr b ↦ let node = among-flat_map (first_of w) (at t (event.Due k c n value)) (range_with_len 0 w.nodes) b in
      elim (among-append (at t (event.Due k c n value)) (of_interval node.0 (start_node w node.0).timer) _ node.2) [
        | inl d ↦ no-interval t k c n value node.0 (start_node w node.0).timer d
        | inr e ↦ apart 5 1 refl (period-kind w (at t (event.Due k c n value)) node.0 e)
      ]
]

start-awaited : (w : World) (k : ℕ) → AreDuesAwaited k (world_start w)
start-awaited w k = record {
  each = λ t c n value h. absurd (start-none w k t c n value h);
  once = λ n t u differ. let a = none n t in let b = none n u in omega (arith, a, b);
} where
  none : (n t : ℕ) → answers_in k n ((world_start w).due t) ≡ 0
  none n t = elim (cases_lt 0 (answers_in k n ((world_start w).due t))) [
    | inr is ↦ omega (arith, is)
    | inl some ↦ let found = answers-some k n ((world_start w).due t) (omega (arith, some)) in absurd (start-none w k t found.0 n found.1 found.2)
  ]

pub run-awaited : (w : World) (k : ℕ) (ms : List Moment) → HaveCome w ms → IsFollowed w k ms → AreDuesAwaited k (state w ms)
run-awaited w k [] come follow = start-awaited w k
run-awaited w k (m ∷ before) come follow = elim (eqb_tells k (event_node w m.cause)) [
  | inr other ↦ other-step w (state w before) m k other.1 (run-awaited w k before come.0 (followed-before w k m before follow))
  | inl same ↦ subst (λ (i : ℕ). AreDuesAwaited i (state w (m ∷ before))) (sym same.1)
      (here-step w (state w before) m (told (subst (λ (i : ℕ). IsFollowed w i (m ∷ before)) same.1 follow))
      (subst (λ (i : ℕ). AreDuesAwaited i (state w before)) same.1 (run-awaited w k before come.0 (followed-before w k m before follow))))
] where
  told : IsFollowed w (event_node w m.cause) (m ∷ before) → IsToldBy w (state w before) m
  told all = record {
    next = come.1.next;
    begins = event-begins w.machine (node_at w (state w before) m).reading (node_at w (state w before) m).pace (effect_at w (state w before) m).deed m.told m.pace come.1.makes;
    follow = followed-told w m before all;
    right = run-numbered w (event_node w m.cause) before (followed-before w (event_node w m.cause) m before all);
  }
