-- How many answers to an invocation's calls are due.
use Rattle.std.proofs.Common.{◌≡◌, ◌≢◌, ◌≤◌, ℕ, ◌+◌, Bool, true, false, cond, ◌&&◌, List, [], ◌∷◌, ◌++◌, drop, refl, sym, ◌∙◌, ap, subst, arith, inl, inr, ◌⊎◌}
use Rattle.std.specs.Prelude.{Option, Some, None, ℤ, ◌==◌, if◌then◌else◌}
use Rattle.std.specs.List.{filter, flat_map}
use Rattle.std.specs.Option.{option_map_or}
use Rattle.std.proofs.lemmas.Bool.Decides.{eqb_tells}
use Rattle.mate_num.specs.declared.id.ContextId.{ContextId}
use Rattle.mate_num.specs.declared.id.FunId.{FunId}
use Rattle.mate_journal.specs.Journal.{JournalEntry, Posted, Dropped, Started, Asked, Answered, Ended, Installed, Reset, Seen, Void, NodeState}
use Rattle.trickle_timer.specs.Timer.{Timer}
use Rattle.world_rules.specs.Cause.{Cause}
use Rattle.world_rules.specs.Cause as event
use Rattle.world_rules.specs.World.{World, links_from, period_of}
use Rattle.world_rules.specs.Effect.{begun_length, event_node}
use Rattle.world_rules.specs.State.{Moment, WorldState, Scheduled, of_time, Sending, sendings, is_lost, deliveries, packets_of, next_period, new_interval, new_pump, answers_due, node_at, effect_at, node_after, schedules, is_kept, is_some_length, left_due}
use Rattle.world_rules.specs.Run.{IsNext}
use Rattle.mate_num.specs.Lists.{Among}
use Rattle.mate_num.proofs.ListLemmas.{among-unfilter, among-behind}
use Rattle.world_laws.proofs.Due.{at, Outlasts, period_part, interval_part, delivery_part, pumps_anew, pump_part, answer_part}
use Rattle.world_run_laws.proofs.Waits.{calls_of}

-- the cause is an answer to the invocation n of the node k
abbrev pub answers_by : ℕ → ℕ → Cause → ℕ
answers_by k n (event.Due node c inv value) = if node == k && inv == n then 1 else 0
answers_by k n _ = 0

abbrev pub answers_in : ℕ → ℕ → List Cause → ℕ
answers_in k n [] = 0
answers_in k n (c ∷ cs) = answers_by k n c + answers_in k n cs

pub own-answer : (k n : ℕ) (c : ContextId) (value : ℤ) → answers_by k n (event.Due k c n value) ≡ 1
own-answer k n c value = elim (eqb_tells k k) [
  | inr other ↦ absurd (other.1 refl)
  | inl same ↦ elim (eqb_tells n n) [ inr other ↦ absurd (other.1 refl) | inl also ↦ rw (same.0, also.0) refl ]
]

answer-is : (k n : ℕ) (x : Cause) → (answers_by k n x ≡ 0) ⊎ ((c : ContextId) × (value : ℤ) × (x ≡ event.Due k c n value))
answer-is k n (event.Due node c inv value) = elim (eqb_tells node k) [
  | inr other ↦ inl (rw other.0 refl)
  | inl same ↦ elim (eqb_tells inv n) [ inr other ↦ inl (rw (same.0, other.0) refl) | inl also ↦ inr (c, value, λ i. event.Due (same.1 i) c (also.1 i) value) ]
]
answer-is k n _ = inl refl

pub answers-among : (k n : ℕ) (c : ContextId) (value : ℤ) (xs : List Cause) → Among (event.Due k c n value) xs → 1 ≤ answers_in k n xs
answers-among k n c value [] h = absurd h
answers-among k n c value (x ∷ xs) (inl e) = let one : answers_by k n x ≡ 1 = ap (answers_by k n) e ∙ own-answer k n c value in omega (arith, one)
answers-among k n c value (x ∷ xs) (inr h) = let more : 1 ≤ answers_in k n xs = answers-among k n c value xs h in omega (arith, more)

pub answers-some : (k n : ℕ) (xs : List Cause) → 1 ≤ answers_in k n xs → (c : ContextId) × (value : ℤ) × Among (event.Due k c n value) xs
answers-some k n [] some = absurd (omega (arith, some))
answers-some k n (x ∷ xs) some = elim (answer-is k n x) [
  | inl none ↦ let rest = answers-some k n xs (omega (arith, some, none)) in (rest.0, rest.1, inr rest.2)
  | inr found ↦ (found.0, found.1, inl found.2)
]

pub answers-append : (k n : ℕ) (xs ys : List Cause) → answers_in k n (xs ++ ys) ≡ answers_in k n xs + answers_in k n ys
answers-append k n [] ys = omega arith
answers-append k n (x ∷ xs) ys = let rest = answers-append k n xs ys in omega (arith, rest)

-- ---- what is left

answers-filter : (k n : ℕ) (p : Cause → Bool) (xs : List Cause) → answers_in k n (filter p xs) ≤ answers_in k n xs
answers-filter k n p [] = omega arith
answers-filter k n p (x ∷ xs) = by (p x) (answers-filter k n p xs) where
  by : (b : Bool) → answers_in k n (filter p xs) ≤ answers_in k n xs → answers_in k n (cond b (x ∷ filter p xs) (filter p xs)) ≤ answers_by k n x + answers_in k n xs
  by true rest = omega (arith, rest)
  by false rest = omega (arith, rest)

answers-behind : (k n : ℕ) (xs : List Cause) → answers_in k n (drop 1 xs) ≤ answers_in k n xs
answers-behind k n [] = omega arith
answers-behind k n (x ∷ xs) = omega arith

answers-first : (k n : ℕ) (first : Cause) (others xs : List Cause) → xs ≡ first ∷ others → answers_in k n (drop 1 xs) + answers_by k n first ≤ answers_in k n xs
answers-first k n first others xs is = subst (λ (ys : List Cause). answers_in k n (drop 1 ys) + answers_by k n first ≤ answers_in k n ys) (sym is) (omega arith)

pub left-most : (k n : ℕ) (w : World) (s : WorldState) (m : Moment) (t : ℕ) → answers_in k n (left_due w s m t) ≤ answers_in k n (s.due t)
left-most k n w s m t = by (t == m.time) where
  P : Cause → Bool
  P = is_kept (event_node w m.cause) (effect_at w s m) (is_some_length (begun_length (node_at w s m) (effect_at w s m)))

  by : (b : Bool) → answers_in k n (filter P (if b then drop 1 (s.due t) else s.due t)) ≤ answers_in k n (s.due t)
  by true =
      let kept : answers_in k n (filter P (drop 1 (s.due t))) ≤ answers_in k n (drop 1 (s.due t)) = answers-filter k n P (drop 1 (s.due t)) in
      let behind : answers_in k n (drop 1 (s.due t)) ≤ answers_in k n (s.due t) = answers-behind k n (s.due t) in
      omega (arith, kept, behind)
  by false = answers-filter k n P (s.due t)

pub left-here : (k n : ℕ) (w : World) (s : WorldState) (m : Moment) → IsNext s m.time m.cause → answers_in k n (left_due w s m m.time) + answers_by k n m.cause ≤ answers_in k n (s.due m.time)
left-here k n w s m next = elim (eqb_tells m.time m.time) [ inr other ↦ absurd (other.1 refl) | inl same ↦ rw same.0 now ] where
  P : Cause → Bool
  P = is_kept (event_node w m.cause) (effect_at w s m) (is_some_length (begun_length (node_at w s m) (effect_at w s m)))

  now : answers_in k n (filter P (drop 1 (s.due m.time))) + answers_by k n m.cause ≤ answers_in k n (s.due m.time)
  now =
      let kept : answers_in k n (filter P (drop 1 (s.due m.time))) ≤ answers_in k n (drop 1 (s.due m.time)) = answers-filter k n P (drop 1 (s.due m.time)) in
      let first : answers_in k n (drop 1 (s.due m.time)) + answers_by k n m.cause ≤ answers_in k n (s.due m.time) = answers-first k n m.cause next.others (s.due m.time) next.due in
      omega (arith, kept, first)

pub left-among : (w : World) (s : WorldState) (m : Moment) (t : ℕ) (c : Cause) → Among c (left_due w s m t) → Among c (s.due t) × Outlasts w s m c
left-among w s m t c h = let was = among-unfilter P c (if t == m.time then drop 1 (s.due t) else s.due t) h in (before (t == m.time) was.0, was.1) where
  P : Cause → Bool
  P = is_kept (event_node w m.cause) (effect_at w s m) (is_some_length (begun_length (node_at w s m) (effect_at w s m)))

  before : (b : Bool) → Among c (if b then drop 1 (s.due t) else s.due t) → Among c (s.due t)
  before true a = among-behind c (s.due t) a
  before false a = a

-- ---- what is scheduled

abbrev pub answers_at : ℕ → ℕ → List Scheduled → ℕ
answers_at k n [] = 0
answers_at k n (x ∷ xs) = answers_by k n x.cause + answers_at k n xs

at-append : (k n : ℕ) (xs ys : List Scheduled) → answers_at k n (xs ++ ys) ≡ answers_at k n xs + answers_at k n ys
at-append k n [] ys = omega arith
at-append k n (x ∷ xs) ys = let rest = at-append k n xs ys in omega (arith, rest)

-- at two times no more than at all
pub two-times : (k n t u : ℕ) (xs : List Scheduled) → t ≢ u → answers_in k n (of_time t xs) + answers_in k n (of_time u xs) ≤ answers_at k n xs
two-times k n t u [] differ = omega arith
two-times k n t u (x ∷ xs) differ = elim (eqb_tells x.time t) [
  | inl now ↦ elim (eqb_tells x.time u) [ inl also ↦ absurd (differ (sym now.1 ∙ also.1)) | inr other ↦ rw (now.0, other.0) (first (two-times k n t u xs differ)) ]
  | inr not_now ↦ elim (eqb_tells x.time u) [ inl then_it ↦ rw (not_now.0, then_it.0) (second (two-times k n t u xs differ)) | inr neither ↦ rw (not_now.0, neither.0) (none (two-times k n t u xs differ)) ]
] where
  first : answers_in k n (of_time t xs) + answers_in k n (of_time u xs) ≤ answers_at k n xs
      → (answers_by k n x.cause + answers_in k n (of_time t xs)) + answers_in k n (of_time u xs) ≤ answers_by k n x.cause + answers_at k n xs
  first rest = omega (arith, rest)

  second : answers_in k n (of_time t xs) + answers_in k n (of_time u xs) ≤ answers_at k n xs
      → answers_in k n (of_time t xs) + (answers_by k n x.cause + answers_in k n (of_time u xs)) ≤ answers_by k n x.cause + answers_at k n xs
  second rest = omega (arith, rest)

  none : answers_in k n (of_time t xs) + answers_in k n (of_time u xs) ≤ answers_at k n xs → answers_in k n (of_time t xs) + answers_in k n (of_time u xs) ≤ answers_by k n x.cause + answers_at k n xs
  none rest = omega (arith, rest)

period-none : (k n : ℕ) (w : World) (time : ℕ) (c : Cause) → answers_at k n (next_period w c time) ≡ 0
period-none k n w time (event.Period node h) = by (period_of w h.0) where
  by : (o : Option ℕ) → answers_at k n (option_map_or (λ p. at (time + p) (event.Period node h) ∷ []) o []) ≡ 0
  by None = refl
  by (Some p) = refl
period-none k n w time _ = refl

interval-none : (k n node : ℕ) (timer : Timer) (o : Option ℕ) → answers_at k n (new_interval node o timer) ≡ 0
interval-none k n node timer None = refl
interval-none k n node timer (Some l) = refl

delivery-none : (k n : ℕ) (w : World) (node time : ℕ) (ys : List Sending) → answers_at k n (flat_map (deliveries w node time) ys) ≡ 0
delivery-none k n w node time [] = refl
delivery-none k n w node time (y ∷ ys) =
    let rest = delivery-none k n w node time ys in
    let here = over (links_from w node) in
    at-append k n (deliveries w node time y) (flat_map (deliveries w node time) ys) ∙ omega (arith, rest, here) where
      one : (b : Bool) (j : ℕ) → answers_at k n (if b then [] else at (time + w.description.radio.delay) (event.Deliver j y.number y.packet) ∷ []) ≡ 0
      one true j = refl
      one false j = refl

      over : (js : List ℕ) → answers_at k n (flat_map (λ (j : ℕ). if is_lost w y j then [] else at (time + w.description.radio.delay) (event.Deliver j y.number y.packet) ∷ []) js) ≡ 0
      over [] = refl
      over (j ∷ js) =
          let more = over js in
          let this = one (is_lost w y j) j in
          at-append k n (if is_lost w y j then [] else at (time + w.description.radio.delay) (event.Deliver j y.number y.packet) ∷ []) _ ∙ omega (arith, more, this)

pump-none : (k n : ℕ) (w : World) (node time : ℕ) (b : Bool) → answers_at k n (new_pump w node time b) ≡ 0
pump-none k n w node time false = refl
pump-none k n w node time true = refl

-- of the node's calls, each has an answer
answers-calls : (k n : ℕ) (w : World) (time : ℕ) (r : NodeState) (called : List FunId) (told : List JournalEntry) → answers_at k n (answers_due w k time r called told) ≡ calls_of n told
answers-calls k n w time r called [] = refl
answers-calls k n w time r called (Asked i f args ∷ told) =
    let rest = answers-calls k n w time r (called ++ f ∷ []) told in elim (eqb_tells k k) [ inr other ↦ absurd (other.1 refl) | inl same ↦ rw (same.0, rest) refl ]
answers-calls k n w time r called (_ ∷ told) = let rest = answers-calls k n w time r called told in omega (arith, rest)

-- and none of another node's
answers-other : (k n : ℕ) (w : World) (node time : ℕ) (r : NodeState) (called : List FunId) (told : List JournalEntry) → (node == k) ≡ false → answers_at k n (answers_due w node time r called told) ≡ 0
answers-other k n w node time r called [] other = refl
answers-other k n w node time r called (Asked i f args ∷ told) other = let rest = answers-other k n w node time r (called ++ f ∷ []) told other in rw (other, rest) refl
answers-other k n w node time r called (_ ∷ told) other = answers-other k n w node time r called told other

-- only what calls has answers scheduled
only-answers : (k n : ℕ) (w : World) (s : WorldState) (m : Moment) → answers_at k n (schedules w s m) ≡ answers_at k n (answer_part w s m)
only-answers k n w s m =
    let a = period-none k n w m.time m.cause in
    let b = interval-none k n (event_node w m.cause) (node_after w (node_at w s m) m).timer (begun_length (node_at w s m) (effect_at w s m)) in
    let c = delivery-none k n w (event_node w m.cause) m.time (sendings w s (event_node w m.cause) (packets_of w s m)) in
    let d = pump-none k n w (event_node w m.cause) m.time (pumps_anew w s m) in
    four (answers_at k n A) (answers_at k n B) (answers_at k n C) (answers_at k n D) (answers_at k n E) (answers_at k n (D ++ E)) (answers_at k n (C ++ (D ++ E))) (answers_at k n (B ++ (C ++ (D ++ E)))) (answers_at k n (schedules w s m))
    a b c d (at-append k n D E) (at-append k n C (D ++ E)) (at-append k n B (C ++ (D ++ E))) (at-append k n A (B ++ (C ++ (D ++ E)))) where
      A : List Scheduled
      A = period_part w m

      B : List Scheduled
      B = interval_part w s m

      C : List Scheduled
      C = delivery_part w s m

      D : List Scheduled
      D = pump_part w s m

      E : List Scheduled
      E = answer_part w s m

      four : (a b c d e de cde bcde all : ℕ) → a ≡ 0 → b ≡ 0 → c ≡ 0 → d ≡ 0 → de ≡ d + e → cde ≡ c + de → bcde ≡ b + cde → all ≡ a + bcde → all ≡ e
      four a b c d e de cde bcde all za zb zc zd p q r s = omega arith

pub new-answers : (n : ℕ) (w : World) (s : WorldState) (m : Moment) → answers_at (event_node w m.cause) n (schedules w s m) ≡ calls_of n m.told
new-answers n w s m = only-answers (event_node w m.cause) n w s m ∙ answers-calls (event_node w m.cause) n w m.time (node_after w (node_at w s m) m).reading (node_at w s m).called m.told

pub no-answers : (k n : ℕ) (w : World) (s : WorldState) (m : Moment) → k ≢ event_node w m.cause → answers_at k n (schedules w s m) ≡ 0
no-answers k n w s m other = only-answers k n w s m ∙ answers-other k n w (event_node w m.cause) m.time (node_after w (node_at w s m) m).reading (node_at w s m).called m.told
    (elim (eqb_tells (event_node w m.cause) k) [ inl same ↦ absurd (other (sym same.1)) | inr differ ↦ differ.0 ])
