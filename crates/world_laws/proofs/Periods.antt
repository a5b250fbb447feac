-- Each multiple of a timer handler's period has its event.
use Rattle.std.proofs.Common.{◌≡◌, ◌≤◌, ◌<◌, ℕ, zero, suc, ◌+◌, ◌*◌, true, false, List, [], ◌∷◌, ◌++◌, Some, None, Option, refl, sym, ◌∙◌, ap, subst, arith, inl, inr, append_assoc, zero-add}
use Rattle.std.specs.List.{flat_map, filter_map, cons_option, range_with_len}
use Rattle.std.specs.Option.{option_map_or}
use Rattle.std.proofs.lemmas.List.{append-nil}
use Rattle.std.proofs.Math.Nat.{suc-mul}
use Rattle.world_rules.specs.Cause.{Cause}
use Rattle.world_rules.specs.Cause as event
use Rattle.world_rules.specs.World.{World, handlers, handler_id, period_of}
use Rattle.world_rules.specs.State.{Moment, WorldState, Scheduled, next_period, schedules, of_interval, lines_from, first_of, start_node, world_start, state}
use Rattle.world_rules.specs.Run.{HaveCome, IsDone}
use Rattle.world_laws.specs.Causes.{HasEvent, PeriodsCome}
use Rattle.mate_num.specs.Lists.{Among}
use Rattle.mate_num.proofs.ListLemmas.{among-left, among-right, none-among}
use Rattle.world_laws.proofs.OfTime.{among-of_time}
use Rattle.world_laws.proofs.Due.{at, due-new}
use Rattle.world_laws.proofs.Points.{among-map_of}
use Rattle.world_laws.proofs.Comes.{come-along}

abbrev period_event : ℕ → ℕ → Cause
period_event node h = event.Period node (handler_id h)

-- ---- what is scheduled

pub among-in_filter_map : {X Y : Type 0} (f : X → Option Y) (y : Y) (x : X) (xs : List X) → Among x xs → f x ≡ Some y → Among y (filter_map f xs)
among-in_filter_map f y x [] h is = absurd h
among-in_filter_map {X} {Y} f y x (z ∷ zs) (inl e) is = rw (ap f e ∙ is) (inl refl)
among-in_filter_map {X} {Y} f y x (z ∷ zs) (inr h) is = by (f z) (among-in_filter_map f y x zs h is) where
  by : (o : Option Y) → Among y (filter_map f zs) → Among y (cons_option o (filter_map f zs))
  by None rest = rest
  by (Some v) rest = inr rest

among-range : (k first n : ℕ) → k < n → Among (first + k) (range_with_len first n)
among-range k first zero less = omega (arith, less)
among-range zero first (suc n) less = inl (omega arith)
among-range (suc k) first (suc n) less =
    let next : (first + 1) + k ≡ first + suc k = omega arith in
    inr (subst (λ (v : ℕ). Among v (range_with_len (first + 1) n)) next (among-range k (first + 1) n (omega (arith, less))))

among-all : (k n : ℕ) → k < n → Among k (range_with_len 0 n)
among-all k n less = subst (λ (v : ℕ). Among v (range_with_len 0 n)) (zero-add k) (among-range k 0 n less)

first-due : (w : World) (node h period : ℕ) → node < w.nodes → h < handlers w → period_of w h ≡ Some period → Among (period_event node h) ((world_start w).due period)
first-due w node h period small below is =
    among-of_time period c (lines_from 0 w.plan ++ flat_map (first_of w) (range_with_len 0 w.nodes))
    (among-right (at period c) (lines_from 0 w.plan) (flat_map (first_of w) (range_with_len 0 w.nodes))
    (among-map_of (first_of w) (at period c) node (range_with_len 0 w.nodes) (among-all node w.nodes small)
    (among-right (at period c) (of_interval node (start_node w node).timer) _
    (among-in_filter_map (λ (g : ℕ). option_map_or (λ (p : ℕ). Some (at p (event.Period node (handler_id g)))) (period_of w g) None) (at period c) h (range_with_len 0 (handlers w)) (among-all h (handlers w) below)
    (ap (λ (o : Option ℕ). option_map_or (λ (p : ℕ). Some (at p c)) o None) is))))) where
      c : Cause
      c = period_event node h

next-scheduled : (w : World) (s : WorldState) (m : Moment) (node h period t : ℕ) → m.cause ≡ period_event node h → m.time ≡ t → period_of w h ≡ Some period
    → Among (at (t + period) (period_event node h)) (schedules w s m)
next-scheduled w s m node h period t cause time is =
    among-left x (next_period w m.cause m.time) _ (subst (λ (v : ℕ). Among x (next_period w m.cause v)) (sym time) (subst (λ (v : Cause). Among x (next_period w v t)) (sym cause) here)) where
      x : Scheduled
      x = at (t + period) (period_event node h)

      here : Among x (next_period w (period_event node h) t)
      here = rw is (inl refl)

-- ---- each comes

-- a period that is due comes, where the run reached its time
comes : (w : World) (before later : List Moment) (t node h : ℕ) → HaveCome w (later ++ before) → IsDone (state w (later ++ before)) t → Among (period_event node h) ((state w before).due t)
    → HasEvent later t (period_event node h)
comes w before later t node h come done due = elim (come-along w before later t (period_event node h) come due) [
  | inl (inl found) ↦ found
  | inl (inr cancelled) ↦ (let clash : true ≡ false = cancelled.cancels in cc)
  | inr still ↦ absurd (none-among (period_event node h) _ (done t at_most) still)
] where
  at_most : t ≤ t
  at_most = omega arith

mul_more : (times period : ℕ) → suc (suc times) * period ≡ suc times * period + period
mul_more times period = suc-mul (suc times) period

done-before : (s : WorldState) (t u : ℕ) → t ≤ u → IsDone s u → IsDone s t
done-before s t u less done v within = done v (omega (arith, less, within))

pub periods_come : (w : World) → PeriodsCome w
periods_come w ms node h period zero come small below is done =
    let P : List Moment → Type 0 = λ xs. HaveCome w xs in
    let Q : List Moment → Type 0 = λ xs. IsDone (state w xs) (1 * period) in
    let time : 1 * period ≡ period = omega arith in
    comes w [] ms (1 * period) node h (subst P (sym (append-nil ms)) come) (subst Q (sym (append-nil ms)) done)
    (subst (λ (t : ℕ). Among (period_event node h) ((world_start w).due t)) (sym time) (first-due w node h period small below is))
periods_come w ms node h period (suc times) come small below is done = on (periods_come w ms node h period times come small below is (done-before (state w ms) t u (grows t u later) done)) where
  t : ℕ
  t = suc times * period

  u : ℕ
  u = suc (suc times) * period

  later : u ≡ t + period
  later = mul_more times period

  grows : (a b : ℕ) → b ≡ a + period → a ≤ b
  grows a b e = omega (arith, e)

  on : HasEvent ms t (period_event node h) → HasEvent ms u (period_event node h)
  on found =
      let split : ms ≡ found.newer ++ (found.moment ∷ found.older) = found.split in
      let P : List Moment → Type 0 = λ xs. HaveCome w xs in
      let Q : List Moment → Type 0 = λ xs. IsDone (state w xs) u in
      let due : Among (period_event node h) ((state w (found.moment ∷ found.older)).due (t + period)) =
      due-new w (state w found.older) found.moment (t + period) (period_event node h) (next-scheduled w (state w found.older) found.moment node h period t found.cause found.time is) in
      lift split (comes w (found.moment ∷ found.older) found.newer u node h (subst P split come) (subst Q split done)
      (subst (λ (v : ℕ). Among (period_event node h) ((state w (found.moment ∷ found.older)).due v)) (sym later) due)) where
        lift : ms ≡ found.newer ++ (found.moment ∷ found.older) → HasEvent found.newer u (period_event node h) → HasEvent ms u (period_event node h)
        lift split e = record {
          moment = e.moment;
          newer = e.newer;
          older = e.older ++ (found.moment ∷ found.older);
          split = split ∙ ap (λ (xs : List Moment). xs ++ (found.moment ∷ found.older)) e.split ∙ append_assoc e.newer (e.moment ∷ e.older) (found.moment ∷ found.older);
          cause = e.cause;
          time = e.time;
        }
