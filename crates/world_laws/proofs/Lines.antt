-- The lines of a script come in their order.
use Rattle.std.proofs.Common.{◌≡◌, ◌≢◌, ◌<◌, ◌≤◌, ℕ, suc, ◌+◌, Bool, true, false, cond, List, [], ◌∷◌, ◌++◌, drop, refl, sym, ◌∙◌, ap, subst, arith, inl, inr, ◌⊎◌}
use Rattle.std.specs.Prelude.{Some, None, slice_get, ◌==◌, if◌then◌else◌}
use Rattle.std.specs.List.{filter, flat_map, range_with_len, cons_option}
use Rattle.std.proofs.lemmas.List.Elements.{filter_map-append}
use Rattle.std.proofs.lemmas.Bool.{cases_lt}
use Rattle.std.proofs.lemmas.Bool.Decides.{eqb_tells}
use Rattle.world_rules.specs.Cause.{Cause}
use Rattle.world_rules.specs.Cause as event
use Rattle.world_rules.specs.World.{World, PlannedLine}
use Rattle.world_rules.specs.Effect.{event_node, begun_length}
use Rattle.world_rules.specs.State.{Moment, WorldState, Scheduled, at_this, of_time, of_interval, node_at, effect_at, node_after, schedules, is_kept, is_some_length, left_due, after_moment, start_node, lines_from, first_of, world_start, state}
use Rattle.world_rules.specs.Run.{IsNext, HaveCome}
use Rattle.world_laws.specs.Lines.{IsPlanTimely, LinesInOrder}
use Rattle.mate_num.specs.Lists.{Among}
use Rattle.mate_num.proofs.ListLemmas.{among-append, among-unfilter, among-flat_map}
use Rattle.world_laws.proofs.OfTime.{among-un_of_time, apart}
use Rattle.world_laws.proofs.Due.{at, due-from, kind, Source, period, interval, delivery, pump, answer, source}
use Rattle.world_laws.proofs.Points.{among-next, next-before, period-kind}

-- the lines in the list have rising numbers
abbrev Rising : List Cause → Type 0
Rising [] = Unit {0}
Rising (e ∷ es) = ((i j : ℕ) → e ≡ event.Planned i → Among (event.Planned j) es → i < j) × Rising es

rising-filter : (p : Cause → Bool) (es : List Cause) → Rising es → Rising (filter p es)
rising-filter p [] rises = tt
rising-filter p (e ∷ es) rises = by (p e) (rising-filter p es rises.1) where
  by : (b : Bool) → Rising (filter p es) → Rising (cond b (e ∷ filter p es) (filter p es))
  by true rest = (λ i j is a. rises.0 i j is (among-unfilter p (event.Planned j) es a).0, rest)
  by false rest = rest

rising-drop : (es : List Cause) → Rising es → Rising (drop 1 es)
rising-drop [] rises = tt
rising-drop (e ∷ es) rises = rises.1

abbrev NoLine : List Cause → Type 0
NoLine es = (j : ℕ) → Among (event.Planned j) es → ⊥

rising-none : (es : List Cause) → NoLine es → Rising es
rising-none [] none = tt
rising-none (e ∷ es) none = (λ i j is a. absurd (none j (inr a)), rising-none es (λ j a. none j (inr a)))

rising-append : (es fs : List Cause) → Rising es → NoLine fs → Rising (es ++ fs)
rising-append [] fs rises none = rising-none fs none
rising-append (e ∷ es) fs rises none = (λ i j is a. by i j is (among-append (event.Planned j) es fs a), rising-append es fs rises.1 none) where
  by : (i j : ℕ) → e ≡ event.Planned i → Among (event.Planned j) es ⊎ Among (event.Planned j) fs → i < j
  by i j is (inl a) = rises.0 i j is a
  by i j is (inr a) = absurd (none j a)

-- ---- an event schedules no line

interval-no_line : (i k t : ℕ) (timer : _) → Among (at t (event.Planned i)) (of_interval k timer) → ⊥
interval-no_line i k t timer (inl e) = apart 2 0 refl (ap (λ (x : Scheduled). kind x.cause) e)
interval-no_line i k t timer (inr (inl e)) = apart 3 0 refl (ap (λ (x : Scheduled). kind x.cause) e)
interval-no_line i k t timer (inr (inr a)) = a

no_line : (w : World) (s : WorldState) (m : Moment) (t i : ℕ) → Source w s m (at t (event.Planned i)) → ⊥
no_line w s m t i (period is later) = apart 0 1 refl is
no_line w s m t i (interval l is a) = interval-no_line i (event_node w m.cause) t (node_after w (node_at w s m) m).timer a
no_line w s m t i (delivery sending j a b kept is) = apart 0 6 refl (ap (λ (x : Scheduled). kind x.cause) is)
no_line w s m t i (pump is) = apart 0 4 refl (ap (λ (x : Scheduled). kind x.cause) is)
no_line w s m t i (answer is later call) = apart 0 5 refl is

line-before : (w : World) (s : WorldState) (m : Moment) (t i : ℕ) → Among (event.Planned i) ((after_moment w s m).due t) → Among (event.Planned i) (s.due t)
line-before w s m t i a = elim (due-from w s m t (event.Planned i) a) [ inl was ↦ was.0 | inr new ↦ absurd (no_line w s m t i (source w s m (at t (event.Planned i)) new)) ]

-- ---- the lines that are due

record LinesDue (w : World) (s : WorldState) : Type 0 where
  timed : (t i : ℕ) → Among (event.Planned i) (s.due t) → (l : PlannedLine) × (slice_get w.plan i ≡ Some l) × (l.time ≡ t)
  rising : (t : ℕ) → Rising (s.due t)

lines-step : (w : World) (s : WorldState) (m : Moment) → LinesDue w s → LinesDue w (after_moment w s m)
lines-step w s m old = record {
  timed = λ t i a. old.timed t i (line-before w s m t i a);
  rising = λ t. rising-append (left_due w s m t) (of_time t (schedules w s m)) (kept t) (λ j a. no_line w s m t j (source w s m (at t (event.Planned j)) (among-un_of_time t (event.Planned j) (schedules w s m) a)));
} where
  either : (b : Bool) (t : ℕ) → Rising (if b then drop 1 (s.due t) else s.due t)
  either true t = rising-drop (s.due t) (old.rising t)
  either false t = old.rising t

  kept : (t : ℕ) → Rising (left_due w s m t)
  kept t = rising-filter (is_kept (event_node w m.cause) (effect_at w s m) (is_some_length (begun_length (node_at w s m) (effect_at w s m)))) (if t == m.time then drop 1 (s.due t) else s.due t) (either (t == m.time) t)

-- the line that a cause is of; 0 for others
abbrev line_of : Cause → ℕ
line_of (event.Planned line) = line
line_of _ = 0

same-line : {n i : ℕ} → event.Planned n ≡ event.Planned i → n ≡ i
same-line same = ap line_of same

-- the lines of a list, numbered from n
line-at : (n : ℕ) (ls : List PlannedLine) (t i : ℕ) → Among (at t (event.Planned i)) (lines_from n ls) → (k : ℕ) × (i ≡ n + k) × (l : PlannedLine) × (slice_get ls k ≡ Some l) × (l.time ≡ t)
line-at n [] t i a = absurd a
line-at n (l ∷ ls) t i (inl e) = (0, (let same : n ≡ i = same-line (ap (λ (x : Scheduled). x.cause) e) in omega (arith, same)), l, refl, ap (λ (x : Scheduled). x.time) e)
line-at n (l ∷ ls) t i (inr a) = let rest = line-at (suc n) ls t i a in (suc rest.0, (let e = rest.1 in omega (arith, e)), rest.2, rest.3, rest.4)

lines-rising : (n : ℕ) (ls : List PlannedLine) (t : ℕ) → Rising (of_time t (lines_from n ls))
lines-rising n [] t = tt
lines-rising n (l ∷ ls) t = by (l.time == t) (lines-rising (suc n) ls t) where
  by : (b : Bool) → Rising (of_time t (lines_from (suc n) ls)) → Rising (cons_option (if b then Some (event.Planned n) else None) (of_time t (lines_from (suc n) ls)))
  by false rest = rest
  by true rest = (λ i j is a. (let found = line-at (suc n) ls t j (among-un_of_time t (event.Planned j) (lines_from (suc n) ls) a) in let same : n ≡ i = same-line is in let e = found.1 in omega (arith, same, e)), rest)

nodes-no_line : (w : World) (t i : ℕ) → Among (at t (event.Planned i)) (flat_map (first_of w) (range_with_len 0 w.nodes)) → ⊥
nodes-no_line w t i b =
    let node = among-flat_map (first_of w) (at t (event.Planned i)) (range_with_len 0 w.nodes) b in
    elim (among-append (at t (event.Planned i)) (of_interval node.0 (start_node w node.0).timer) _ node.2) [
      | inl c ↦ interval-no_line i node.0 t (start_node w node.0).timer c
      | inr d ↦ apart 0 1 refl (period-kind w (at t (event.Planned i)) node.0 d)
    ]

of_time-append : (t : ℕ) (xs ys : List Scheduled) → of_time t (xs ++ ys) ≡ of_time t xs ++ of_time t ys
of_time-append t xs ys = filter_map-append (at_this t) xs ys

lines-start : (w : World) → LinesDue w (world_start w)
lines-start w = record {
  timed = λ t i a. elim (among-append (at t (event.Planned i)) (lines_from 0 w.plan) (flat_map (first_of w) (range_with_len 0 w.nodes)) (among-un_of_time t (event.Planned i) (lines_from 0 w.plan ++ flat_map (first_of w) (range_with_len 0 w.nodes)) a)) [
    | inl line ↦ (let found = line-at 0 w.plan t i line in let e : found.0 ≡ i = (let f = found.1 in omega (arith, f)) in (found.2, subst (λ (k : ℕ). slice_get w.plan k ≡ Some found.2) e found.3, found.4))
    | inr node ↦ absurd (nodes-no_line w t i node)
  ];
  rising = λ t. subst Rising (sym (of_time-append t (lines_from 0 w.plan) (flat_map (first_of w) (range_with_len 0 w.nodes))))
      (rising-append (of_time t (lines_from 0 w.plan)) (of_time t (flat_map (first_of w) (range_with_len 0 w.nodes))) (lines-rising 0 w.plan t)
      (λ j a. nodes-no_line w t j (among-un_of_time t (event.Planned j) (flat_map (first_of w) (range_with_len 0 w.nodes)) a)));
}

run-lines : (w : World) (ms : List Moment) → LinesDue w (state w ms)
run-lines w [] = lines-start w
run-lines w (m ∷ before) = lines-step w (state w before) m (run-lines w before)

-- what is due after a line's event is of a later line
after-line : (w : World) (s : WorldState) (y : Moment) (i j t : ℕ) → IsPlanTimely w → LinesDue w s → IsNext s y.time y.cause → y.cause ≡ event.Planned i → Among (event.Planned j) ((after_moment w s y).due t) → i < j
after-line w s y i j t timely lines next is a = elim (eqb_tells t y.time) [ inl same ↦ now same.0 same.1 | inr other ↦ later other.1 ] where
  stays : Among (event.Planned j) (left_due w s y t)
  stays = elim (among-append (event.Planned j) (left_due w s y t) (of_time t (schedules w s y)) a) [
    | inl old ↦ old
    | inr new ↦ absurd (no_line w s y t j (source w s y (at t (event.Planned j)) (among-un_of_time t (event.Planned j) (schedules w s y) new)))
  ]

  now : (t == y.time) ≡ true → t ≡ y.time → i < j
  now test same =
      let behind : Among (event.Planned j) (drop 1 (s.due t)) = (among-unfilter (is_kept (event_node w y.cause) (effect_at w s y) (is_some_length (begun_length (node_at w s y) (effect_at w s y)))) (event.Planned j) (drop 1 (s.due t))
      (subst (λ (b : Bool). Among (event.Planned j) (filter (is_kept (event_node w y.cause) (effect_at w s y) (is_some_length (begun_length (node_at w s y) (effect_at w s y)))) (if b then drop 1 (s.due t) else s.due t))) test stays)).0 in
      let due_is : s.due t ≡ y.cause ∷ next.others = ap s.due same ∙ next.due in
      let rises : Rising (y.cause ∷ next.others) = subst Rising due_is (lines.rising t) in
      rises.0 i j is (subst (λ (es : List Cause). Among (event.Planned j) (drop 1 es)) due_is behind)

  later : t ≢ y.time → i < j
  later other = elim (cases_lt i j) [ inl less ↦ less | inr not_less ↦ absurd (clash not_less) ] where
    due_j : Among (event.Planned j) (s.due t)
    due_j = line-before w s y t j a

    after : y.time ≤ t
    after = next-before s y.time t y.cause (event.Planned j) next (line-before w s y t j a)

    line_j : (l : PlannedLine) × (slice_get w.plan j ≡ Some l) × (l.time ≡ t)
    line_j = lines.timed t j (line-before w s y t j a)

    line_i : (l : PlannedLine) × (slice_get w.plan i ≡ Some l) × (l.time ≡ y.time)
    line_i = lines.timed y.time i (subst (λ (c : Cause). Among c (s.due y.time)) is (among-next s y.time y.cause next))

    clash : j ≤ i → ⊥
    clash below = elim (eqb_tells j i) [
      | inl one ↦ (
          let both : Some line_j.0 ≡ Some line_i.0 = sym line_j.1 ∙ ap (slice_get w.plan) one.1 ∙ line_i.1 in
          let same : line_j.0 ≡ line_i.0 = cc in
          other (sym line_j.2 ∙ ap (λ (l : PlannedLine). l.time) same ∙ line_i.2))
      | inr apart_them ↦ (
          let less : j < i = omega (arith, below, apart_them.1) in
          let early : line_j.0.time ≤ line_i.0.time = timely j i line_j.0 line_i.0 line_j.1 line_i.1 less in
          other (omega (arith, early, after, line_j.2, line_i.2)))
    ]

pub later-lines : (w : World) (before later : List Moment) (y : Moment) (i j t : ℕ) → IsPlanTimely w → HaveCome w (later ++ (y ∷ before)) → y.cause ≡ event.Planned i → Among (event.Planned j) ((state w (later ++ (y ∷ before))).due t) → i < j
later-lines w before [] y i j t timely come is a = after-line w (state w before) y i j t timely (run-lines w before) come.1.next is a
later-lines w before (z ∷ later) y i j t timely come is a = later-lines w before later y i j t timely come.0 is (line-before w (state w (later ++ (y ∷ before))) z t j a)

pub lines_in_order : (w : World) → IsPlanTimely w → LinesInOrder w
lines_in_order w timely before later x y i j come cause_y cause_x =
    later-lines w before later y i j x.time timely come.0 cause_y (subst (λ (c : Cause). Among c ((state w (later ++ (y ∷ before))).due x.time)) cause_x (among-next (state w (later ++ (y ∷ before))) x.time x.cause come.1.next))
