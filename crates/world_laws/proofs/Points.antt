-- When the points of a node's timer come.
use Rattle.std.proofs.Common.{◌≡◌, ◌≢◌, ◌<◌, ◌≤◌, ℕ, zero, suc, ◌+◌, ◌*◌, ◌/◌, ◌%◌, min, Bool, true, false, not, ◌&&◌, List, [], ◌∷◌, ◌++◌, refl, sym, ◌∙◌, ap, subst, arith, inl, inr, ◌⊎◌}
use Rattle.std.specs.Prelude.{Option, Some, None, ◌==◌}
use Rattle.std.specs.List.{flat_map, filter_map, cons_option, range_with_len}
use Rattle.std.specs.Option.{option_map_or}
use Rattle.std.proofs.lemmas.Bool.Decides.{eqb_tells}
use Rattle.std.proofs.lemmas.Bool.{cases_lt}
use Rattle.vm_shape.specs.declared.settings.TrickleSet.{TrickleSet}
use Rattle.vm_shape.specs.Limits.{longest}
use Rattle.rand_pcg.specs.Pcg.{pcg32}
use Rattle.trickle_timer.specs.Intervals as trickle
use Rattle.trickle_timer.specs.Timer.{Timer, begun_timer}
use Rattle.world_rules.specs.Cause.{Cause}
use Rattle.world_rules.specs.Cause as event
use Rattle.world_rules.specs.World.{World, PlannedLine, period_of, handlers}
use Rattle.world_rules.specs.Effect.{Node, NodeEffect, node_effect, begun_length, resets, event_node}
use Rattle.world_rules.specs.State.{Moment, WorldState, Scheduled, of_interval, node_at, effect_at, node_after, schedules, is_some_length, after_moment, start_node, lines_from, first_of, world_start, state}
use Rattle.world_rules.specs.Run.{IsNext, MayCome, HaveCome}
use Rattle.world_laws.specs.Times.{IsRightSet, last_time, StandsIn, NeverResets, Fires, FiresInTime}
use Rattle.mate_num.specs.Lists.{Among}
use Rattle.mate_num.proofs.ListLemmas.{each_over-behind, among-left, among-right, among-append, among-flat_map, none-among}
use Rattle.world_laws.proofs.OfTime.{among-of_time, among-un_of_time, apart}
use Rattle.world_laws.proofs.Timers.{IsSameInterval, timer_kept, timer_begun, Begins, shortened, again, expired, why_begun, few}
use Rattle.world_laws.proofs.Due.{at, Outlasts, due-keeps, due-from, due-new, kind, Source, period, interval, delivery, pump, answer, source, begun-scheduled}

-- ---- the settings

-- an interval's point lies in its second half
pub interval_bounds : (l time w : ℕ) → 2 ≤ l → (time + l / 2 ≤ (trickle.interval l time w).point) × ((trickle.interval l time w).point < time + l)
interval_bounds l time w two =
    let some : 0 < l / 2 = omega arith in
    let below : w % (l / 2) < l / 2 = omega arith in
    (omega arith, omega arith)

-- ---- time doesn't go back

pub record IsPast (s : WorldState) (last : ℕ) : Type 0 where
  pub none : (t : ℕ) → t < last → s.due t ≡ []

pub none_is_empty : {X : Type 0} (xs : List X) → ((x : X) → Among x xs → ⊥) → xs ≡ []
none_is_empty [] h = refl
none_is_empty (x ∷ xs) h = absurd (h x (inl refl))

pub among-next : (s : WorldState) (t : ℕ) (c : Cause) → IsNext s t c → Among c (s.due t)
among-next s t c next = subst (λ (xs : List Cause). Among c xs) (sym next.due) (inl refl)

-- the next event comes no later than whatever is due
pub next-before : (s : WorldState) (t u : ℕ) (c x : Cause) → IsNext s t c → Among x (s.due u) → t ≤ u
next-before s t u c x next h = elim (cases_lt u t) [ inl before ↦ absurd (none-among x (s.due u) (next.none_before u before) h) | inr not_before ↦ not_before ]

pub last-before : (s : WorldState) (last t : ℕ) (c : Cause) → IsPast s last → IsNext s t c → last ≤ t
last-before s last t c past next = elim (cases_lt t last) [ inl before ↦ absurd (none-among c (s.due t) (past.none t before) (among-next s t c next)) | inr not_before ↦ not_before ]

-- ---- a node after an event

pub nodes-here : (w : World) (s : WorldState) (m : Moment) → (after_moment w s m).nodes (event_node w m.cause) ≡ node_after w (node_at w s m) m
nodes-here w s m = elim (eqb_tells (event_node w m.cause) (event_node w m.cause)) [ inl same ↦ rw same.0 refl | inr other ↦ absurd (other.1 refl) ]

pub nodes-other : (w : World) (s : WorldState) (m : Moment) (i : ℕ) → i ≢ event_node w m.cause → (after_moment w s m).nodes i ≡ s.nodes i
nodes-other w s m i other = elim (eqb_tells i (event_node w m.cause)) [ inl same ↦ absurd (other same.1) | inr not_same ↦ rw not_same.0 refl ]

-- the two entries of an interval
pub point-of : (i : ℕ) (t : Timer) → Among (at t.running.point (event.Fire i)) (of_interval i t)
point-of i t = inl refl

pub end-of : (i : ℕ) (t : Timer) → Among (at (t.running.begin + t.running.length) (event.Expire i)) (of_interval i t)
end-of i t = inr (inl refl)

pub cause_is : (x y : Scheduled) → x ≡ y → x.cause ≡ y.cause
cause_is x y e = ap (λ (z : Scheduled). z.cause) e

time_is : (x y : Scheduled) → x ≡ y → x.time ≡ y.time
time_is x y e = ap (λ (z : Scheduled). z.time) e

kind_is : (c d : Cause) → c ≡ d → kind c ≡ kind d
kind_is c d e = ap kind e

same_node : (c : Cause) (w : World) (i k : ℕ) → event.Expire i ≡ event.Expire k → i ≡ k
same_node c w i k e = ap (event_node w) e

-- an end stands in an interval's entries only as that interval's
pub end-in : (i k t : ℕ) (timer : Timer) → Among (at t (event.Expire i)) (of_interval k timer) → (i ≡ k) × (t ≡ timer.running.begin + timer.running.length)
end-in i k t timer (inl e) = absurd (apart 2 3 refl (kind_is (event.Fire k) (event.Expire i) (cause_is _ _ e)))
end-in i k t timer (inr (inl e)) = (node_is (cause_is _ _ e), sym (time_is _ _ e)) where
  expires : Cause → ℕ
  expires (event.Planned line) = 0
  expires (event.Period node h) = 0
  expires (event.Fire node) = 0
  expires (event.Expire node) = node
  expires (event.Pump node) = 0
  expires (event.Due node c inv value) = 0
  expires (event.Deliver link number packet) = 0

  node_is : event.Expire k ≡ event.Expire i → i ≡ k
  node_is same = sym (ap expires same)
end-in i k t timer (inr (inr h)) = absurd h

-- ---- what is scheduled lies ahead, and only a new interval schedules its point and end

-- what the timer of the event's node is when an interval begins
begun-timer : (w : World) (s : WorldState) (m : Moment) (l : ℕ) → begun_length (node_at w s m) (effect_at w s m) ≡ Some l
    → (node_after w (node_at w s m) m).timer ≡ begun_timer (node_at w s m).timer.set (node_at w s m).timer.words l m.time
begun-timer w s m l is = timer_begun (node_at w s m) (effect_at w s m) m.time l is

-- the point of an interval isn't before its beginning
point-ahead : (t : Timer) (set : TrickleSet) (words : _) (l time : ℕ) → t ≡ begun_timer set words l time → time ≤ t.running.point
point-ahead t set words l time is = subst (λ (u : Timer). time ≤ u.running.point) (sym is) (omega arith)

end-ahead : (t : Timer) (set : TrickleSet) (words : _) (l time : ℕ) → t ≡ begun_timer set words l time → time ≤ t.running.begin + t.running.length
end-ahead t set words l time is = subst (λ (u : Timer). time ≤ u.running.begin + u.running.length) (sym is) (omega arith)

in_interval-ahead : (i : ℕ) (x : Scheduled) (t : Timer) (time : ℕ) → time ≤ t.running.point → time ≤ t.running.begin + t.running.length → Among x (of_interval i t) → time ≤ x.time
in_interval-ahead i x t time first second (inl e) = omega (arith, time_is _ _ e)
in_interval-ahead i x t time first second (inr (inl e)) = omega (arith, time_is _ _ e)
in_interval-ahead i x t time first second (inr (inr h)) = absurd h

pub source-ahead : (w : World) (s : WorldState) (m : Moment) (x : Scheduled) → Source w s m x → m.time ≤ x.time
source-ahead w s m x (period k later) = later
source-ahead w s m x (interval l is h) =
    in_interval-ahead (event_node w m.cause) x (node_after w (node_at w s m) m).timer m.time
    (point-ahead _ _ _ l m.time (begun-timer w s m l is)) (end-ahead _ _ _ l m.time (begun-timer w s m l is)) h
source-ahead w s m x (delivery sending j a b kept is) = omega (arith, time_is _ _ is)
source-ahead w s m x (pump is) = omega (arith, time_is _ _ is)
source-ahead w s m x (answer k later call) = later

pub past-step : (w : World) (s : WorldState) (m : Moment) → IsNext s m.time m.cause → IsPast (after_moment w s m) m.time
past-step w s m next = record {
  none = λ t before. none_is_empty ((after_moment w s m).due t) (λ c h. elim (due-from w s m t c h) [
    | inl old ↦ none-among c (s.due t) (next.none_before t before) old.0
    | inr new ↦ let ahead : m.time ≤ t = source-ahead w s m (at t c) (source w s m (at t c) new) in absurd (omega arith)
  ]);
}

-- what is due is not before the last event
pub run-past : (w : World) (ms : List Moment) → HaveCome w ms → IsPast (state w ms) (last_time ms)
run-past w [] come = record { none = λ t before. absurd (omega (arith, before)) }
run-past w (m ∷ before) come = past-step w (state w before) m come.1.next

-- what schedules the end of an interval is that one began
expire-source : (w : World) (s : WorldState) (m : Moment) (i t : ℕ) → Source w s m (at t (event.Expire i))
    → (l : ℕ) × (begun_length (node_at w s m) (effect_at w s m) ≡ Some l) × Among (at t (event.Expire i)) (of_interval (event_node w m.cause) (node_after w (node_at w s m) m).timer)
expire-source w s m i t (period k later) = absurd (apart 3 1 refl (k))
expire-source w s m i t (interval l is h) = (l, is, h)
expire-source w s m i t (delivery sending j a b kept is) = absurd (apart 3 6 refl (kind_is _ _ (cause_is _ _ is)))
expire-source w s m i t (pump is) = absurd (apart 3 4 refl (kind_is _ _ (cause_is _ _ is)))
expire-source w s m i t (answer k later call) = absurd (apart 3 5 refl (k))

-- ---- the timer of a node, at each place of a run

-- what is due of it, when the last event was at `last`
pub record IsTimed (w : World) (s : WorldState) (last i : ℕ) : Type 0 where
  pub set : (s.nodes i).timer.set ≡ w.description.trickle
  pub low : w.description.trickle.imin ≤ (s.nodes i).timer.running.length
  pub high : (s.nodes i).timer.running.length ≤ longest w.description.trickle
  pub begun_before : (s.nodes i).timer.running.begin ≤ last
  pub half : (s.nodes i).timer.running.begin + (s.nodes i).timer.running.length / 2 ≤ (s.nodes i).timer.running.point
  pub before_end : (s.nodes i).timer.running.point < (s.nodes i).timer.running.begin + (s.nodes i).timer.running.length
  pub end_due : Among (event.Expire i) (s.due ((s.nodes i).timer.running.begin + (s.nodes i).timer.running.length))
  pub only_end : (t : ℕ) → Among (event.Expire i) (s.due t) → t ≡ (s.nodes i).timer.running.begin + (s.nodes i).timer.running.length
  pub armed : Among (event.Fire i) (s.due (s.nodes i).timer.running.point) ⊎ ((s.nodes i).timer.running.point ≤ last)

-- the end of an interval begins another one
expire-begins : (w : World) (n : Node) (c : Cause) (k : ℕ) → c ≡ event.Expire k → begun_length n (node_effect w n c) ≡ None → ⊥
expire-begins w n c k is none =
    let P : Cause → Type 0 = λ d. begun_length n (node_effect w n d) ≡ None in
    let clash : Some (min (2 * n.timer.running.length) (longest n.timer.set)) ≡ None = subst P is none in cc

-- no interval of the node begins: what was due of it is due
timed-same : (w : World) (s : WorldState) (m : Moment) (last i : ℕ) → MayCome w s m → last ≤ m.time → IsTimed w s last i
    → IsSameInterval (s.nodes i).timer ((after_moment w s m).nodes i).timer → Outlasts w s m (event.Fire i) → Outlasts w s m (event.Expire i) → (m.cause ≡ event.Expire i → ⊥)
    → ((t : ℕ) → Among (at t (event.Expire i)) (schedules w s m) → ⊥) → IsTimed w (after_moment w s m) m.time i
timed-same w s m last i may later timed same fire_stays end_stays no_end none_new = record {
  set = same.set ∙ timed.set;
  low = omega (arith, same.length, timed.low);
  high = omega (arith, same.length, timed.high);
  begun_before = omega (arith, same.begin, timed.begun_before);
  half = subst (λ (l : ℕ). T.running.begin + l / 2 ≤ T.running.point) (sym same.length) (omega (arith, same.begin, same.point, timed.half));
  before_end = omega (arith, same.begin, same.length, same.point, timed.before_end);
  end_due = elim (due-keeps w s m End (event.Expire i) may.next end_stays timed.end_due) [
    | inl now ↦ absurd (no_end now.1)
    | inr still ↦ subst (λ (t : ℕ). Among (event.Expire i) ((after_moment w s m).due t)) same_end still
  ];
  only_end = λ t h. elim (due-from w s m t (event.Expire i) h) [ inl old ↦ timed.only_end t old.0 ∙ same_end | inr new ↦ absurd (none_new t new) ];
  armed = elim timed.armed [
    | inl waits ↦ elim (due-keeps w s m (s.nodes i).timer.running.point (event.Fire i) may.next fire_stays waits) [
      | inl now ↦ inr (omega (arith, now.0, same.point))
      | inr still ↦ inl (subst (λ (t : ℕ). Among (event.Fire i) ((after_moment w s m).due t)) (sym same.point) still)
    ]
    | inr over ↦ inr (omega (arith, over, same.point, later))
  ];
} where
  T : Timer
  T = ((after_moment w s m).nodes i).timer

  End : ℕ
  End = (s.nodes i).timer.running.begin + (s.nodes i).timer.running.length

  same_end : End ≡ T.running.begin + T.running.length
  same_end = omega (arith, same.begin, same.length)

-- the length of an interval that begins
begun-length : (w : World) (n : Node) (e : NodeEffect) (l : ℕ) → IsRightSet w.description.trickle → n.timer.set ≡ w.description.trickle → w.description.trickle.imin ≤ n.timer.running.length
    → begun_length n e ≡ Some l → (w.description.trickle.imin ≤ l) × (l ≤ longest w.description.trickle)
begun-length w n e l right set low is = by (why_begun n e l is) where
  imin_is : n.timer.set.imin ≡ w.description.trickle.imin
  imin_is = ap (λ (t : TrickleSet). t.imin) set

  longest_is : longest n.timer.set ≡ longest w.description.trickle
  longest_is = ap longest set

  by : Begins n e l → (w.description.trickle.imin ≤ l) × (l ≤ longest w.description.trickle)
  by (shortened over short) = (omega (arith, short, imin_is), omega (arith, short, imin_is, right.most))
  by (again its short) = (omega (arith, short, imin_is), omega (arith, short, imin_is, right.most))
  by (expired its long) = let value : l ≡ min (2 * n.timer.running.length) (longest w.description.trickle) = long ∙ ap (λ (x : ℕ). min (2 * n.timer.running.length) x) longest_is in
      (omega (arith, value, low, right.most), omega (arith, value))

-- an interval of the node begins: its point and its end are due
timed-new : (w : World) (s : WorldState) (m : Moment) (last l : ℕ) → IsRightSet w.description.trickle → MayCome w s m → IsTimed w s last (event_node w m.cause)
    → begun_length (node_at w s m) (effect_at w s m) ≡ Some l → IsTimed w (after_moment w s m) m.time (event_node w m.cause)
timed-new w s m last l right may timed is = record {
  set = ap (λ (t : Timer). t.set) timer_is ∙ timed.set;
  low = omega (arith, length_is, bounds.0);
  high = omega (arith, length_is, bounds.1);
  begun_before = omega (arith, begin_is);
  half = subst (λ (t : Timer). t.running.begin + t.running.length / 2 ≤ t.running.point) (sym timer_is) inside.0;
  before_end = subst (λ (t : Timer). t.running.point < t.running.begin + t.running.length) (sym timer_is) inside.1;
  end_due = subst (λ (t : Timer). Among (event.Expire N) ((after_moment w s m).due (t.running.begin + t.running.length))) (sym here_is)
      (due-new w s m _ (event.Expire N) (begun-scheduled w s m l _ is (end-of N (node_after w (node_at w s m) m).timer)));
  only_end = λ t h. subst (λ (u : Timer). t ≡ u.running.begin + u.running.length) (sym here_is) (only t h);
  armed = inl (subst (λ (t : Timer). Among (event.Fire N) ((after_moment w s m).due t.running.point)) (sym here_is)
      (due-new w s m _ (event.Fire N) (begun-scheduled w s m l _ is (point-of N (node_after w (node_at w s m) m).timer))));
} where
  N : ℕ
  N = event_node w m.cause

  old : Timer
  old = (node_at w s m).timer

  here_is : ((after_moment w s m).nodes N).timer ≡ (node_after w (node_at w s m) m).timer
  here_is = ap (λ (n : Node). n.timer) (nodes-here w s m)

  timer_is : ((after_moment w s m).nodes N).timer ≡ begun_timer old.set old.words l m.time
  timer_is = here_is ∙ begun-timer w s m l is

  length_is : ((after_moment w s m).nodes N).timer.running.length ≡ l
  length_is = ap (λ (t : Timer). t.running.length) timer_is

  begin_is : ((after_moment w s m).nodes N).timer.running.begin ≡ m.time
  begin_is = ap (λ (t : Timer). t.running.begin) timer_is

  bounds : (w.description.trickle.imin ≤ l) × (l ≤ longest w.description.trickle)
  bounds = begun-length w (node_at w s m) (effect_at w s m) l right timed.set timed.low is

  two : 2 ≤ l
  two = omega (arith, bounds.0, right.low)

  inside : (m.time + l / 2 ≤ (begun_timer old.set old.words l m.time).running.point) × ((begun_timer old.set old.words l m.time).running.point < m.time + l)
  inside = interval_bounds l m.time (pcg32 old.words).0 two

  only : (t : ℕ) → Among (event.Expire N) ((after_moment w s m).due t) → t ≡ (node_after w (node_at w s m) m).timer.running.begin + (node_after w (node_at w s m) m).timer.running.length
  only t h = elim (due-from w s m t (event.Expire N) h) [
    | inl stays ↦ absurd (cancelled stays.1)
    | inr new ↦ let from = expire-source w s m N t (source w s m (at t (event.Expire N)) new) in (end-in N N t (node_after w (node_at w s m) m).timer from.2).1
  ] where
    cancelled : Outlasts w s m (event.Expire N) → ⊥
    cancelled kept = elim (eqb_tells N N) [
      | inl same ↦ let clash : not (is_some_length (begun_length (node_at w s m) (effect_at w s m)) && (N == N)) ≡ true = kept in let no : false ≡ true = sym (rw (is, same.0) refl) ∙ clash in cc
      | inr other ↦ other.1 refl
    ]

-- the events of another node leave the timer as it is
outlasts-other : (w : World) (s : WorldState) (m : Moment) (i : ℕ) → i ≢ event_node w m.cause → Outlasts w s m (event.Fire i) × Outlasts w s m (event.Expire i)
outlasts-other w s m i other = elim (eqb_tells i (event_node w m.cause)) [
  | inl same ↦ absurd (other same.1)
  | inr apart ↦ by (is_some_length (begun_length (node_at w s m) (effect_at w s m))) refl apart.0
] where
  by : (b : Bool) → is_some_length (begun_length (node_at w s m) (effect_at w s m)) ≡ b → (i == event_node w m.cause) ≡ false → Outlasts w s m (event.Fire i) × Outlasts w s m (event.Expire i)
  by true is apart = (rw (is, apart) refl, rw (is, apart) refl)
  by false is apart = (rw is refl, rw is refl)

timed-other : (w : World) (s : WorldState) (m : Moment) (last i : ℕ) → MayCome w s m → last ≤ m.time → IsTimed w s last i → i ≢ event_node w m.cause → IsTimed w (after_moment w s m) m.time i
timed-other w s m last i may later timed other =
    timed-same w s m last i may later timed same (outlasts-other w s m i other).0 (outlasts-other w s m i other).1 (λ is. other (sym (ap (event_node w) is)))
    (λ t h. let from = expire-source w s m i t (source w s m (at t (event.Expire i)) h) in other (end-in i (event_node w m.cause) t (node_after w (node_at w s m) m).timer from.2).0) where
      same : IsSameInterval (s.nodes i).timer ((after_moment w s m).nodes i).timer
      same = subst (λ (n : Node). IsSameInterval (s.nodes i).timer n.timer) (sym (nodes-other w s m i other)) (record { set = refl; begin = refl; length = refl; point = refl })

timed-kept : (w : World) (s : WorldState) (m : Moment) (last : ℕ) → MayCome w s m → last ≤ m.time → IsTimed w s last (event_node w m.cause)
    → begun_length (node_at w s m) (effect_at w s m) ≡ None → IsTimed w (after_moment w s m) m.time (event_node w m.cause)
timed-kept w s m last may later timed none =
    timed-same w s m last (event_node w m.cause) may later timed same (rw none refl) (rw none refl) (λ is. expire-begins w (node_at w s m) m.cause (event_node w m.cause) is none)
    (λ t h. let from = expire-source w s m (event_node w m.cause) t (source w s m (at t (event.Expire (event_node w m.cause))) h) in let clash : None ≡ Some from.0 = sym none ∙ from.1 in cc) where
      same : IsSameInterval (s.nodes (event_node w m.cause)).timer ((after_moment w s m).nodes (event_node w m.cause)).timer
      same = subst (λ (n : Node). IsSameInterval (s.nodes (event_node w m.cause)).timer n.timer) (sym (nodes-here w s m)) (timer_kept (node_at w s m) (effect_at w s m) m.time none)

pub timed-step : (w : World) (s : WorldState) (m : Moment) (last i : ℕ) → IsRightSet w.description.trickle → MayCome w s m → last ≤ m.time → IsTimed w s last i → IsTimed w (after_moment w s m) m.time i
timed-step w s m last i right may later timed = elim (eqb_tells i (event_node w m.cause)) [
  | inl same ↦ subst (λ (k : ℕ). IsTimed w (after_moment w s m) m.time k) (sym same.1) (here (subst (λ (k : ℕ). IsTimed w s last k) same.1 timed) (begun_length (node_at w s m) (effect_at w s m)) refl)
  | inr other ↦ timed-other w s m last i may later timed other.1
] where
  here : IsTimed w s last (event_node w m.cause) → (o : Option ℕ) → begun_length (node_at w s m) (effect_at w s m) ≡ o → IsTimed w (after_moment w s m) m.time (event_node w m.cause)
  here its None is = timed-kept w s m last may later its is
  here its (Some l) is = timed-new w s m last l right may its is

-- ---- a point comes in time

-- Either the point of the running interval is due in time, or its end is, and the point of the interval after it comes in
-- time. Where the interval may be cut short by one of the shortest length, that one's point comes in time too.
pub data OnTime (w : World) (s : WorldState) (i by : ℕ) : Type 0 where
  pointed : Among (event.Fire i) (s.due (s.nodes i).timer.running.point) → (s.nodes i).timer.running.point ≤ by
      → (w.description.trickle.imin < (s.nodes i).timer.running.length → (s.nodes i).timer.running.point + w.description.trickle.imin ≤ by) → OnTime w s i by
  ending : (next : ℕ) → next ≡ min (2 * (s.nodes i).timer.running.length) (longest w.description.trickle)
      → (s.nodes i).timer.running.begin + (s.nodes i).timer.running.length + next ≤ by
      → (w.description.trickle.imin < next → (s.nodes i).timer.running.begin + (s.nodes i).timer.running.length + next + w.description.trickle.imin ≤ by) → OnTime w s i by

-- the event is a point of the node
abbrev pub IsPoint : Moment → ℕ → ℕ → Type 0
IsPoint m i by = (m.cause ≡ event.Fire i) × (m.time ≤ by)

ontime-same : (w : World) (s : WorldState) (m : Moment) (i by : ℕ) → MayCome w s m → IsSameInterval (s.nodes i).timer ((after_moment w s m).nodes i).timer
    → Outlasts w s m (event.Fire i) → OnTime w s i by → IsPoint m i by ⊎ OnTime w (after_moment w s m) i by
ontime-same w s m i by may same stays (pointed waits before short) = elim (due-keeps w s m (s.nodes i).timer.running.point (event.Fire i) may.next stays waits) [
  | inl now ↦ inl (now.1, omega (arith, now.0, before))
  | inr still ↦ inr (pointed
      (subst (λ (t : ℕ). Among (event.Fire i) ((after_moment w s m).due t)) (sym same.point) still)
      (omega (arith, same.point, before))
      (λ over. let was : (s.nodes i).timer.running.point + w.description.trickle.imin ≤ by = short (omega (arith, same.length, over)) in omega (arith, same.point)))
]
ontime-same w s m i by may same stays (ending next is whole short) = inr (ending next
    (is ∙ ap (λ (l : ℕ). min (2 * l) (longest w.description.trickle)) (sym same.length))
    (omega (arith, same.begin, same.length, whole))
    (λ over. let was : (s.nodes i).timer.running.begin + (s.nodes i).timer.running.length + next + w.description.trickle.imin ≤ by = short over in omega (arith, same.begin, same.length)))

-- a new interval whose point comes in time
ontime-new : (w : World) (s : WorldState) (m : Moment) (l by : ℕ) → begun_length (node_at w s m) (effect_at w s m) ≡ Some l → 2 ≤ l
    → m.time + l ≤ by → (w.description.trickle.imin < l → m.time + l + w.description.trickle.imin ≤ by) → OnTime w (after_moment w s m) (event_node w m.cause) by
ontime-new w s m l by is two whole short = pointed waits (omega (arith, below, whole)) (λ over. let more : m.time + l + w.description.trickle.imin ≤ by = short (omega (arith, length_is, over)) in omega (arith, below)) where
  N : ℕ
  N = event_node w m.cause

  here_is : ((after_moment w s m).nodes N).timer ≡ (node_after w (node_at w s m) m).timer
  here_is = ap (λ (n : Node). n.timer) (nodes-here w s m)

  timer_is : ((after_moment w s m).nodes N).timer ≡ begun_timer (node_at w s m).timer.set (node_at w s m).timer.words l m.time
  timer_is = here_is ∙ begun-timer w s m l is

  length_is : ((after_moment w s m).nodes N).timer.running.length ≡ l
  length_is = ap (λ (t : Timer). t.running.length) timer_is

  below : ((after_moment w s m).nodes N).timer.running.point < m.time + l
  below = subst (λ (t : Timer). t.running.point < m.time + l) (sym timer_is) (interval_bounds l m.time (pcg32 (node_at w s m).timer.words).0 two).1

  waits : Among (event.Fire N) ((after_moment w s m).due ((after_moment w s m).nodes N).timer.running.point)
  waits = subst (λ (t : Timer). Among (event.Fire N) ((after_moment w s m).due t.running.point)) (sym here_is)
      (due-new w s m _ (event.Fire N) (begun-scheduled w s m l _ is (point-of N (node_after w (node_at w s m) m).timer)))

-- the end of the running interval comes at its time
end-time : (w : World) (s : WorldState) (m : Moment) (last : ℕ) → MayCome w s m → IsTimed w s last (event_node w m.cause) → (k : ℕ) → m.cause ≡ event.Expire k
    → m.time ≡ (node_at w s m).timer.running.begin + (node_at w s m).timer.running.length
end-time w s m last may timed k is = timed.only_end m.time (subst (λ (c : Cause). Among c (s.due m.time)) (is ∙ ap event.Expire (sym (ap (event_node w) is))) (among-next s m.time m.cause may.next))

ontime-begun : (w : World) (s : WorldState) (m : Moment) (last l by : ℕ) → IsRightSet w.description.trickle → MayCome w s m → IsTimed w s last (event_node w m.cause)
    → resets (effect_at w s m).deed ≡ false → begun_length (node_at w s m) (effect_at w s m) ≡ Some l → OnTime w s (event_node w m.cause) by
    → OnTime w (after_moment w s m) (event_node w m.cause) by
ontime-begun w s m last l by right may timed no_reset is on = why (why_begun (node_at w s m) (effect_at w s m) l is) on where
  N : ℕ
  N = event_node w m.cause

  imin : ℕ
  imin = w.description.trickle.imin

  timer : Timer
  timer = (node_at w s m).timer

  End : ℕ
  End = timer.running.begin + timer.running.length

  imin_is : timer.set.imin ≡ w.description.trickle.imin
  imin_is = ap (λ (t : TrickleSet). t.imin) timed.set

  bounds : (w.description.trickle.imin ≤ l) × (l ≤ longest w.description.trickle)
  bounds = begun-length w (node_at w s m) (effect_at w s m) l right timed.set timed.low is

  two : 2 ≤ l
  two = omega (arith, bounds.0, right.low)

  before_end : m.time ≤ (node_at w s m).timer.running.begin + (node_at w s m).timer.running.length
  before_end = next-before s m.time _ m.cause (event.Expire N) may.next timed.end_due

  why : Begins (node_at w s m) (effect_at w s m) l → OnTime w s (event_node w m.cause) by → OnTime w (after_moment w s m) (event_node w m.cause) by
  why (shortened over short) (pointed waits before longer) =
      let now : m.time ≤ (node_at w s m).timer.running.point = next-before s m.time _ m.cause (event.Fire N) may.next waits in
      let room : (node_at w s m).timer.running.point + w.description.trickle.imin ≤ by = longer (omega (arith, over, imin_is)) in
      ontime-new w s m l by is two (omega (arith, now, room, short, imin_is)) (λ not_short. absurd (omega (arith, not_short, short, imin_is)))
  why (shortened over short) (ending next next_is whole longer) =
      let least : w.description.trickle.imin ≤ next = omega (arith, next_is, timed.low, right.most) in
      ontime-new w s m l by is two (omega (arith, before_end, whole, least, short, imin_is)) (λ not_short. absurd (omega (arith, not_short, short, imin_is)))
  why (again its short) on = let clash : true ≡ false = sym ((few w (node_at w s m) m.cause).1 its) ∙ no_reset in cc
  why (expired its long) (pointed waits before longer) =
      let ends = (few w (node_at w s m) m.cause).0 its in
      let now : m.time ≡ (node_at w s m).timer.running.begin + (node_at w s m).timer.running.length = end-time w s m last may timed ends.0 ends.1 in
      let early : m.time ≤ (node_at w s m).timer.running.point = next-before s m.time _ m.cause (event.Fire N) may.next waits in
      absurd (omega (arith, now, early, timed.before_end))
  why (expired its long) (ending next next_is whole longer) =
      let ends = (few w (node_at w s m) m.cause).0 its in
      let now : m.time ≡ (node_at w s m).timer.running.begin + (node_at w s m).timer.running.length = end-time w s m last may timed ends.0 ends.1 in
      let same : l ≡ next = long ∙ ap (λ (t : TrickleSet). min (2 * (node_at w s m).timer.running.length) (longest t)) timed.set ∙ sym next_is in
      ontime-new w s m l by is two (omega (arith, now, whole, same)) (λ over. let room : (node_at w s m).timer.running.begin + (node_at w s m).timer.running.length + next + w.description.trickle.imin ≤ by = longer (omega (arith, over, same)) in omega (arith, now, same))

pub ontime-step : (w : World) (s : WorldState) (m : Moment) (last i by : ℕ) → IsRightSet w.description.trickle → MayCome w s m → IsTimed w s last i
    → (event_node w m.cause ≡ i → resets (effect_at w s m).deed ≡ false) → OnTime w s i by → IsPoint m i by ⊎ OnTime w (after_moment w s m) i by
ontime-step w s m last i by right may timed no_reset on = elim (eqb_tells i (event_node w m.cause)) [
  | inl same ↦ subst (λ (k : ℕ). IsPoint m k by ⊎ OnTime w (after_moment w s m) k by) (sym same.1)
      (here (subst (λ (k : ℕ). IsTimed w s last k) same.1 timed) (no_reset (sym same.1)) (subst (λ (k : ℕ). OnTime w s k by) same.1 on) (begun_length (node_at w s m) (effect_at w s m)) refl)
  | inr other ↦ ontime-same w s m i by may (subst (λ (n : Node). IsSameInterval (s.nodes i).timer n.timer) (sym (nodes-other w s m i other.1)) (record { set = refl; begin = refl; length = refl; point = refl }))
      (outlasts-other w s m i other.1).0 on
] where
  here : IsTimed w s last (event_node w m.cause) → resets (effect_at w s m).deed ≡ false → OnTime w s (event_node w m.cause) by → (o : Option ℕ) → begun_length (node_at w s m) (effect_at w s m) ≡ o
      → IsPoint m (event_node w m.cause) by ⊎ OnTime w (after_moment w s m) (event_node w m.cause) by
  here its none its_on None is = ontime-same w s m (event_node w m.cause) by may
      (subst (λ (n : Node). IsSameInterval (s.nodes (event_node w m.cause)).timer n.timer) (sym (nodes-here w s m)) (timer_kept (node_at w s m) (effect_at w s m) m.time is)) (rw is refl) its_on
  here its none its_on (Some l) is = inr (ontime-begun w s m last l by right may its none is its_on)

-- from any moment on, within twice the longest interval
pub ontime-start : (w : World) (s : WorldState) (last i time : ℕ) → IsRightSet w.description.trickle → IsTimed w s last i → last ≤ time → OnTime w s i (time + 2 * longest w.description.trickle)
ontime-start w s last i time right timed later = elim timed.armed [ inl waits ↦ soon waits | inr over ↦ next_one over ] where
  L : ℕ
  L = longest w.description.trickle

  soon : Among (event.Fire i) (s.due (s.nodes i).timer.running.point) → OnTime w s i (time + 2 * longest w.description.trickle)
  soon waits = pointed waits (omega (arith, timed.before_end, timed.begun_before, timed.high, later)) (λ over. omega (arith, timed.before_end, timed.begun_before, timed.high, later, right.most))

  next_one : (s.nodes i).timer.running.point ≤ last → OnTime w s i (time + 2 * longest w.description.trickle)
  next_one over =
      let half_left : (s.nodes i).timer.running.begin + (s.nodes i).timer.running.length ≤ time + right.half = omega (arith, over, later, timed.half, timed.high, right.even) in
      let short : min (2 * (s.nodes i).timer.running.length) (longest w.description.trickle) ≤ longest w.description.trickle = omega arith in
      ending (min (2 * (s.nodes i).timer.running.length) (longest w.description.trickle)) refl (omega (arith, half_left, short, right.even))
      (λ longer. let twice : 2 * w.description.trickle.imin ≤ longest w.description.trickle = right.twice (omega (arith, longer, short)) in omega (arith, half_left, short, right.even, twice))

-- ---- along a run

-- at the start
pub among-range : (first n i : ℕ) → first ≤ i → i < first + n → Among i (range_with_len first n)
among-range first zero i low high = absurd (omega arith)
among-range first (suc n) i low high = elim (eqb_tells first i) [ inl same ↦ inl same.1 | inr other ↦ inr (among-range (first + 1) n i (omega (arith, other.1)) (omega arith)) ]

pub among-map_of : {X Y : Type 0} (f : X → List Y) (y : Y) (x : X) (xs : List X) → Among x xs → Among y (f x) → Among y (flat_map f xs)
among-map_of f y x [] h g = absurd h
among-map_of f y x (z ∷ xs) (inl e) g = among-left y (f z) (flat_map f xs) (subst (λ (v : _). Among y (f v)) (sym e) g)
among-map_of f y x (z ∷ xs) (inr h) g = among-right y (f z) (flat_map f xs) (among-map_of f y x xs h g)

pub among-filter_map : {X Y : Type 0} (f : X → Option Y) (y : Y) (xs : List X) → Among y (filter_map f xs) → (x : X) × Among x xs × (f x ≡ Some y)
among-filter_map f y [] h = absurd h
among-filter_map {X} {Y} f y (x ∷ xs) h = by (λ a. among-filter_map f y xs a) (f x) refl h where
  by : (Among y (filter_map f xs) → (z : X) × Among z xs × (f z ≡ Some y)) → (o : Option Y) → f x ≡ o → Among y (cons_option o (filter_map f xs)) → (z : X) × Among z (x ∷ xs) × (f z ≡ Some y)
  by rest None is a = let r = rest a in (r.0, inr r.1, r.2)
  by rest (Some z) is (inl e) = (x, inl refl, is ∙ ap (λ (v : Y). Some v) e)
  by rest (Some z) is (inr a) = let r = rest a in (r.0, inr r.1, r.2)

pub line-kind : (x : Scheduled) (n : ℕ) (ls : List PlannedLine) → Among x (lines_from n ls) → kind x.cause ≡ 0
line-kind x n [] h = absurd h
line-kind x n (l ∷ ls) (inl e) = ap (λ (y : Scheduled). kind y.cause) (sym e)
line-kind x n (l ∷ ls) (inr h) = line-kind x (suc n) ls h

-- the first period of a handler
abbrev period_first : World → ℕ → ℕ → Option Scheduled
period_first w i h = option_map_or (λ p. Some (record { time = p; cause = event.Period i (record { 0 = h }) })) (period_of w h) None

pub period-kind : (w : World) (x : Scheduled) (i : ℕ) → Among x (filter_map (period_first w i) (range_with_len 0 (handlers w))) → kind x.cause ≡ 1
period-kind w x i h = let found = among-filter_map (period_first w i) x (range_with_len 0 (handlers w)) h in by found.0 (period_of w found.0) found.2 where
  by : (g : ℕ) (o : Option ℕ) → option_map_or (λ p. Some (record { time = p; cause = event.Period i (record { 0 = g }) })) o None ≡ Some x → kind x.cause ≡ 1
  by g None is = cc
  by g (Some p) is = let same : record { time = p; cause = event.Period i (record { 0 = g }) } ≡ x = cc in ap (λ (y : Scheduled). kind y.cause) (sym same)

pub start-timed : (w : World) (i : ℕ) → IsRightSet w.description.trickle → i < w.nodes → IsTimed w (world_start w) 0 i
start-timed w i right below = record {
  set = refl;
  low = omega arith;
  high = right.most;
  begun_before = omega arith;
  half = inside.0;
  before_end = inside.1;
  end_due = due _ (event.Expire i) (end-of i (start_node w i).timer);
  only_end = only;
  armed = inl (due _ (event.Fire i) (point-of i (start_node w i).timer));
} where
  inside : (0 + w.description.trickle.imin / 2 ≤ (start_node w i).timer.running.point) × ((start_node w i).timer.running.point < 0 + w.description.trickle.imin)
  inside = interval_bounds w.description.trickle.imin 0 _ right.low

  due : (t : ℕ) (c : Cause) → Among (at t c) (of_interval i (start_node w i).timer) → Among c ((world_start w).due t)
  due t c h = among-of_time t c (lines_from 0 w.plan ++ flat_map (first_of w) (range_with_len 0 w.nodes)) (among-right (at t c) (lines_from 0 w.plan) _
      (among-map_of (first_of w) (at t c) i (range_with_len 0 w.nodes) (among-range 0 w.nodes i (omega arith) (omega (arith, below))) (among-left (at t c) (of_interval i (start_node w i).timer) _ h)))

  only : (t : ℕ) → Among (event.Expire i) ((world_start w).due t) → t ≡ (start_node w i).timer.running.begin + (start_node w i).timer.running.length
  only t h = elim (among-append (at t (event.Expire i)) (lines_from 0 w.plan) _ (among-un_of_time t (event.Expire i) _ h)) [
    | inl a ↦ absurd (apart 3 0 refl (line-kind _ 0 w.plan a))
    | inr b ↦ let node = among-flat_map (first_of w) (at t (event.Expire i)) (range_with_len 0 w.nodes) b in
        elim (among-append (at t (event.Expire i)) (of_interval node.0 (start_node w node.0).timer) _ node.2) [
          | inl c ↦ let e = end-in i node.0 t (start_node w node.0).timer c in e.1
          | inr d ↦ absurd (apart 3 1 refl (period-kind w _ node.0 d))
        ]
  ]

pub run-timed : (w : World) (i : ℕ) (ms : List Moment) → IsRightSet w.description.trickle → i < w.nodes → HaveCome w ms → IsTimed w (state w ms) (last_time ms) i × IsPast (state w ms) (last_time ms)
run-timed w i [] right below come = (start-timed w i right below, record { none = λ t before. absurd (omega arith) })
run-timed w i (m ∷ before) right below come =
    let earlier = run-timed w i before right below come.0 in
    let later : last_time before ≤ m.time = last-before (state w before) (last_time before) m.time m.cause earlier.1 come.1.next in
    (timed-step w (state w before) m (last_time before) i right come.1 later earlier.0, past-step w (state w before) m come.1.next)

longer-stands : (m x : Moment) (later : List Moment) → StandsIn later x → StandsIn (m ∷ later) x
longer-stands m x later stands = record { newer = m ∷ stands.newer; older = stands.older; split = ap (λ (ms : List Moment). m ∷ ms) stands.split }

along : (w : World) (i by : ℕ) (before later : List Moment) → IsRightSet w.description.trickle → i < w.nodes → HaveCome w (later ++ before) → NeverResets w i before later
    → OnTime w (state w before) i by → Fires i by later ⊎ OnTime w (state w (later ++ before)) i by
along w i by before [] right below come never on = inr on
along w i by before (m ∷ later) right below come never on = elim (along w i by before later right below come.0 never.0 on) [
  | inl found ↦ inl (record { moment = found.moment; among = longer-stands m found.moment later found.among; cause = found.cause; in_time = found.in_time })
  | inr still ↦ elim (ontime-step w (state w (later ++ before)) m (last_time (later ++ before)) i by right come.1 (run-timed w i (later ++ before) right below come.0).0 never.1 still) [
    | inl now ↦ inl (record { moment = m; among = record { newer = []; older = later; split = refl }; cause = now.0; in_time = now.1 })
    | inr on_time ↦ inr on_time
  ]
]

pub earlier-come : (w : World) (before later : List Moment) → HaveCome w (later ++ before) → HaveCome w before
earlier-come w before later come = each_over-behind _ later before come

pub fires_in_time : (w : World) → IsRightSet w.description.trickle → FiresInTime w
fires_in_time w right i time before later below come last never done =
    elim (along w i (time + 2 * longest w.description.trickle) before later right below come never
    (ontime-start w (state w before) (last_time before) i time right (run-timed w i before right below (earlier-come w before later come)).0 last)) [
      | inl found ↦ found
      | inr still ↦ absurd (over still)
    ] where
      over : OnTime w (state w (later ++ before)) i (time + 2 * longest w.description.trickle) → ⊥
      over (pointed waits in_time short) = none-among (event.Fire i) _ (done _ in_time) waits
      over (ending next is whole short) =
          let timed = (run-timed w i (later ++ before) right below come).0 in
          let T = (state w (later ++ before)).nodes i in
          none-among (event.Expire i) _ (done (T.timer.running.begin + T.timer.running.length) (omega (arith, whole))) timed.end_due
