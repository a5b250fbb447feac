-- Points and ends come at their times.
use Rattle.std.proofs.Common.{◌≡◌, ◌<◌, ◌≤◌, ℕ, ◌+◌, Bool, true, false, not, ◌&&◌, List, [], ◌∷◌, ◌++◌, Option, Some, None, refl, sym, ◌∙◌, ap, subst, arith, inl, inr, ◌⊎◌}
use Rattle.std.specs.Prelude.{◌==◌}
use Rattle.std.specs.List.{flat_map, range_with_len}
use Rattle.std.proofs.lemmas.List.{append-nil}
use Rattle.std.proofs.lemmas.Bool.Decides.{eqb_tells}
use Rattle.trickle_timer.specs.Intervals as trickle
use Rattle.trickle_timer.specs.Timer.{Timer}
use Rattle.world_rules.specs.Cause.{Cause}
use Rattle.world_rules.specs.Cause as event
use Rattle.world_rules.specs.World.{World}
use Rattle.world_rules.specs.Effect.{Node, begun_length, event_node}
use Rattle.world_rules.specs.State.{Moment, WorldState, Scheduled, of_interval, node_at, effect_at, node_after, after_moment, is_some_length, lines_from, first_of, start_node, world_start, state}
use Rattle.world_rules.specs.Run.{HaveCome, IsDone}
use Rattle.world_laws.specs.Causes.{HasEvent, IsCancelled}
use Rattle.mate_num.specs.Lists.{Among}
use Rattle.mate_num.proofs.ListLemmas.{among-left, among-right, among-append, among-flat_map, none-among}
use Rattle.world_laws.proofs.OfTime.{among-of_time, among-un_of_time, apart}
use Rattle.world_laws.proofs.Due.{at, due-from, due-new, kind, Source, period, interval, delivery, pump, answer, source, begun-scheduled}
use Rattle.world_laws.proofs.Timers.{IsSameInterval, timer_kept}
use Rattle.world_laws.proofs.Points.{among-next, nodes-here, nodes-other, point-of, end-of, end-in, among-range, among-map_of, line-kind, period-kind}
use Rattle.world_laws.proofs.Comes.{come-along}
use Rattle.world_laws.specs.TimerRecords.{PointsAreTimely, EndsAreTimely, RunsItsCourse, IntervalsRun, FirstIntervalsRun}

-- a point stands in an interval's entries only as that interval's
point-in : (i k t : ℕ) (timer : Timer) → Among (at t (event.Fire i)) (of_interval k timer) → (i ≡ k) × (t ≡ timer.running.point)
point-in i k t timer (inl e) = (node_is (ap (λ (x : Scheduled). x.cause) e), sym (ap (λ (x : Scheduled). x.time) e)) where
  fires : Cause → ℕ
  fires (event.Planned line) = 0
  fires (event.Period node h) = 0
  fires (event.Fire node) = node
  fires (event.Expire node) = 0
  fires (event.Pump node) = 0
  fires (event.Due node c inv value) = 0
  fires (event.Deliver link number packet) = 0

  node_is : event.Fire k ≡ event.Fire i → i ≡ k
  node_is same = sym (ap fires same)
point-in i k t timer (inr (inl e)) = absurd (apart 3 2 refl (ap (λ (x : Scheduled). kind x.cause) e))
point-in i k t timer (inr (inr h)) = absurd h

-- ---- what is due of a timer is its running interval's

record IsDueOf (s : WorldState) (k : ℕ) : Type 0 where
  points : (t : ℕ) → Among (event.Fire k) (s.due t) → t ≡ (s.nodes k).timer.running.point
  ends : (t : ℕ) → Among (event.Expire k) (s.due t) → t ≡ (s.nodes k).timer.running.begin + (s.nodes k).timer.running.length

point-new : (w : World) (s : WorldState) (m : Moment) (k t : ℕ) → Source w s m (at t (event.Fire k)) → (k ≡ event_node w m.cause) × (t ≡ (node_after w (node_at w s m) m).timer.running.point)
point-new w s m k t (period is later) = absurd (apart 2 1 refl is)
point-new w s m k t (interval l is a) = point-in k (event_node w m.cause) t (node_after w (node_at w s m) m).timer a
point-new w s m k t (delivery sending j a b kept is) = absurd (apart 2 6 refl (ap (λ (x : Scheduled). kind x.cause) is))
point-new w s m k t (pump is) = absurd (apart 2 4 refl (ap (λ (x : Scheduled). kind x.cause) is))
point-new w s m k t (answer is later call) = absurd (apart 2 5 refl is)

end-new : (w : World) (s : WorldState) (m : Moment) (k t : ℕ) → Source w s m (at t (event.Expire k))
    → (k ≡ event_node w m.cause) × (t ≡ (node_after w (node_at w s m) m).timer.running.begin + (node_after w (node_at w s m) m).timer.running.length)
end-new w s m k t (period is later) = absurd (apart 3 1 refl is)
end-new w s m k t (interval l is a) = end-in k (event_node w m.cause) t (node_after w (node_at w s m) m).timer a
end-new w s m k t (delivery sending j a b kept is) = absurd (apart 3 6 refl (ap (λ (x : Scheduled). kind x.cause) is))
end-new w s m k t (pump is) = absurd (apart 3 4 refl (ap (λ (x : Scheduled). kind x.cause) is))
end-new w s m k t (answer is later call) = absurd (apart 3 5 refl is)

-- where the point or the end of the event's node outlasts the event, no interval of the node begins
goes-on : (w : World) (s : WorldState) (m : Moment) (k : ℕ) → k ≡ event_node w m.cause → not (is_some_length (begun_length (node_at w s m) (effect_at w s m)) && k == event_node w m.cause) ≡ true
    → IsSameInterval (node_at w s m).timer (node_after w (node_at w s m) m).timer
goes-on w s m k same outlasts = timer_kept (node_at w s m) (effect_at w s m) m.time (by (begun_length (node_at w s m) (effect_at w s m)) refl) where
  here : (k == event_node w m.cause) ≡ true
  here = elim (eqb_tells k (event_node w m.cause)) [ inl is ↦ is.0 | inr other ↦ absurd (other.1 same) ]

  by : (o : Option ℕ) → begun_length (node_at w s m) (effect_at w s m) ≡ o → begun_length (node_at w s m) (effect_at w s m) ≡ None
  by None is = is
  by (Some l) is =
      let clash : false ≡ true = sym (ap (λ (b : Bool). not (true && b)) here) ∙ ap (λ (o : Option ℕ). not (is_some_length o && k == event_node w m.cause)) (sym is) ∙ outlasts in
      cc

same-interval : (w : World) (s : WorldState) (m : Moment) (k : ℕ) → not (is_some_length (begun_length (node_at w s m) (effect_at w s m)) && k == event_node w m.cause) ≡ true → IsSameInterval (s.nodes k).timer ((after_moment w s m).nodes k).timer
same-interval w s m k outlasts = elim (eqb_tells k (event_node w m.cause)) [
  | inl same ↦ subst (λ (j : ℕ). IsSameInterval (s.nodes j).timer ((after_moment w s m).nodes j).timer) (sym same.1)
      (subst (λ (n : Node). IsSameInterval (node_at w s m).timer n.timer) (sym (nodes-here w s m)) (goes-on w s m k same.1 outlasts))
  | inr other ↦ subst (λ (n : Node). IsSameInterval (s.nodes k).timer n.timer) (sym (nodes-other w s m k other.1)) (record { set = refl; begin = refl; length = refl; point = refl })
]

due-of-step : (w : World) (s : WorldState) (m : Moment) (k : ℕ) → IsDueOf s k → IsDueOf (after_moment w s m) k
due-of-step w s m k old = record {
  points = λ t a. elim (due-from w s m t (event.Fire k) a) [
    | inl was ↦ old.points t was.0 ∙ sym (same-interval w s m k was.1).point
    | inr new ↦ (let found = point-new w s m k t (source w s m (at t (event.Fire k)) new) in
        found.1 ∙ ap (λ (n : Node). n.timer.running.point) (sym (nodes-here w s m)) ∙ ap (λ (j : ℕ). ((after_moment w s m).nodes j).timer.running.point) (sym found.0))
  ];
  ends = λ t a. elim (due-from w s m t (event.Expire k) a) [
    | inl was ↦ old.ends t was.0 ∙ sums (same-interval w s m k was.1)
    | inr new ↦ (let found = end-new w s m k t (source w s m (at t (event.Expire k)) new) in
        found.1 ∙ ap (λ (n : Node). n.timer.running.begin + n.timer.running.length) (sym (nodes-here w s m)) ∙ ap (λ (j : ℕ). ((after_moment w s m).nodes j).timer.running.begin + ((after_moment w s m).nodes j).timer.running.length) (sym found.0))
  ];
} where
  sums : IsSameInterval (s.nodes k).timer ((after_moment w s m).nodes k).timer → (s.nodes k).timer.running.begin + (s.nodes k).timer.running.length ≡ ((after_moment w s m).nodes k).timer.running.begin + ((after_moment w s m).nodes k).timer.running.length
  sums same = omega (arith, same.begin, same.length)

-- what is scheduled at the start for a node's point or end
start-of : (w : World) (t : ℕ) (c : Cause) → (kind c ≤ 1 → ⊥) → Among c ((world_start w).due t) → (j : ℕ) × Among (at t c) (of_interval j (start_node w j).timer)
start-of w t c later a = elim (among-append (at t c) (lines_from 0 w.plan) _ (among-un_of_time t c _ a)) [
  | inl line ↦ absurd (later (let k : kind c ≡ 0 = line-kind (at t c) 0 w.plan line in omega (arith, k)))
  | inr b ↦ let node = among-flat_map (first_of w) (at t c) (range_with_len 0 w.nodes) b in
      elim (among-append (at t c) (of_interval node.0 (start_node w node.0).timer) _ node.2) [
        | inl i ↦ (node.0, i)
        | inr p ↦ absurd (later (let k : kind c ≡ 1 = period-kind w (at t c) node.0 p in omega (arith, k)))
      ]
]

due-of-start : (w : World) (k : ℕ) → IsDueOf (world_start w) k
due-of-start w k = record {
  points = λ t a. let found = start-of w t (event.Fire k) (λ low. omega (arith, low)) a in
      let own = point-in k found.0 t (start_node w found.0).timer found.1 in
      own.1 ∙ ap (λ (j : ℕ). (start_node w j).timer.running.point) (sym own.0);
  ends = λ t a. let found = start-of w t (event.Expire k) (λ low. omega (arith, low)) a in
      let own = end-in k found.0 t (start_node w found.0).timer found.1 in
      own.1 ∙ ap (λ (j : ℕ). (start_node w j).timer.running.begin + (start_node w j).timer.running.length) (sym own.0);
}

due-of : (w : World) (ms : List Moment) (k : ℕ) → IsDueOf (state w ms) k
due-of w [] k = due-of-start w k
due-of w (m ∷ before) k = due-of-step w (state w before) m k (due-of w before k)

pub points_are_timely : (w : World) → PointsAreTimely w
points_are_timely w before m k come is =
    (due-of w before k).points m.time (subst (λ (c : Cause). Among c ((state w before).due m.time)) is (among-next (state w before) m.time m.cause come.1.next))

pub ends_are_timely : (w : World) → EndsAreTimely w
ends_are_timely w before m k come is =
    (due-of w before k).ends m.time (subst (λ (c : Cause). Among c ((state w before).due m.time)) is (among-next (state w before) m.time m.cause come.1.next))

-- ---- an interval runs its course

due-comes : (w : World) (before later : List Moment) (t : ℕ) (c : Cause) → HaveCome w (later ++ before) → Among c ((state w before).due t) → IsDone (state w (later ++ before)) t → HasEvent later t c ⊎ IsCancelled w before later c
due-comes w before later t c come waits done = elim (come-along w before later t c come waits) [
  | inl found ↦ found
  | inr still ↦ absurd (none-among c ((state w (later ++ before)).due t) (done t (omega arith)) still)
]

runs : (w : World) (before later : List Moment) (k : ℕ) (i : trickle.Interval) → HaveCome w (later ++ before) → Among (event.Fire k) ((state w before).due i.point) → Among (event.Expire k) ((state w before).due (i.begin + i.length)) → RunsItsCourse w before later k i
runs w before later k i come point ends = record {
  point = λ done. due-comes w before later i.point (event.Fire k) come point done;
  ends = λ done. due-comes w before later (i.begin + i.length) (event.Expire k) come ends done;
}

pub intervals_run : (w : World) → IntervalsRun w
intervals_run w before later m l come is =
    subst (λ (n : Node). RunsItsCourse w (m ∷ before) later (event_node w m.cause) n.timer.running) (sym (nodes-here w (state w before) m))
    (runs w (m ∷ before) later (event_node w m.cause) timer.running come
    (due-new w (state w before) m timer.running.point (event.Fire (event_node w m.cause)) (begun-scheduled w (state w before) m l _ is (point-of (event_node w m.cause) timer)))
    (due-new w (state w before) m (timer.running.begin + timer.running.length) (event.Expire (event_node w m.cause)) (begun-scheduled w (state w before) m l _ is (end-of (event_node w m.cause) timer)))) where
      timer : Timer
      timer = (node_after w (node_at w (state w before) m) m).timer

start-due : (w : World) (k : ℕ) (x : Scheduled) → k < w.nodes → Among x (of_interval k (start_node w k).timer) → Among x.cause ((world_start w).due x.time)
start-due w k x below a =
    among-of_time x.time x.cause (lines_from 0 w.plan ++ flat_map (first_of w) (range_with_len 0 w.nodes))
    (among-right x (lines_from 0 w.plan) (flat_map (first_of w) (range_with_len 0 w.nodes))
    (among-map_of (first_of w) x k (range_with_len 0 w.nodes) (among-range 0 w.nodes k (omega arith) (omega (arith, below))) (among-left x (of_interval k (start_node w k).timer) _ a)))

pub first_intervals_run : (w : World) → FirstIntervalsRun w
first_intervals_run w ms k below come =
    let timer : Timer = (start_node w k).timer in
    runs w [] ms k timer.running (subst (λ (xs : List Moment). HaveCome w xs) (sym (append-nil ms)) come)
    (start-due w k (at timer.running.point (event.Fire k)) below (point-of k timer))
    (start-due w k (at (timer.running.begin + timer.running.length) (event.Expire k)) below (end-of k timer))
