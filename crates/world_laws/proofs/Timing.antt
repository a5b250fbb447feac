-- A node's timer stands for all that happened to it.
use Rattle.std.proofs.Common.{◌≡◌, ◌≢◌, ℕ, List, [], ◌∷◌, ◌++◌, Option, Some, None, refl, sym, ap, subst, inl, inr}
use Rattle.std.specs.Prelude.{IsTrue}
use Rattle.std.specs.Option.{option_map_or}
use Rattle.std.proofs.lemmas.List.{append-nil}
use Rattle.std.proofs.lemmas.Bool.Decides.{eqb_tells}
use Rattle.vm_shape.specs.declared.settings.TrickleSet.{TrickleSet}
use Rattle.vm_shape.specs.Limits.{is_trickle}
use Rattle.vm_shape.proofs.DescriptionLemmas.{trickle_rules}
use Rattle.trickle_timer.specs.Intervals as trickle
use Rattle.trickle_timer.specs.Timer.{Timer, IsTimerOf, after_happening}
use Rattle.trickle_timer.proofs.IntervalLemmas.{IsTimerOf-start, IsTimerOf-after, Decides-at_point}
use Rattle.world_rules.specs.World.{World}
use Rattle.world_rules.specs.Effect.{Node, event_node}
use Rattle.world_rules.specs.State.{Moment, node_at, effect_at, state}
use Rattle.world_laws.specs.Timing.{timed_happening, timer_happenings, timer_start, TimersStand, PointsDecide}
use Rattle.world_laws.proofs.Points.{nodes-here, nodes-other}

-- one event
stands-by : (s : trickle.Start) (happened : List trickle.TimerHappening) (t : Timer) (o : Option trickle.TimerEvent) (time : ℕ) → IsTimerOf s happened t
    → IsTimerOf s (happened ++ timed_happening time o) (option_map_or (λ (e : trickle.TimerEvent). after_happening t (record { event = e; time = time })) o t)
stands-by s happened t None time held = subst (λ (hs : List trickle.TimerHappening). IsTimerOf s hs t) (sym (append-nil happened)) held
stands-by s happened t (Some e) time held = IsTimerOf-after s happened t (record { event = e; time = time }) held

happenings-here : (w : World) (m : Moment) (before : List Moment) → timer_happenings w (event_node w m.cause) (m ∷ before) ≡ timer_happenings w (event_node w m.cause) before ++ timed_happening m.time (effect_at w (state w before) m).timer
happenings-here w m before = elim (eqb_tells (event_node w m.cause) (event_node w m.cause)) [ inl same ↦ rw same.0 refl | inr other ↦ absurd (other.1 refl) ]

happenings-other : (w : World) (k : ℕ) (m : Moment) (before : List Moment) → k ≢ event_node w m.cause → timer_happenings w k (m ∷ before) ≡ timer_happenings w k before
happenings-other w k m before other = elim (eqb_tells k (event_node w m.cause)) [ inl same ↦ absurd (other same.1) | inr apart ↦ rw apart.0 (append-nil (timer_happenings w k before)) ]

pub timers_stand : (w : World) → TimersStand w
timers_stand w k [] = IsTimerOf-start (timer_start w k)
timers_stand w k (m ∷ before) = elim (eqb_tells k (event_node w m.cause)) [
  | inl same ↦ subst (λ (j : ℕ). IsTimerOf (timer_start w j) (timer_happenings w j (m ∷ before)) ((state w (m ∷ before)).nodes j).timer) (sym same.1) (here (timers_stand w (event_node w m.cause) before))
  | inr other ↦ subst (λ (hs : List trickle.TimerHappening). IsTimerOf (timer_start w k) hs ((state w (m ∷ before)).nodes k).timer) (sym (happenings-other w k m before other.1))
      (subst (λ (n : Node). IsTimerOf (timer_start w k) (timer_happenings w k before) n.timer) (sym (nodes-other w (state w before) m k other.1)) (timers_stand w k before))
] where
  here : IsTimerOf (timer_start w (event_node w m.cause)) (timer_happenings w (event_node w m.cause) before) (node_at w (state w before) m).timer
      → IsTimerOf (timer_start w (event_node w m.cause)) (timer_happenings w (event_node w m.cause) (m ∷ before)) ((state w (m ∷ before)).nodes (event_node w m.cause)).timer
  here held = subst (λ (hs : List trickle.TimerHappening). IsTimerOf (timer_start w (event_node w m.cause)) hs ((state w (m ∷ before)).nodes (event_node w m.cause)).timer) (sym (happenings-here w m before))
      (subst (λ (n : Node). IsTimerOf (timer_start w (event_node w m.cause)) (timer_happenings w (event_node w m.cause) before ++ timed_happening m.time (effect_at w (state w before) m).timer) n.timer) (sym (nodes-here w (state w before) m))
      (stands-by (timer_start w (event_node w m.cause)) (timer_happenings w (event_node w m.cause) before) (node_at w (state w before) m).timer (effect_at w (state w before) m).timer m.time held))

pub points_decide : (w : World) → PointsDecide w
points_decide w k ms = Decides-at_point ((state w ms).nodes k).timer w.suppress _ right refl where
  right : IsTrue (is_trickle ((state w ms).nodes k).timer.set)
  right = subst (λ (t : TrickleSet). IsTrue (is_trickle t)) (sym (ap (λ (t : Timer). t.set) (timers_stand w k ms).shown)) (trickle_rules w.description)
