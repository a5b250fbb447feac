-- What the rules schedule and record in an event, as items and records of the radio.
use Rattle.std.proofs.Common.{◌≡◌, ℕ, ◌+◌, ◌≤◌, Bool, true, false, cond, List, [], ◌∷◌, map, refl, ◌∙◌, ap, arith}
use Rattle.std.specs.Prelude.{◌&&◌, Option, Some, None}
use Rattle.std.proofs.lemmas.Bool.{and_parts}
use Rattle.std.proofs.lemmas.Bool.Decides.{nat_tests}
use Rattle.std.specs.List.{filter}
use Rattle.std.specs.Option.{option_map_or, option_to_list}
use Rattle.mate_journal.specs.declared.air.Air.TheVariants as air
use Rattle.vm_shape.specs.Names.{between, is_name}
use Rattle.vm_shape.specs.Limits.{is_handler, is_kind}
use Rattle.vm_shape.specs.declared.handler.Handler.{Handler}
use Rattle.vm_shape.specs.declared.handler.HandlerKind.{HandlerKind}
use Rattle.vm_shape.specs.declared.handler.HandlerKind.TheVariants as kind
use Rattle.radio_sim.specs.declared.shared_event.SharedEvent.{SharedEvent}
use Rattle.trickle_timer.specs.Timer.{Timer}
use Rattle.world_rules.specs.Cause.{Cause}
use Rattle.world_rules.specs.Cause as event
use Rattle.world_rules.specs.World.{World, period_in, period_of}
use Rattle.world_rules.specs.Effect.{Node, NodeEffect, begun_length, cuts, resets}
use Rattle.world_rules.specs.State.{next_period, new_interval, new_pump, timer_after, is_kept, is_some_length}
use Rattle.world_laws.proofs.Timers.{timer_begun}
use Rattle.world_air.specs.Air.{radio_event, timed_events}
use Rattle.world_air.specs.Changes.{stays, if_begins}
use Rattle.world_air.specs.declared.changes.Ends.{Ends}
use Rattle.world_event.specs.Pieces.{length_of, interval_items, next_items, period_items, pump_items}

-- ---- what ends

-- an event ends on the radio where its cause ends by the rules
abbrev pub ends_of : NodeEffect → Bool → Ends
ends_of e begins = record { interval = begins; pump = resets e.deed; answers = cuts e.deed }

same-end : (w : World) (node : ℕ) (e : NodeEffect) (begins : Bool) (c : Cause) → stays node (ends_of e begins) (radio_event w c) ≡ is_kept node e begins c
same-end w node e begins (event.Planned line) = refl
same-end w node e begins _ = refl

pub kept-are : (w : World) (node : ℕ) (e : NodeEffect) (begins : Bool) (cs : List Cause) → filter (stays node (ends_of e begins)) (map (radio_event w) cs) ≡ map (radio_event w) (filter (is_kept node e begins) cs)
kept-are w node e begins [] = refl
kept-are w node e begins (c ∷ cs) =
    ap (λ (b : Bool). cond b (radio_event w c ∷ filter (stays node (ends_of e begins)) (map (radio_event w) cs)) (filter (stays node (ends_of e begins)) (map (radio_event w) cs))) (same-end w node e begins c)
    ∙ by (is_kept node e begins c) (kept-are w node e begins cs) where
      by : (b : Bool) → filter (stays node (ends_of e begins)) (map (radio_event w) cs) ≡ map (radio_event w) (filter (is_kept node e begins) cs)
          → cond b (radio_event w c ∷ filter (stays node (ends_of e begins)) (map (radio_event w) cs)) (filter (stays node (ends_of e begins)) (map (radio_event w) cs))
          ≡ map (radio_event w) (cond b (c ∷ filter (is_kept node e begins) cs) (filter (is_kept node e begins) cs))
      by true rest = ap (λ (es : List SharedEvent). radio_event w c ∷ es) rest
      by false rest = rest

-- ---- what is scheduled

pub period-is : (w : World) (c : Cause) (time : ℕ) → period_items w.description (radio_event w c) time ≡ timed_events w (next_period w c time)
period-is w (event.Period node h) time = by (period_of w h.0) where
  by : (o : Option ℕ) → next_items o node h time ≡ timed_events w (option_map_or (λ p. record { time = time + p; cause = event.Period node h } ∷ []) o [])
  by None = refl
  by (Some p) = refl
period-is w _ time = refl

pub interval-is : (w : World) (node : ℕ) (o : Option ℕ) (t : Timer) → interval_items (is_some_length o) node t ≡ timed_events w (new_interval node o t)
interval-is w node None t = refl
interval-is w node (Some l) t = refl

pub pump-is : (w : World) (node time : ℕ) (b : Bool) → pump_items w.description node time b ≡ timed_events w (new_pump w node time b)
pump-is w node time false = refl
pump-is w node time true = refl

-- ---- what is recorded

-- the interval that begins has its length
pub begun-is : (n : Node) (e : NodeEffect) (time : ℕ) → if_begins (length_of (is_some_length (begun_length n e)) (timer_after n e time)) ≡ map (λ l. air.Interval l) (option_to_list (begun_length n e))
begun-is n e time = by (begun_length n e) refl where
  by : (o : Option ℕ) → begun_length n e ≡ o → if_begins (length_of (is_some_length o) (timer_after n e time)) ≡ map (λ l. air.Interval l) (option_to_list o)
  by None is = refl
  by (Some l) is = ap (λ (t : Timer). if_begins (length_of true t)) (timer_begun n e time l is)

-- ---- periods

-- a timer's period is within an hour
pub period-high : (h : Handler) (p : ℕ) → is_handler h ≡ true → period_in h.kind ≡ Some p → p ≤ 3600000
period-high h p right is = by h.kind ((and_parts (is_name h.name) (is_kind h.kind) (and_parts (is_name h.name && is_kind h.kind) (between 1 4 h.contexts) right).0).1) is where
  by : (k : HandlerKind) → is_kind k ≡ true → period_in k ≡ Some p → p ≤ 3600000
  by kind.Plain right is = absurd (cc)
  by (kind.Timer period) right is = let e : period ≡ p = cc in grind (arith, nat_tests, and_parts)
  by kind.Receive right is = absurd (cc)
  by kind.Once right is = absurd (cc)
