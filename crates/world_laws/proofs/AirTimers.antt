-- A node's Interval records are the beginnings of its timer's intervals.
use Rattle.std.proofs.Common.{◌≡◌, ◌≢◌, ◌<◌, ◌≤◌, ℕ, zero, suc, ◌+◌, Bool, true, false, List, [], ◌∷◌, ◌++◌, map, length, Option, Some, None, refl, sym, ◌∙◌, ap, subst, arith, inl, inr, append_assoc}
use Rattle.std.specs.Prelude.{slice_get, ◌==◌, if◌then◌else◌}
use Rattle.std.specs.List.{filter_map, flat_map, cons_option, range_with_len}
use Rattle.std.specs.Option.{option_map_or}
use Rattle.std.proofs.lemmas.List.{map-append, append-nil}
use Rattle.std.proofs.lemmas.List.Elements.{filter_map-append}
use Rattle.std.proofs.lemmas.Bool.Decides.{eqb_tells}
use Rattle.mate_num.specs.declared.call.Stamp.{Stamp}
use Rattle.mate_journal.specs.declared.air.Air.TheVariants as air
use Rattle.mate_journal.specs.declared.air.Aired.{Aired}
use Rattle.rand_pcg.specs.Lcg.{Lcg}
use Rattle.trickle_timer.specs.Intervals as trickle
use Rattle.trickle_timer.specs.Timer.{Timer, IsTimerOf}
use Rattle.trickle_timer.specs.declared.timer.Fire.{Fire}
use Rattle.trickle_timer.specs.declared.timer.Fire.TheVariants as fire
use Rattle.trickle_timer.proofs.IntervalLemmas.{intervals_from-append}
use Rattle.capsule_exchange.specs.Happenings.{Happening, next_slot}
use Rattle.world_rules.specs.Cause.{Cause}
use Rattle.world_rules.specs.Cause as event
use Rattle.world_rules.specs.World.{World, PlannedLine, Want, Inject, Post, Show, ResetNode, Noise, handlers, receiver}
use Rattle.world_rules.specs.Effect.{Node, NodeEffect, no_effect, node_effect, of_line, of_point, of_slot, begun_length, event_node}
use Rattle.world_rules.specs.State.{Moment, WorldState, node_at, effect_at, sendings, packets_of, air_made, state}
use Rattle.world_rules.specs.Run.{stamp_of, airs}
use Rattle.world_laws.specs.Timing.{timer_happenings, timer_start, timed_happening}
use Rattle.world_laws.proofs.Timing.{timers_stand}
use Rattle.world_laws.specs.Transmissions.{Transmission, losing_links}
use Rattle.world_laws.specs.TimerRecords.{Beginning, begun_by, beginning_of, IntervalsAreTold}
use Rattle.world_laws.proofs.Records.{stamped, interval_air, sendings_air, parts}
use Rattle.world_laws.proofs.Sent.{told_by, decided, sendings-decided}

-- ---- what one event's records tell

-- the beginning of an interval of this length, if one begins
abbrev begun_then : ℕ → Option ℕ → List Beginning
begun_then time None = []
begun_then time (Some l) = record { time = time; length = l } ∷ []

line-begins : (k : ℕ) (at : Stamp) (node : ℕ) (x : Want) → filter_map (begun_by k) (map (stamped at node) (of_line x).first) ≡ []
line-begins k at node (Inject p) = refl
line-begins k at node _ = refl

planned-begins : (k : ℕ) (at : Stamp) (node : ℕ) (o : Option PlannedLine) → filter_map (begun_by k) (map (stamped at node) (option_map_or (λ (l : PlannedLine). of_line l.what) o no_effect).first) ≡ []
planned-begins k at node None = refl
planned-begins k at node (Some l) = line-begins k at node l.what

point-begins : (w : World) (n : Node) (k : ℕ) (at : Stamp) (node : ℕ) (o : Fire) → filter_map (begun_by k) (map (stamped at node) (of_point w n o).first) ≡ []
point-begins w n k at node fire.Send = refl
point-begins w n k at node fire.Keep = refl

slot-begins : (hs : List Happening) (k : ℕ) (at : Stamp) (node : ℕ) (o : Option ℕ) → filter_map (begun_by k) (map (stamped at node) (of_slot hs o).first) ≡ []
slot-begins hs k at node None = refl
slot-begins hs k at node (Some slot) = refl

head-begins : (w : World) (n : Node) (k : ℕ) (at : Stamp) (node : ℕ) (c : Cause) → filter_map (begun_by k) (map (stamped at node) (node_effect w n c).first) ≡ []
head-begins w n k at node (event.Planned line) = planned-begins k at node (slice_get w.plan line)
head-begins w n k at node (event.Fire i) = point-begins w n k at node (trickle.at_point n.timer.set n.timer.running w.suppress)
head-begins w n k at node (event.Pump i) = slot-begins n.exchange k at node (next_slot (handlers w) n.exchange)
head-begins w n k at node _ = refl

interval-begins : (k : ℕ) (at : Stamp) (node : ℕ) (o : Option ℕ) → filter_map (begun_by k) (map (stamped at node) (interval_air o)) ≡ (if node == k then begun_then at.time o else [])
interval-begins k at node None = by (node == k) where
  by : (b : Bool) → ◌≡◌ {A = List Beginning} [] (if b then [] else [])
  by true = refl
  by false = refl
interval-begins k at node (Some l) = by (node == k) where
  by : (b : Bool) → cons_option (if b then Some (record { time = at.time; length = l }) else None) [] ≡ (if b then begun_then at.time (Some l) else [])
  by true = refl
  by false = refl

losses-begin : (w : World) (k : ℕ) (x : Transmission) (js : List ℕ) (rest : List Aired) → filter_map (begun_by k) (map (λ j. stamped x.at x.node (air.Lost x.number (receiver w j))) js ++ rest) ≡ filter_map (begun_by k) rest
losses-begin w k x [] rest = refl
losses-begin w k x (j ∷ js) rest = losses-begin w k x js rest

decided-begin : (w : World) (k : ℕ) (xs : List Transmission) → filter_map (begun_by k) (flat_map (decided w) xs) ≡ []
decided-begin w k [] = refl
decided-begin w k (x ∷ xs) = losses-begin w k x (losing_links w x) (flat_map (decided w) xs) ∙ decided-begin w k xs

event-begins : (w : World) (m : Moment) (before : List Moment) (k : ℕ)
    → filter_map (begun_by k) (map (stamped (stamp_of m before) (event_node w m.cause)) (air_made w (state w before) m))
    ≡ (if event_node w m.cause == k then begun_then m.time (begun_length (node_at w (state w before) m) (effect_at w (state w before) m)) else [])
event-begins w m before k =
    let s : WorldState = state w before in
    let at : Stamp = stamp_of m before in
    let node : ℕ = event_node w m.cause in
    let o : Option ℕ = begun_length (node_at w s m) (effect_at w s m) in
    let first : List Aired = map (stamped at node) (effect_at w s m).first in
    let begins : List Aired = map (stamped at node) (interval_air o) in
    let sends : List Aired = map (stamped at node) (sendings_air w s m) in
    ap (filter_map (begun_by k)) (parts w s m at node)
    ∙ filter_map-append (begun_by k) (first ++ begins) sends
    ∙ ap (λ (bs : List Beginning). bs ++ filter_map (begun_by k) sends) (filter_map-append (begun_by k) first begins)
    ∙ ap (λ (bs : List Beginning). (filter_map (begun_by k) first ++ filter_map (begun_by k) begins) ++ bs) (ap (filter_map (begun_by k)) (sendings-decided w at node (sendings w s node (packets_of w s m))) ∙ decided-begin w k (told_by w m before))
    ∙ append-nil (filter_map (begun_by k) first ++ filter_map (begun_by k) begins)
    ∙ ap (λ (bs : List Beginning). bs ++ filter_map (begun_by k) begins) (head-begins w (node_at w s m) k at node m.cause)
    ∙ interval-begins k at node o

-- ---- what one happening more begins

more-begun : (s : trickle.Start) (hs : List trickle.TimerHappening) (earlier : List trickle.Interval) (running : trickle.Interval) (h : trickle.TimerHappening) → trickle.intervals s hs ≡ earlier ++ running ∷ []
    → map beginning_of (trickle.intervals s (hs ++ h ∷ [])) ≡ map beginning_of (trickle.intervals s hs) ++ begun_then h.time (trickle.next_length s.set running.length h.event)
more-begun s hs earlier running h all =
    let words : Lcg = trickle.stream s.random s.node in
    let first : trickle.Interval = trickle.interval s.set.imin s.time (trickle.lcg_word words 0) in
    ap (map beginning_of) (intervals_from-append s.set words 1 first hs h earlier running all)
    ∙ map-append beginning_of earlier (trickle.intervals_from s.set words (1 + length earlier) running (h ∷ []))
    ∙ by (trickle.next_length s.set running.length h.event)
    ∙ ap (λ (bs : List Beginning). bs ++ begun_then h.time (trickle.next_length s.set running.length h.event)) (sym (ap (map beginning_of) all ∙ map-append beginning_of earlier (running ∷ []))) where
      by : (o : Option ℕ) → map beginning_of earlier ++ map beginning_of (option_map_or (λ l. running ∷ trickle.interval l h.time (trickle.lcg_word (trickle.stream s.random s.node) (1 + length earlier)) ∷ []) o (record running { heard = trickle.count running.heard h.event } ∷ []))
          ≡ (map beginning_of earlier ++ beginning_of running ∷ []) ++ begun_then h.time o
      by None = sym (append-nil (map beginning_of earlier ++ beginning_of running ∷ []))
      by (Some l) = sym (append_assoc (map beginning_of earlier) (beginning_of running ∷ []) (record { time = h.time; length = l } ∷ []))

-- by the timer's event, if it has one
begun-by-timer : (s : trickle.Start) (hs : List trickle.TimerHappening) (n : Node) (e : NodeEffect) (time : ℕ) → IsTimerOf s hs n.timer
    → map beginning_of (trickle.intervals s (hs ++ timed_happening time e.timer)) ≡ map beginning_of (trickle.intervals s hs) ++ begun_then time (begun_length n e)
begun-by-timer s hs n e time held = by e.timer where
  by : (o : Option trickle.TimerEvent) → map beginning_of (trickle.intervals s (hs ++ timed_happening time o)) ≡ map beginning_of (trickle.intervals s hs) ++ begun_then time (begun_length n (record e { timer = o }))
  by None = ap (λ (xs : List trickle.TimerHappening). map beginning_of (trickle.intervals s xs)) (append-nil hs) ∙ sym (append-nil (map beginning_of (trickle.intervals s hs)))
  by (Some t) =
      more-begun s hs held.earlier held.running (record { event = t; time = time }) held.all
      ∙ ap (λ (u : Timer). map beginning_of (trickle.intervals s hs) ++ begun_then time (trickle.next_length u.set u.running.length t)) (sym held.shown)

-- ---- along a run

-- the records of the start
abbrev start_record : World → ℕ → Aired
start_record w j = record { stamp = record { event = 0; time = 0 }; node = j; air = air.Interval w.description.trickle.imin }

begun-unless : (w : World) (k a : ℕ) (rest : List Aired) → a ≢ k → filter_map (begun_by k) (start_record w a ∷ rest) ≡ filter_map (begun_by k) rest
begun-unless w k a rest other = elim (eqb_tells a k) [
  | inl same ↦ absurd (other same.1)
  | inr apart ↦ ap (λ (b : Bool). cons_option (if b then Some (record { time = 0; length = w.description.trickle.imin }) else None) (filter_map (begun_by k) rest)) apart.0
]

begun-there : (w : World) (k a : ℕ) (rest : List Aired) → a ≡ k → filter_map (begun_by k) (start_record w a ∷ rest) ≡ record { time = 0; length = w.description.trickle.imin } ∷ filter_map (begun_by k) rest
begun-there w k a rest is = elim (eqb_tells a k) [
  | inl same ↦ ap (λ (b : Bool). cons_option (if b then Some (record { time = 0; length = w.description.trickle.imin }) else None) (filter_map (begun_by k) rest)) same.0
  | inr apart ↦ absurd (apart.1 is)
]

none-begun : (w : World) (k a n : ℕ) → k < a → filter_map (begun_by k) (map (start_record w) (range_with_len a n)) ≡ []
none-begun w k a zero below = refl
none-begun w k a (suc n) below =
    begun-unless w k a (map (start_record w) (range_with_len (a + 1) n)) (λ same. omega (arith, same, below)) ∙ none-begun w k (a + 1) n (omega (arith, below))

one-begun : (w : World) (k a n : ℕ) → a ≤ k → k < a + n → filter_map (begun_by k) (map (start_record w) (range_with_len a n)) ≡ record { time = 0; length = w.description.trickle.imin } ∷ []
one-begun w k a zero low high = absurd (omega (arith, low, high))
one-begun w k a (suc n) low high = elim (eqb_tells a k) [
  | inl same ↦ begun-there w k a (map (start_record w) (range_with_len (a + 1) n)) same.1 ∙ ap (λ (bs : List Beginning). record { time = 0; length = w.description.trickle.imin } ∷ bs) (none-begun w k (a + 1) n (let e = same.1 in omega (arith, e)))
  | inr other ↦ begun-unless w k a (map (start_record w) (range_with_len (a + 1) n)) other.1 ∙ one-begun w k (a + 1) n (let e = other.1 in omega (arith, low, e)) (omega (arith, high))
]

pub intervals_are_told : (w : World) → IntervalsAreTold w
intervals_are_told w [] k below = one-begun w k 0 w.nodes (omega arith) (omega (arith, below))
intervals_are_told w (m ∷ before) k below =
    filter_map-append (begun_by k) (airs w before) (map (stamped (stamp_of m before) (event_node w m.cause)) (air_made w (state w before) m))
    ∙ ap (λ (bs : List Beginning). filter_map (begun_by k) (airs w before) ++ bs) (event-begins w m before k)
    ∙ ap (λ (bs : List Beginning). bs ++ (if event_node w m.cause == k then begun_then m.time (begun_length (node_at w (state w before) m) (effect_at w (state w before) m)) else [])) (intervals_are_told w before k below)
    ∙ elim (eqb_tells (event_node w m.cause) k) [
      | inl same ↦ ap (λ (b : Bool). old ++ (if b then begun_then m.time (begun_length (node_at w (state w before) m) (effect_at w (state w before) m)) else [])) same.0 ∙ here same.1
      | inr other ↦ ap (λ (b : Bool). old ++ (if b then begun_then m.time (begun_length (node_at w (state w before) m) (effect_at w (state w before) m)) else [])) other.0 ∙ there other.1
    ] where
      old : List Beginning
      old = map beginning_of (trickle.intervals (timer_start w k) (timer_happenings w k before))

      is_here : event_node w m.cause ≡ k → (k == event_node w m.cause) ≡ true
      is_here same = elim (eqb_tells k (event_node w m.cause)) [ inl is ↦ is.0 | inr other ↦ absurd (other.1 (sym same)) ]

      is_other : (event_node w m.cause ≡ k → ⊥) → (k == event_node w m.cause) ≡ false
      is_other other = elim (eqb_tells k (event_node w m.cause)) [ inl is ↦ absurd (other (sym is.1)) | inr apart ↦ apart.0 ]

      here : event_node w m.cause ≡ k
          → map beginning_of (trickle.intervals (timer_start w k) (timer_happenings w k before)) ++ begun_then m.time (begun_length (node_at w (state w before) m) (effect_at w (state w before) m))
          ≡ map beginning_of (trickle.intervals (timer_start w k) (timer_happenings w k (m ∷ before)))
      here same =
          sym (begun-by-timer (timer_start w k) (timer_happenings w k before) (node_at w (state w before) m) (effect_at w (state w before) m) m.time
          (subst (λ (j : ℕ). IsTimerOf (timer_start w k) (timer_happenings w k before) ((state w before).nodes j).timer) (sym same) (timers_stand w k before)))
          ∙ ap (λ (b : Bool). map beginning_of (trickle.intervals (timer_start w k) (timer_happenings w k before ++ (if b then timed_happening m.time (effect_at w (state w before) m).timer else []))))
          (sym (is_here same))

      there : (event_node w m.cause ≡ k → ⊥)
          → map beginning_of (trickle.intervals (timer_start w k) (timer_happenings w k before)) ++ []
          ≡ map beginning_of (trickle.intervals (timer_start w k) (timer_happenings w k (m ∷ before)))
      there other =
          append-nil (map beginning_of (trickle.intervals (timer_start w k) (timer_happenings w k before)))
          ∙ ap (λ (hs : List trickle.TimerHappening). map beginning_of (trickle.intervals (timer_start w k) hs)) (sym (append-nil (timer_happenings w k before)))
          ∙ ap (λ (b : Bool). map beginning_of (trickle.intervals (timer_start w k) (timer_happenings w k before ++ (if b then timed_happening m.time (effect_at w (state w before) m).timer else []))))
          (sym (is_other other))
