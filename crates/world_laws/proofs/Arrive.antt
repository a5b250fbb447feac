-- What arrives is what the packets bring, each once.
use Rattle.std.proofs.Common.{◌≡◌, ◌≤◌, ℕ, suc, ◌+◌, Bool, true, false, cond, not, ◌&&◌, List, [], ◌∷◌, ◌++◌, drop, map, Option, Some, None, refl, sym, ◌∙◌, ap, subst, arith, inl, inr, append_assoc}
use Rattle.std.specs.Prelude.{slice_get, ◌==◌, if◌then◌else◌}
use Rattle.std.specs.List.{filter, filter_map, flat_map, cons_option, range_with_len}
use Rattle.std.specs.Option.{option_map_or}
use Rattle.std.proofs.lemmas.List.{append-nil}
use Rattle.std.proofs.lemmas.List.Elements.{filter_map-append}
use Rattle.std.proofs.lemmas.Grind.{flat_map-append}
use Rattle.std.proofs.lemmas.Bool.{eqb-true}
use Rattle.std.proofs.lemmas.Bool.Decides.{eqb_tells}
use Rattle.mate_num.specs.declared.id.FunId.{FunId}
use Rattle.mate_num.specs.declared.call.Stamp.{Stamp}
use Rattle.mate_journal.specs.Journal.{JournalEntry, Posted, Dropped, Started, Asked, Answered, Ended, Installed, Reset, Seen, Void, NodeState}
use Rattle.mate_journal.specs.NodeScript.{RunEnd}
use Rattle.mate_journal.specs.declared.air.Air.TheVariants as air
use Rattle.mate_journal.specs.declared.air.Aired.{Aired}
use Rattle.trickle_timer.specs.Intervals as trickle
use Rattle.trickle_timer.specs.Timer.{Timer}
use Rattle.trickle_timer.specs.declared.timer.Fire.{Fire}
use Rattle.trickle_timer.specs.declared.timer.Fire.TheVariants as fire
use Rattle.capsule_exchange.specs.Happenings.{Happening, next_slot}
use Rattle.world_rules.specs.Cause.{Cause}
use Rattle.world_rules.specs.Cause as event
use Rattle.world_rules.specs.World.{World, PlannedLine, Want, Inject, Post, Show, ResetNode, Noise, handlers, receiver, leaves, links_from, period_of}
use Rattle.world_rules.specs.Effect.{Node, NodeEffect, no_effect, node_effect, of_line, of_point, of_slot, sender, begun_length, is_owing, event_node}
use Rattle.world_rules.specs.State.{Moment, WorldState, Scheduled, at_this, of_time, Sending, sendings, packets_of, is_lost, deliveries, air_made, node_at, effect_at, node_after, next_period, of_interval, new_interval, new_pump, still_pumps, answers_due, schedules, is_kept, is_some_length, left_due, lines_from, first_of, start_node, world_start, state}
use Rattle.world_rules.specs.Run.{IsNext, HaveCome, IsAtEnd, stamp_of, airs}
use Rattle.mate_num.specs.Lists.{Among}
use Rattle.mate_num.proofs.ListLemmas.{among-unfilter}
use Rattle.world_laws.proofs.Points.{past-step}
use Rattle.world_laws.specs.Transmissions.{Transmission, transmissions, loses_on, bringing_links, losing_links, Arrival, arrival_at, arrivals_at, brings_at}
use Rattle.world_laws.specs.PacketRecords.{PacketsArriveOnce, ReachedIsDone}
use Rattle.world_laws.proofs.Records.{stamped, interval_air, sendings_air, parts}
use Rattle.world_laws.proofs.Sent.{told_as, told_by, decided, sendings-decided, transmissions-event, transmissions-start}

-- ---- what is on its way

abbrev pub on_its_way : World → Cause → Option Arrival
on_its_way w (event.Deliver link number packet) = Some (record { to = receiver w link; number = number; from = sender w link })
on_its_way w _ = None

abbrev pub coming : World → List Cause → List Arrival
coming w cs = filter_map (on_its_way w) cs

-- a cause of another kind may be cancelled or not
other-kept : (w : World) (c : Cause) (rest kept : List Cause) → coming w kept ≡ coming w rest → on_its_way w c ≡ None → (b : Bool) → coming w (cond b (c ∷ kept) kept) ≡ coming w rest
other-kept w c rest kept is none true = ap (λ (o : Option Arrival). cons_option o (coming w kept)) none ∙ is
other-kept w c rest kept is none false = is

-- a delivery isn't cancelled
coming-kept : (w : World) (node : ℕ) (e : NodeEffect) (begins : Bool) (cs : List Cause) → coming w (filter (is_kept node e begins) cs) ≡ coming w cs
coming-kept w node e begins [] = refl
coming-kept w node e begins (event.Planned line ∷ cs) = coming-kept w node e begins cs
coming-kept w node e begins (event.Period k h ∷ cs) = coming-kept w node e begins cs
coming-kept w node e begins (event.Fire k ∷ cs) = other-kept w (event.Fire k) cs (filter (is_kept node e begins) cs) (coming-kept w node e begins cs) refl (is_kept node e begins (event.Fire k))
coming-kept w node e begins (event.Expire k ∷ cs) = other-kept w (event.Expire k) cs (filter (is_kept node e begins) cs) (coming-kept w node e begins cs) refl (is_kept node e begins (event.Expire k))
coming-kept w node e begins (event.Pump k ∷ cs) = other-kept w (event.Pump k) cs (filter (is_kept node e begins) cs) (coming-kept w node e begins cs) refl (is_kept node e begins (event.Pump k))
coming-kept w node e begins (event.Due k c inv value ∷ cs) = other-kept w (event.Due k c inv value) cs (filter (is_kept node e begins) cs) (coming-kept w node e begins cs) refl (is_kept node e begins (event.Due k c inv value))
coming-kept w node e begins (event.Deliver link number packet ∷ cs) = ap (λ (xs : List Arrival). record { to = receiver w link; number = number; from = sender w link } ∷ xs) (coming-kept w node e begins cs)

-- ---- what an event puts on its way

coming-append : (w : World) (t : ℕ) (xs ys : List Scheduled) → coming w (of_time t (xs ++ ys)) ≡ coming w (of_time t xs) ++ coming w (of_time t ys)
coming-append w t xs ys = ap (coming w) (filter_map-append (at_this t) xs ys) ∙ filter_map-append (on_its_way w) (of_time t xs) (of_time t ys)

quiet-one : (w : World) (t : ℕ) (x : Scheduled) (xs : List Scheduled) → on_its_way w x.cause ≡ None → coming w (of_time t (x ∷ xs)) ≡ coming w (of_time t xs)
quiet-one w t x xs none = by (x.time == t) where
  by : (b : Bool) → coming w (cons_option (if b then Some x.cause else None) (of_time t xs)) ≡ coming w (of_time t xs)
  by true = ap (λ (o : Option Arrival). cons_option o (coming w (of_time t xs))) none
  by false = refl

quiet-period : (w : World) (t : ℕ) (c : Cause) (time : ℕ) → coming w (of_time t (next_period w c time)) ≡ []
quiet-period w t (event.Period node h) time = by (period_of w h.0) where
  by : (o : Option ℕ) → coming w (of_time t (option_map_or (λ p. record { time = time + p; cause = event.Period node h } ∷ []) o [])) ≡ []
  by None = refl
  by (Some p) = quiet-one w t (record { time = time + p; cause = event.Period node h }) [] refl
quiet-period w t _ time = refl

quiet-of_interval : (w : World) (t node : ℕ) (timer : Timer) → coming w (of_time t (of_interval node timer)) ≡ []
quiet-of_interval w t node timer =
    quiet-one w t (record { time = timer.running.point; cause = event.Fire node }) (record { time = timer.running.begin + timer.running.length; cause = event.Expire node } ∷ []) refl
    ∙ quiet-one w t (record { time = timer.running.begin + timer.running.length; cause = event.Expire node }) [] refl

quiet-interval : (w : World) (t node : ℕ) (o : Option ℕ) (timer : Timer) → coming w (of_time t (new_interval node o timer)) ≡ []
quiet-interval w t node None timer = refl
quiet-interval w t node (Some l) timer = quiet-of_interval w t node timer

quiet-pump : (w : World) (t node time : ℕ) (b : Bool) → coming w (of_time t (new_pump w node time b)) ≡ []
quiet-pump w t node time true = quiet-one w t (record { time = time + w.description.radio.gap; cause = event.Pump node }) [] refl
quiet-pump w t node time false = refl

quiet-answers : (w : World) (t node time : ℕ) (r : NodeState) (called : List FunId) (told : List JournalEntry) → coming w (of_time t (answers_due w node time r called told)) ≡ []
quiet-answers w t node time r called [] = refl
quiet-answers w t node time r called (Asked n f args ∷ told) = quiet-one w t _ (answers_due w node time r (called ++ f ∷ []) told) refl ∙ quiet-answers w t node time r (called ++ f ∷ []) told
quiet-answers w t node time r called (_ ∷ told) = quiet-answers w t node time r called told

-- the deliveries of a packet over some links of its node
abbrev delivered_over : World → ℕ → Sending → List ℕ → List Scheduled
delivered_over w time x js = flat_map (λ j. if is_lost w x j then [] else record { time = time + w.description.radio.delay; cause = event.Deliver j x.number x.packet } ∷ []) js

not-then : (w : World) (t time : ℕ) (x : Sending) (js : List ℕ) → (time + w.description.radio.delay == t) ≡ false → coming w (of_time t (delivered_over w time x js)) ≡ []
not-then w t time x [] other = refl
not-then w t time x (j ∷ js) other = by (is_lost w x j) (not-then w t time x js other) where
  by : (b : Bool) → coming w (of_time t (delivered_over w time x js)) ≡ []
      → coming w (of_time t ((if b then [] else record { time = time + w.description.radio.delay; cause = event.Deliver j x.number x.packet } ∷ []) ++ delivered_over w time x js)) ≡ []
  by true none = none
  by false none = ap (λ (b : Bool). coming w (cons_option (if b then Some (event.Deliver j x.number x.packet) else None) (of_time t (delivered_over w time x js)))) other ∙ none

just-then : (w : World) (at : Stamp) (t node : ℕ) (x : Sending) (js : List ℕ) → ((j : ℕ) → Among j js → sender w j ≡ node) → (at.time + w.description.radio.delay == t) ≡ true
    → coming w (of_time t (delivered_over w at.time x js))
    ≡ map (λ j. record { to = receiver w j; number = x.number; from = node }) (filter (λ j. not (loses_on w (told_as w at node x) j)) js)
just-then w at t node x [] from now = refl
just-then w at t node x (j ∷ js) from now = by (is_lost w x j) (just-then w at t node x js (λ i a. from i (inr a)) now) where
  by : (b : Bool) → coming w (of_time t (delivered_over w at.time x js)) ≡ map (λ i. record { to = receiver w i; number = x.number; from = node }) (filter (λ i. not (loses_on w (told_as w at node x) i)) js)
      → coming w (of_time t ((if b then [] else record { time = at.time + w.description.radio.delay; cause = event.Deliver j x.number x.packet } ∷ []) ++ delivered_over w at.time x js))
      ≡ map (λ i. record { to = receiver w i; number = x.number; from = node }) (cond (not b) (j ∷ filter (λ i. not (loses_on w (told_as w at node x) i)) js) (filter (λ i. not (loses_on w (told_as w at node x) i)) js))
  by true rest = rest
  by false rest =
      ap (λ (b : Bool). coming w (cons_option (if b then Some (event.Deliver j x.number x.packet) else None) (of_time t (delivered_over w at.time x js)))) now
      ∙ ap (λ (k : ℕ). record { to = receiver w j; number = x.number; from = k } ∷ coming w (of_time t (delivered_over w at.time x js))) (from j (inl refl))
      ∙ ap (λ (xs : List Arrival). record { to = receiver w j; number = x.number; from = node } ∷ xs) rest

-- a link that leaves a node has it got its sender
from-sender : (w : World) (node j : ℕ) → Among j (links_from w node) → sender w j ≡ node
from-sender w node j a = eqb-true (sender w j) node (among-unfilter (leaves w node) j _ a).1

packet-brought : (w : World) (at : Stamp) (t node : ℕ) (x : Sending) → coming w (of_time t (deliveries w node at.time x)) ≡ brings_at w t (told_as w at node x)
packet-brought w at t node x = by (at.time + w.description.radio.delay == t) refl where
  by : (b : Bool) → (at.time + w.description.radio.delay == t) ≡ b
      → coming w (of_time t (deliveries w node at.time x)) ≡ (if b then map (λ j. record { to = receiver w j; number = x.number; from = node }) (bringing_links w (told_as w at node x)) else [])
  by true now = just-then w at t node x (links_from w node) (from-sender w node) now
  by false other = not-then w t at.time x (links_from w node) other

packets-brought : (w : World) (at : Stamp) (t node : ℕ) (xs : List Sending) → coming w (of_time t (flat_map (deliveries w node at.time) xs)) ≡ flat_map (brings_at w t) (map (told_as w at node) xs)
packets-brought w at t node [] = refl
packets-brought w at t node (x ∷ xs) =
    coming-append w t (deliveries w node at.time x) (flat_map (deliveries w node at.time) xs)
    ∙ ap (λ (got : List Arrival). got ++ coming w (of_time t (flat_map (deliveries w node at.time) xs))) (packet-brought w at t node x)
    ∙ ap (λ (got : List Arrival). brings_at w t (told_as w at node x) ++ got) (packets-brought w at t node xs)

put-on-its-way : (w : World) (m : Moment) (before : List Moment) (t : ℕ) → coming w (of_time t (schedules w (state w before) m)) ≡ flat_map (brings_at w t) (told_by w m before)
put-on-its-way w m before t =
    let s : WorldState = state w before in
    let node : ℕ = event_node w m.cause in
    let n : Node = node_at w s m in
    let A : List Scheduled = next_period w m.cause m.time in
    let B : List Scheduled = new_interval node (begun_length n (effect_at w s m)) (node_after w n m).timer in
    let C : List Scheduled = flat_map (deliveries w node m.time) (sendings w s node (packets_of w s m)) in
    let D : List Scheduled = new_pump w node m.time (not (still_pumps m.cause (effect_at w s m) n) && is_owing w (node_after w n m).exchange) in
    let E : List Scheduled = answers_due w node m.time (node_after w n m).reading n.called m.told in
    coming-append w t A (B ++ (C ++ (D ++ E)))
    ∙ ap (λ (got : List Arrival). got ++ coming w (of_time t (B ++ (C ++ (D ++ E))))) (quiet-period w t m.cause m.time)
    ∙ coming-append w t B (C ++ (D ++ E))
    ∙ ap (λ (got : List Arrival). got ++ coming w (of_time t (C ++ (D ++ E)))) (quiet-interval w t node (begun_length n (effect_at w s m)) (node_after w n m).timer)
    ∙ coming-append w t C (D ++ E)
    ∙ ap (λ (got : List Arrival). coming w (of_time t C) ++ got)
    (coming-append w t D E
    ∙ ap (λ (got : List Arrival). got ++ coming w (of_time t E)) (quiet-pump w t node m.time (not (still_pumps m.cause (effect_at w s m) n) && is_owing w (node_after w n m).exchange))
    ∙ quiet-answers w t node m.time (node_after w n m).reading n.called m.told)
    ∙ append-nil (coming w (of_time t C))
    ∙ packets-brought w (stamp_of m before) t node (sendings w s node (packets_of w s m))

-- ---- what an event's records say arrived

either-none : (b : Bool) → ◌≡◌ {A = List Arrival} (if b then [] else []) []
either-none true = refl
either-none false = refl

abbrev delivered_by : World → Cause → List Arrival
delivered_by w c = cons_option (on_its_way w c) []

line-arrives : (at : Stamp) (t node : ℕ) (x : Want) → arrivals_at t (map (stamped at node) (of_line x).first) ≡ []
line-arrives at t node (Inject p) = refl
line-arrives at t node _ = refl

planned-arrives : (at : Stamp) (t node : ℕ) (o : Option PlannedLine) → arrivals_at t (map (stamped at node) (option_map_or (λ (l : PlannedLine). of_line l.what) o no_effect).first) ≡ []
planned-arrives at t node None = refl
planned-arrives at t node (Some l) = line-arrives at t node l.what

point-arrives : (w : World) (n : Node) (at : Stamp) (t node : ℕ) (o : Fire) → arrivals_at t (map (stamped at node) (of_point w n o).first) ≡ []
point-arrives w n at t node fire.Send = refl
point-arrives w n at t node fire.Keep = refl

slot-arrives : (hs : List Happening) (at : Stamp) (t node : ℕ) (o : Option ℕ) → arrivals_at t (map (stamped at node) (of_slot hs o).first) ≡ []
slot-arrives hs at t node None = refl
slot-arrives hs at t node (Some slot) = refl

head-arrives : (w : World) (n : Node) (at : Stamp) (t : ℕ) (c : Cause) → arrivals_at t (map (stamped at (event_node w c)) (node_effect w n c).first) ≡ (if at.time == t then delivered_by w c else [])
head-arrives w n at t (event.Planned line) = planned-arrives at t (event_node w (event.Planned line)) (slice_get w.plan line) ∙ sym (either-none (at.time == t))
head-arrives w n at t (event.Fire node) = point-arrives w n at t node (trickle.at_point n.timer.set n.timer.running w.suppress) ∙ sym (either-none (at.time == t))
head-arrives w n at t (event.Pump node) = slot-arrives n.exchange at t node (next_slot (handlers w) n.exchange) ∙ sym (either-none (at.time == t))
head-arrives w n at t (event.Deliver link number packet) = by (at.time == t) where
  by : (b : Bool) → cons_option {X = Arrival} (if b then Some (record { to = receiver w link; number = number; from = sender w link }) else None) [] ≡ (if b then record { to = receiver w link; number = number; from = sender w link } ∷ [] else [])
  by true = refl
  by false = refl
head-arrives w n at t _ = sym (either-none (at.time == t))

interval-arrives : (at : Stamp) (t node : ℕ) (o : Option ℕ) → arrivals_at t (map (stamped at node) (interval_air o)) ≡ []
interval-arrives at t node None = refl
interval-arrives at t node (Some l) = refl

losses-arrive : (w : World) (t : ℕ) (x : Transmission) (js : List ℕ) (rest : List Aired) → arrivals_at t (map (λ j. stamped x.at x.node (air.Lost x.number (receiver w j))) js ++ rest) ≡ arrivals_at t rest
losses-arrive w t x [] rest = refl
losses-arrive w t x (j ∷ js) rest = losses-arrive w t x js rest

decided-arrive : (w : World) (t : ℕ) (xs : List Transmission) → arrivals_at t (flat_map (decided w) xs) ≡ []
decided-arrive w t [] = refl
decided-arrive w t (x ∷ xs) = losses-arrive w t x (losing_links w x) (flat_map (decided w) xs) ∙ decided-arrive w t xs

event-arrives : (w : World) (m : Moment) (before : List Moment) (t : ℕ)
    → arrivals_at t (map (stamped (stamp_of m before) (event_node w m.cause)) (air_made w (state w before) m)) ≡ (if m.time == t then delivered_by w m.cause else [])
event-arrives w m before t =
    let s : WorldState = state w before in
    let at : Stamp = stamp_of m before in
    let node : ℕ = event_node w m.cause in
    let first : List Aired = map (stamped at node) (effect_at w s m).first in
    let begins : List Aired = map (stamped at node) (interval_air (begun_length (node_at w s m) (effect_at w s m))) in
    let sends : List Aired = map (stamped at node) (sendings_air w s m) in
    ap (arrivals_at t) (parts w s m at node)
    ∙ filter_map-append (arrival_at t) (first ++ begins) sends
    ∙ ap (λ (got : List Arrival). got ++ arrivals_at t sends) (filter_map-append (arrival_at t) first begins)
    ∙ ap (λ (got : List Arrival). (arrivals_at t first ++ arrivals_at t begins) ++ got) (ap (arrivals_at t) (sendings-decided w at node (sendings w s node (packets_of w s m))) ∙ decided-arrive w t (told_by w m before))
    ∙ append-nil (arrivals_at t first ++ arrivals_at t begins)
    ∙ ap (λ (got : List Arrival). arrivals_at t first ++ got) (interval-arrives at t node (begun_length (node_at w s m) (effect_at w s m)))
    ∙ append-nil (arrivals_at t first)
    ∙ head-arrives w (node_at w s m) at t m.cause

-- ---- along a run

-- what arrives in the event is what comes first at its time, and the rest is still on its way
first-arrives : (w : World) (s : WorldState) (m : Moment) (t : ℕ) → IsNext s m.time m.cause → (if m.time == t then delivered_by w m.cause else []) ++ coming w (left_due w s m t) ≡ coming w (s.due t)
first-arrives w s m t next =
    ap (λ (got : List Arrival). (if m.time == t then delivered_by w m.cause else []) ++ got) (coming-kept w (event_node w m.cause) (effect_at w s m) (is_some_length (begun_length (node_at w s m) (effect_at w s m))) (if t == m.time then drop 1 (s.due t) else s.due t))
    ∙ elim (eqb_tells m.time t) [
      | inl same ↦ ap (λ (b : Bool). (if b then delivered_by w m.cause else []) ++ coming w (if t == m.time then drop 1 (s.due t) else s.due t)) same.0 ∙ now same.1
      | inr other ↦ ap (λ (b : Bool). (if b then delivered_by w m.cause else []) ++ coming w (if t == m.time then drop 1 (s.due t) else s.due t)) other.0
          ∙ ap (λ (b : Bool). coming w (if b then drop 1 (s.due t) else s.due t)) (not_now other.1)
    ] where
      joined : (o : Option Arrival) (xs : List Arrival) → cons_option o [] ++ xs ≡ cons_option o xs
      joined None xs = refl
      joined (Some a) xs = refl

      not_now : (m.time ≡ t → ⊥) → (t == m.time) ≡ false
      not_now other = elim (eqb_tells t m.time) [ inl same ↦ absurd (other (sym same.1)) | inr apart ↦ apart.0 ]

      just_now : m.time ≡ t → (t == m.time) ≡ true
      just_now same = elim (eqb_tells t m.time) [ inl here ↦ here.0 | inr other ↦ absurd (other.1 (sym same)) ]

      now : m.time ≡ t → delivered_by w m.cause ++ coming w (if t == m.time then drop 1 (s.due t) else s.due t) ≡ coming w (s.due t)
      now same =
          let due_is : s.due t ≡ m.cause ∷ next.others = ap s.due (sym same) ∙ next.due in
          ap (λ (b : Bool). delivered_by w m.cause ++ coming w (if b then drop 1 (s.due t) else s.due t)) (just_now same)
          ∙ ap (λ (cs : List Cause). delivered_by w m.cause ++ coming w (drop 1 cs)) due_is
          ∙ joined (on_its_way w m.cause) (coming w next.others)
          ∙ ap (coming w) (sym due_is)

start-arrives : (w : World) (t : ℕ) (ks : List ℕ) → arrivals_at t (map (λ k. stamped (record { event = 0; time = 0 }) k (air.Interval w.description.trickle.imin)) ks) ≡ []
start-arrives w t [] = refl
start-arrives w t (k ∷ ks) = start-arrives w t ks

lines-quiet : (w : World) (t n : ℕ) (ls : List PlannedLine) → coming w (of_time t (lines_from n ls)) ≡ []
lines-quiet w t n [] = refl
lines-quiet w t n (l ∷ ls) = quiet-one w t (record { time = l.time; cause = event.Planned n }) (lines_from (suc n) ls) refl ∙ lines-quiet w t (suc n) ls

-- the first periods of a node
abbrev periods_of : World → ℕ → List ℕ → List Scheduled
periods_of w node hs = filter_map (λ h. option_map_or (λ p. Some (record { time = p; cause = event.Period node (record { 0 = h }) })) (period_of w h) None) hs

periods-quiet : (w : World) (t node : ℕ) (hs : List ℕ) → coming w (of_time t (periods_of w node hs)) ≡ []
periods-quiet w t node [] = refl
periods-quiet w t node (h ∷ hs) = by (period_of w h) (periods-quiet w t node hs) where
  by : (o : Option ℕ) → coming w (of_time t (periods_of w node hs)) ≡ []
      → coming w (of_time t (cons_option (option_map_or (λ p. Some (record { time = p; cause = event.Period node (record { 0 = h }) })) o None) (periods_of w node hs))) ≡ []
  by None none = none
  by (Some p) none = quiet-one w t (record { time = p; cause = event.Period node (record { 0 = h }) }) (periods_of w node hs) refl ∙ none

nodes-quiet : (w : World) (t : ℕ) (ks : List ℕ) → coming w (of_time t (flat_map (first_of w) ks)) ≡ []
nodes-quiet w t [] = refl
nodes-quiet w t (k ∷ ks) =
    coming-append w t (first_of w k) (flat_map (first_of w) ks)
    ∙ ap (λ (got : List Arrival). got ++ coming w (of_time t (flat_map (first_of w) ks)))
    (coming-append w t (of_interval k (start_node w k).timer) (periods_of w k (range_with_len 0 (handlers w)))
    ∙ ap (λ (got : List Arrival). got ++ coming w (of_time t (periods_of w k (range_with_len 0 (handlers w))))) (quiet-of_interval w t k (start_node w k).timer)
    ∙ periods-quiet w t k (range_with_len 0 (handlers w)))
    ∙ nodes-quiet w t ks

start-quiet : (w : World) (t : ℕ) → coming w ((world_start w).due t) ≡ []
start-quiet w t =
    coming-append w t (lines_from 0 w.plan) (flat_map (first_of w) (range_with_len 0 w.nodes))
    ∙ ap (λ (got : List Arrival). got ++ coming w (of_time t (flat_map (first_of w) (range_with_len 0 w.nodes)))) (lines-quiet w t 0 w.plan)
    ∙ nodes-quiet w t (range_with_len 0 w.nodes)

regroup : (a b c d : List Arrival) → (a ++ b) ++ (c ++ d) ≡ (a ++ (b ++ c)) ++ d
regroup a b c d = simp append_assoc

pub all_come : (w : World) (ms : List Moment) (t : ℕ) → HaveCome w ms → arrivals_at t (airs w ms) ++ coming w ((state w ms).due t) ≡ flat_map (brings_at w t) (transmissions (airs w ms))
all_come w [] t come =
    ap (λ (got : List Arrival). got ++ coming w ((world_start w).due t)) (start-arrives w t (range_with_len 0 w.nodes))
    ∙ start-quiet w t
    ∙ ap (flat_map (brings_at w t)) (sym (transmissions-start w))
all_come w (m ∷ before) t come =
    let s : WorldState = state w before in
    let records : List Aired = map (stamped (stamp_of m before) (event_node w m.cause)) (air_made w s m) in
    let old : List Arrival = arrivals_at t (airs w before) in
    let now : List Arrival = (if m.time == t then delivered_by w m.cause else []) in
    let left : List Arrival = coming w (left_due w s m t) in
    let new : List Arrival = coming w (of_time t (schedules w s m)) in
    ap (λ (got : List Arrival). got ++ coming w ((state w (m ∷ before)).due t)) (filter_map-append (arrival_at t) (airs w before) records)
    ∙ ap (λ (got : List Arrival). (old ++ got) ++ coming w ((state w (m ∷ before)).due t)) (event-arrives w m before t)
    ∙ ap (λ (got : List Arrival). (old ++ now) ++ got) (filter_map-append (on_its_way w) (left_due w s m t) (of_time t (schedules w s m)))
    ∙ regroup old now left new
    ∙ ap (λ (got : List Arrival). (old ++ got) ++ new) (first-arrives w s m t come.1.next)
    ∙ ap (λ (got : List Arrival). got ++ new) (all_come w before t come.0)
    ∙ ap (λ (got : List Arrival). flat_map (brings_at w t) (transmissions (airs w before)) ++ got) (put-on-its-way w m before t)
    ∙ sym (flat_map-append (brings_at w t) (transmissions (airs w before)) (told_by w m before))
    ∙ ap (flat_map (brings_at w t)) (sym (transmissions-event w m before))

pub packets_arrive_once : (w : World) → PacketsArriveOnce w
packets_arrive_once w ms t come = record {
  due = coming w ((state w ms).due t);
  all = all_come w ms t come;
  none_due = λ done. ap (coming w) (done t (let same : t ≤ t = omega arith in same));
}

-- ---- the time that a run reached

pub reached_is_done : (w : World) → ReachedIsDone w
reached_is_done w how ms t come at_end (inl reached) u low =
    (subst (λ (h : RunEnd). IsAtEnd w h (state w ms)) reached.0 at_end) u (let within = reached.1 in omega (arith, low, within))
reached_is_done w how [] t come at_end (inr past) u low = absurd (omega (arith, past))
reached_is_done w how (m ∷ before) t come at_end (inr past) u low = (past-step w (state w before) m come.1.next).none u (omega (arith, past, low))
