-- Along the air events don't fall, nor nodes within an event.
use Rattle.std.proofs.Common.{ℕ, zero, suc, ◌+◌, ◌<◌, ◌≤◌, List, [], ◌∷◌, ◌++◌, map, length, ap, arith, inl, inr}
use Rattle.std.specs.Prelude.{All}
use Rattle.std.specs.List.{range_with_len}
use Rattle.std.proofs.lemmas.List.Elements.{All-nil, All-cons, All-head, All-tail, All-weaker}
use Rattle.mate_num.specs.declared.call.Stamp.{Stamp}
use Rattle.mate_journal.specs.Tidy.{EventsRise}
use Rattle.journal_laws.proofs.Append.{start}
use Rattle.mate_journal.specs.declared.air.Air.{Air}
use Rattle.mate_journal.specs.declared.air.Air.TheVariants as air
use Rattle.mate_journal.specs.declared.air.Aired.{Aired}
use Rattle.report_writer.specs.Progress.{air_event}
use Rattle.report_writer.specs.Tidy.{AirNodesRise}
use Rattle.world_rules.specs.World.{World}
use Rattle.world_rules.specs.Effect.{event_node}
use Rattle.world_rules.specs.State.{Moment, air_made, state}
use Rattle.world_rules.specs.Run.{HaveCome, stamp_of, airs}
use Rattle.world_run_laws.proofs.Stamps.{event-high}
use Rattle.world_run_laws.proofs.AirRecords.{HasAirInRange, IsAirOfRun, airs-of-run}

-- ---- events

-- no event is above this one
abbrev AreUpTo : ℕ → List Aired → Type 0
AreUpTo high xs = All (λ (a : Aired). a.stamp.event ≤ high) xs

rise-append : (low high : ℕ) (xs ys : List Aired) → low ≤ high → EventsRise air_event low xs → AreUpTo high xs → ((l : ℕ) → l ≤ high → EventsRise air_event l ys) → EventsRise air_event low (xs ++ ys)
rise-append low high [] ys le rise upto rest = rest low le
rise-append low high (a ∷ xs) ys le rise upto rest =
    (rise.0, rise-append a.stamp.event high xs ys (All-head (λ (a : Aired). a.stamp.event ≤ high) a xs upto) rise.1 (All-tail (λ (a : Aired). a.stamp.event ≤ high) a xs upto) rest)

rise-same : (low : ℕ) (at : Stamp) (node : ℕ) (xs : List Air) → low ≤ at.event → EventsRise air_event low (map (λ (a : Air). record { stamp = at; node = node; air = a }) xs)
rise-same low at node [] le = tt
rise-same low at node (a ∷ xs) le = (le, rise-same at.event at node xs (omega arith))

rise-start : (l first n : ℕ) → EventsRise air_event 0 (map (λ k. record { stamp = start; node = k; air = air.Interval l }) (range_with_len first n))
rise-start l first zero = tt
rise-start l first (suc n) = (omega arith, rise-start l (first + 1) n)

airs-upto : (w : World) (ms : List Moment) → HasAirInRange w → HaveCome w ms → AreUpTo (length ms) (airs w ms)
airs-upto w ms fit come = All-weaker (IsAirOfRun w ms) (λ (a : Aired). a.stamp.event ≤ length ms) upto (airs w ms) (airs-of-run w ms fit come) where
  upto : (a : Aired) → IsAirOfRun w ms a → a.stamp.event ≤ length ms
  upto a is = elim is.came [
    | inl e ↦ (let number = ap (λ (s : Stamp). s.event) e in omega (arith, number))
    | inr h ↦ event-high w ms a.stamp a.node h
  ]

pub airs-rise : (w : World) (ms : List Moment) → HasAirInRange w → HaveCome w ms → EventsRise air_event 0 (airs w ms)
airs-rise w [] fit come = rise-start w.description.trickle.imin 0 w.nodes
airs-rise w (m ∷ before) fit come =
    rise-append 0 (length before) (airs w before) _ (omega arith) (airs-rise w before fit come.0) (airs-upto w before fit come.0)
    (λ l le. rise-same l (stamp_of m before) (event_node w m.cause) (air_made w (state w before) m) (omega (arith, le)))

-- ---- nodes

nodes-append : (high : ℕ) (xs ys : List Aired) → AirNodesRise xs → AreUpTo high xs → AirNodesRise ys → All (λ (b : Aired). high < b.stamp.event) ys → AirNodesRise (xs ++ ys)
nodes-append high [] ys rise upto rest above = rest
nodes-append high (a ∷ []) [] rise upto rest above = tt
nodes-append high (a ∷ []) (b ∷ ys) rise upto rest above =
    let low = All-head (λ (a : Aired). a.stamp.event ≤ high) a [] upto in
    let over = All-head (λ (b : Aired). high < b.stamp.event) b ys above in
    (λ same. absurd (omega (arith, same, low, over)), rest)
nodes-append high (a ∷ (c ∷ xs)) ys rise upto rest above =
    (rise.0, nodes-append high (c ∷ xs) ys rise.1 (All-tail (λ (a : Aired). a.stamp.event ≤ high) a (c ∷ xs) upto) rest above)

nodes-same : (at : Stamp) (node : ℕ) (xs : List Air) → AirNodesRise (map (λ (a : Air). record { stamp = at; node = node; air = a }) xs)
nodes-same at node [] = tt
nodes-same at node (a ∷ []) = tt
nodes-same at node (a ∷ (b ∷ xs)) = (λ same. omega arith, nodes-same at node (b ∷ xs))

nodes-start : (l first n : ℕ) → AirNodesRise (map (λ k. record { stamp = start; node = k; air = air.Interval l }) (range_with_len first n))
nodes-start l first zero = tt
nodes-start l first (suc zero) = tt
nodes-start l first (suc (suc n)) = (λ same. omega arith, nodes-start l (first + 1) (suc n))

airs-above : (w : World) (m : Moment) (before : List Moment) (xs : List Air)
    → All (λ (b : Aired). length before < b.stamp.event) (map (λ (a : Air). record { stamp = stamp_of m before; node = event_node w m.cause; air = a }) xs)
airs-above w m before [] = All-nil (λ (b : Aired). length before < b.stamp.event)
airs-above w m before (a ∷ xs) =
    All-cons (λ (b : Aired). length before < b.stamp.event) (record { stamp = stamp_of m before; node = event_node w m.cause; air = a }) _ (omega arith) (airs-above w m before xs)

pub airs-nodes : (w : World) (ms : List Moment) → HasAirInRange w → HaveCome w ms → AirNodesRise (airs w ms)
airs-nodes w [] fit come = nodes-start w.description.trickle.imin 0 w.nodes
airs-nodes w (m ∷ before) fit come =
    nodes-append (length before) (airs w before) _ (airs-nodes w before fit come.0) (airs-upto w before fit come.0)
    (nodes-same (stamp_of m before) (event_node w m.cause) (air_made w (state w before) m)) (airs-above w m before (air_made w (state w before) m))
