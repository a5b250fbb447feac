-- When the events of a run came, and where.
use Rattle.std.proofs.Common.{◌≡◌, ℕ, ◌≤◌, List, [], ◌∷◌, length, sym, ◌∙◌, ap, arith, inl, inr, ◌⊎◌}
use Rattle.mate_num.specs.declared.call.Stamp.{Stamp}
use Rattle.world_rules.specs.World.{World}
use Rattle.world_rules.specs.Effect.{event_node}
use Rattle.world_rules.specs.State.{Moment, state}
use Rattle.world_rules.specs.Run.{HaveCome, stamp_of}
use Rattle.world_laws.specs.Times.{last_time}
use Rattle.world_laws.proofs.Premises.{right_set}
use Rattle.world_laws.proofs.Points.{last-before, run-timed}

-- the stamp and the node are those of one of the events
abbrev pub IsOfEvent : World → List Moment → Stamp → ℕ → Type 0
IsOfEvent w [] at node = ⊥
IsOfEvent w (m ∷ before) at node = ((at ≡ stamp_of m before) × (node ≡ event_node w m.cause)) ⊎ IsOfEvent w before at node

pub event-low : (w : World) (ms : List Moment) (at : Stamp) (node : ℕ) → IsOfEvent w ms at node → 1 ≤ at.event
event-low w [] at node h = absurd h
event-low w (m ∷ before) at node (inl e) = let number = ap (λ (s : Stamp). s.event) e.0 in omega (arith, number)
event-low w (m ∷ before) at node (inr h) = event-low w before at node h

pub event-high : (w : World) (ms : List Moment) (at : Stamp) (node : ℕ) → IsOfEvent w ms at node → at.event ≤ length ms
event-high w [] at node h = absurd h
event-high w (m ∷ before) at node (inl e) = let number = ap (λ (s : Stamp). s.event) e.0 in omega (arith, number)
event-high w (m ∷ before) at node (inr h) = let high = event-high w before at node h in omega (arith, high)

-- ---- times don't fall

later-last : (w : World) (m : Moment) (before : List Moment) → 1 ≤ w.nodes → HaveCome w (m ∷ before) → last_time before ≤ m.time
later-last w m before some come = last-before (state w before) (last_time before) m.time m.cause (run-timed w 0 before (right_set w.description) (omega (arith, some)) come.0).1 come.1.next

pub event-time : (w : World) (ms : List Moment) (at : Stamp) (node : ℕ) → 1 ≤ w.nodes → HaveCome w ms → IsOfEvent w ms at node → at.time ≤ last_time ms
event-time w [] at node some come h = absurd h
event-time w (m ∷ before) at node some come (inl e) = let time = ap (λ (s : Stamp). s.time) e.0 in omega (arith, time)
event-time w (m ∷ before) at node some come (inr h) =
    let earlier = event-time w before at node some come.0 h in
    let later = later-last w m before some come in omega (arith, earlier, later)

pub event-in_time : (w : World) (ms : List Moment) (at : Stamp) (node : ℕ) → HaveCome w ms → IsOfEvent w ms at node → at.time ≤ w.until
event-in_time w [] at node come h = absurd h
event-in_time w (m ∷ before) at node come (inl e) = let time = ap (λ (s : Stamp). s.time) e.0 in let within = come.1.in_time in omega (arith, time, within)
event-in_time w (m ∷ before) at node come (inr h) = event-in_time w before at node come.0 h

-- of two events the later one isn't earlier in time, and one event is of one node
pub events-rise : (w : World) (ms : List Moment) (a b : Stamp) (k l : ℕ) → 1 ≤ w.nodes → HaveCome w ms → IsOfEvent w ms a k → IsOfEvent w ms b l → a.event ≤ b.event → a.time ≤ b.time
events-rise w [] a b k l some come p q order = absurd p
events-rise w (m ∷ before) a b k l some come (inl p) (inl q) order =
    let same = ap (λ (s : Stamp). s.time) (p.0 ∙ sym q.0) in omega (arith, same)
events-rise w (m ∷ before) a b k l some come (inl p) (inr q) order =
    let number = ap (λ (s : Stamp). s.event) p.0 in
    let high = event-high w before b l q in absurd (omega (arith, number, high, order))
events-rise w (m ∷ before) a b k l some come (inr p) (inl q) order =
    let earlier = event-time w before a k some come.0 p in
    let later = later-last w m before some come in
    let time = ap (λ (s : Stamp). s.time) q.0 in omega (arith, earlier, later, time)
events-rise w (m ∷ before) a b k l some come (inr p) (inr q) order = events-rise w before a b k l some come.0 p q order

pub one-place : (w : World) (ms : List Moment) (a b : Stamp) (k l : ℕ) → IsOfEvent w ms a k → IsOfEvent w ms b l → a.event ≡ b.event → k ≡ l
one-place w [] a b k l p q same = absurd p
one-place w (m ∷ before) a b k l (inl p) (inl q) same = p.1 ∙ sym q.1
one-place w (m ∷ before) a b k l (inl p) (inr q) same =
    let number = ap (λ (s : Stamp). s.event) p.0 in
    let high = event-high w before b l q in absurd (omega (arith, number, high, same))
one-place w (m ∷ before) a b k l (inr p) (inl q) same =
    let number = ap (λ (s : Stamp). s.event) q.0 in
    let high = event-high w before a k p in absurd (omega (arith, number, high, same))
one-place w (m ∷ before) a b k l (inr p) (inr q) same = one-place w before a b k l p q same
