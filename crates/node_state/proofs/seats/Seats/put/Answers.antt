-- The place is there, and has the invocation.
use Rattle.std.proofs.Common.{ℕ, List, Option, Some, length, length-set, set, ap, ◌∙◌, arith}
use Rattle.std.specs.Prelude.{vec_capacity}
use Rattle.node_state.specs.declared.seat.Seat.{Seat}
use Rattle.node_state.specs.Seats.{places_upto}
use Rattle.node_state.proofs.SeatLemmas.{seats-count, seats-set}
use Rattle.node_state.proofs.seats.Seats.put.Goals as goal

pub reach-requires : goal.reach-requires
reach-requires c =
    let count = seats-count (vec_capacity c.self.inside.places) c.self.inside.places.items in
    let same = ap (λ (l : List (Option Seat)). length l) c.self.view_is in
    let below = c.requires in
    omega (arith, count, same, below)

pub invariant_of-self : goal.invariant_of-self
invariant_of-self c =
    let count = seats-count (vec_capacity c.self.inside.places) c.self.inside.places.items in
    let same = ap (λ (l : List (Option Seat)). length l) c.self.view_is in
    let below = c.requires in
    let few = c.reach.ensures.few in
    let within = c.self.invariant.within in
    let room = c.self.invariant.few in
    let capacity = c.reach.ensures.capacity in
    let long = length-set c.reach.new.places.items c.args.place (Some c.args.seat) in
    record { within = omega (arith, count, same, below, few, within, capacity, long); few = omega (arith, room, capacity) }

pub returns : goal.returns
returns c =
    let n = vec_capacity c.self.inside.places in
    let put : List (Option Seat) = set c.reach.new.places.items c.args.place (Some c.args.seat) in
    let reached = c.reach.ensures.reached in
    ap (λ (k : ℕ). places_upto k put) c.reach.ensures.capacity
    ∙ seats-set n c.reach.new.places.items c.args.place (Some c.args.seat) (omega (arith, reached))
    ∙ ap (λ (l : List (Option Seat)). set l c.args.place (Some c.args.seat)) (c.reach.ensures.same n ∙ c.self.view_is)

pub overflow_add-place : goal.overflow_add-place
overflow_add-place c =
    let count = seats-count (vec_capacity c.self.inside.places) c.self.inside.places.items in
    let same = ap (λ (l : List (Option Seat)). length l) c.self.view_is in
    let below = c.requires in
    let few = c.self.invariant.few in
    omega (arith, count, same, below, few)
