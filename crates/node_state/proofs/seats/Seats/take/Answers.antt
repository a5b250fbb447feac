-- The first places are in memory, and nobody is at the others.
use Rattle.std.proofs.Common.{ℕ, List, Option, None, length, length-set, get_or, set, sym, ap, ◌∙◌, arith}
use Rattle.std.specs.Prelude.{vec_capacity}
use Rattle.node_state.specs.declared.seat.Seat.{Seat}
use Rattle.node_state.specs.Seats.{places_upto}
use Rattle.node_state.proofs.SeatLemmas.{seats-at, seats-leave}
use Rattle.node_state.proofs.seats.Seats.take.Goals as goal

pub invariant_of-self : goal.invariant_of-self
invariant_of-self c =
    let within = c.self.invariant.within in
    let room = c.self.invariant.few in
    let capacity = c.take_at.ensures.capacity in
    let long = ap (λ (l : List (Option Seat)). length l) c.take_at.ensures.rest ∙ length-set c.self.inside.places.items c.args.place None in
    record { within = omega (arith, within, capacity, long); few = omega (arith, room, capacity) }

pub returns-clause-seat : goal.returns-clause-seat
returns-clause-seat c =
    c.take_at.ensures.seat
    ∙ sym (seats-at (vec_capacity c.self.inside.places) c.self.inside.places.items c.args.place c.self.invariant.within)
    ∙ ap (λ (l : List (Option Seat)). get_or l c.args.place None) c.self.view_is

pub returns-clause-rest : goal.returns-clause-rest
returns-clause-rest c =
    let n = vec_capacity c.self.inside.places in
    ap (λ (k : ℕ). places_upto k c.take_at.new.places.items) c.take_at.ensures.capacity
    ∙ ap (λ (l : List (Option Seat)). places_upto n l) c.take_at.ensures.rest
    ∙ seats-leave n c.self.inside.places.items c.args.place c.self.invariant.within
    ∙ ap (λ (l : List (Option Seat)). set l c.args.place None) c.self.view_is
