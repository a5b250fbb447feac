-- The invocation is at one of the first places, and is changed there.
use Rattle.std.proofs.Common.{List, Option, None, Some, length, length-set, set, refl, sym, ap, ◌∙◌, arith}
use Rattle.std.proofs.lemmas.List.{get_or_read_under}
use Rattle.std.specs.Prelude.{vec_capacity}
use Rattle.node_state.specs.declared.seat.Seat.{Seat}
use Rattle.node_state.proofs.SeatLemmas.{among-first, seats-set}
use Rattle.node_state.proofs.seats.Seats.at_mut.Goals as goal

pub index_mut-requires : goal.index_mut-requires
index_mut-requires c =
    let places = c.self.inside.places in
    let first = among-first (vec_capacity places) places.items c.args.self.now c.args.place c.self.view_is c.self.invariant.within c.requires in
    let below = first.below in
    let size = places.ok.0 in
    omega (arith, below, size)

pub seat_in-requires : goal.seat_in-requires
seat_in-requires c =
    let places = c.self.inside.places in
    let first = among-first (vec_capacity places) places.items c.args.self.now c.args.place c.self.view_is c.self.invariant.within c.requires in
    let there = get_or_read_under places.items c.args.place (length places.items) c.index_mut.result.now None c.index_mut.ensures.value first.below refl in
    rw (← there) at first.some

pub invariant_of-self-lent : goal.invariant_of-self-lent
invariant_of-self-lent c w =
    let within = c.self.invariant.within in
    let long = length-set c.self.inside.places.items c.args.place (Some w) in
    record { within = omega (arith, within, long); few = c.self.invariant.few }

pub returns : goal.returns
returns c =
    let places = c.self.inside.places in
    let first = among-first (vec_capacity places) places.items c.args.self.now c.args.place c.self.view_is c.self.invariant.within c.requires in
    let there = get_or_read_under places.items c.args.place (length places.items) c.index_mut.result.now None c.index_mut.ensures.value first.below refl in (
      (refl, λ w. seats-set (vec_capacity places) places.items c.args.place (Some w) first.below ∙ ap (λ (l : List (Option Seat)). set l c.args.place (Some w)) c.self.view_is),
      record { writes_back = tt; seat = first.same ∙ sym there ∙ c.seat_in.ensures.seat },
    )
