-- Nobody is at a place more.
use Rattle.std.proofs.Common.{List, Option, [], ◌∷◌, None, length, length-append, ap, ◌∙◌, arith}
use Rattle.node_state.specs.declared.seat.Seat.{Seat}
use Rattle.node_state.specs.Seats.{places_upto}
use Rattle.node_state.proofs.SeatLemmas.{seats-longer}
use Rattle.node_state.proofs.seats.reach.Goals as goal

pub loop-places-preserved : goal.loop-places-preserved
loop-places-preserved c =
    let old = c.loop-places.places.items in
    let new = c.push_reserved.new.self.items in
    let more = c.push_reserved.ensures.items in
    let before = c.loop-places.invariant in
    let longer = ap (λ (l : List (Option Seat)). length l) more ∙ length-append old (None ∷ []) in
    let few = before.few in
    let len = c.len.ensures in
    let size = c.loop-places.places.ok.0 in
    let below = c.loop-places-test.true in
    record {
      same = λ n. ap (λ (l : List (Option Seat)). places_upto n l) more ∙ seats-longer n old ∙ before.same n;
      few = omega (arith, longer, few, len, size, below);
      capacity = c.push_reserved.ensures.capacity ∙ before.capacity;
    }
