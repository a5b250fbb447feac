-- The first places are in memory, and nobody is at the others.
use Rattle.std.proofs.Common.{List, Option, None, get_or, sym, ap, ◌∙◌}
use Rattle.std.specs.Prelude.{vec_capacity}
use Rattle.node_state.specs.declared.seat.Seat.{Seat}
use Rattle.node_state.proofs.SeatLemmas.{seats-at}
use Rattle.node_state.proofs.seats.Seats.get.Goals as goal

pub returns : goal.returns
returns c =
    c.seat_at.ensures
    ∙ sym (seats-at (vec_capacity c.self.inside.places) c.self.inside.places.items c.args.place c.self.invariant.within)
    ∙ ap (λ (l : List (Option Seat)). get_or l c.args.place None) c.self.view_is
