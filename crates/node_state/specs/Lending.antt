-- What the seats end as, where an invocation is changed in its place.
use Rattle.std.specs.Prelude.{ℕ, List, Option, Some, slice_set}
use Rattle.std.specs.Borrow.{Lends, Fml, MutBor}
use Rattle.std.specs.contracts.option.Option.{the_row as option_row}
use Rattle.node_state.specs.declared.seat.Seat.{Seat}
use Rattle.node_state.specs.contracts.seat.Seat.{the_row as seat_row}
use Rattle.node_state.specs.contracts.seats.Seats.{the_row as seats_row}

-- the place has the last invocation that is written through the borrow
abbrev pub lends_seat : MutBor (List (Option Seat)) → ℕ → MutBor Seat → Fml
lends_seat s place r = Lends seats_row seat_row s r (λ seat. slice_set s.now place (Some seat))

abbrev pub lends_seat_in : MutBor (Option Seat) → MutBor Seat → Fml
lends_seat_in place r = Lends (option_row seat_row) seat_row place r Some
