use Rattle.std.proofs.Common.{◌≡◌, ◌≤◌, ◌-◌, length}
use Rattle.std.specs.Prelude.{max, vec_capacity, vec_len}
use Rattle.node_state.specs.Seats.{HaveSameSeats}
use Rattle.node_state.proofs.seats.reach.Given as goal

abbrev pub invariant-loop-places : goal.invariant-loop-places
invariant-loop-places l = record {
  same : HaveSameSeats l.initial.places.items l.places.items;
  few : length l.places.items ≤ max l.count (length l.initial.places.items);
  capacity : vec_capacity l.places ≡ vec_capacity l.initial.places;
}

abbrev pub decreases-loop-places : goal.decreases-loop-places
decreases-loop-places l = l.count - vec_len l.places
