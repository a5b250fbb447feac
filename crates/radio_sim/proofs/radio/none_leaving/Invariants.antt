use Rattle.std.specs.Prelude.{◌≡◌, ℕ, [], length, slice_index_or}
use Rattle.radio_sim.proofs.radio.none_leaving.Given as goal

abbrev pub invariant-loop : goal.invariant-loop
invariant-loop l = record {
  nodes : length l.wires.items ≡ l.counter;
  empty : (node : ℕ) → slice_index_or l.wires.items node [] ≡ [];
}
