use Rattle.std.proofs.Common.{◌≡◌, [], length, map}
use Rattle.std.specs.List.{range_with_len}
use Rattle.capsule_exchange.specs.Knowledge.{state_after}
use Rattle.capsule_exchange.proofs.progress.Progress.new.Given as goal

abbrev pub invariant-loop : goal.invariant-loop
invariant-loop l = record {
  so_far : l.states.items ≡ map (state_after []) (range_with_len 0 l.counter);
  few : length l.states.items ≡ l.counter;
}
