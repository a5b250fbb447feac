use Rattle.std.proofs.Common.{◌≡◌, length, map}
use Rattle.std.specs.List.{range_with_len}
use Rattle.capsule_exchange.specs.Images.{blank_image}
use Rattle.capsule_exchange.proofs.stored_exchange.StoredExchange.new.Given as goal

abbrev pub invariant-loop : goal.invariant-loop
invariant-loop l = record {
  so_far : l.images.items ≡ map (λ _. blank_image) (range_with_len 0 l.counter);
  few : length l.images.items ≡ l.counter;
}
