use Rattle.std.proofs.Common.{◌≡◌, ◌≤◌, length}
use Rattle.capsule_exchange.specs.Steps.{asks_upto}
use Rattle.capsule_exchange.proofs.handlers.ask_each.Given as goal

abbrev pub invariant-loop-h : goal.invariant-loop-h
invariant-loop-h l = record {
  so_far : l.asks.items ≡ asks_upto l.versions l.states l.h;
  few : length l.asks.items ≤ l.h;
}
