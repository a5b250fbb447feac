use Rattle.std.proofs.Common.{ℕ, ◌<◌}
use Rattle.capsule_exchange.specs.Marks.{HasNoMark}
use Rattle.capsule_exchange.specs.Steps.{state_at}
use Rattle.capsule_exchange.proofs.handlers.any_marked.Given as goal

abbrev pub invariant-loop-h : goal.invariant-loop-h
invariant-loop-h l = (h : ℕ) → h < l.h → HasNoMark (state_at l.states h).marks
