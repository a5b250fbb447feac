use Rattle.std.proofs.Common.{◌≡◌, ◌<◌, ◌≤◌, ℕ}
use Rattle.std.specs.Prelude.{slice_index}
use Rattle.capsule_exchange.specs.Steps.{aimed, state_at}
use Rattle.capsule_exchange.proofs.handlers.aim_each.Given as goal

abbrev pub invariant-loop-h : goal.invariant-loop-h
invariant-loop-h l = record {
  done : (k : ℕ) → k < l.h → state_at l.states k ≡ aimed (slice_index l.versions k) (state_at l.fn.states k);
  left : (k : ℕ) → l.h ≤ k → state_at l.states k ≡ state_at l.fn.states k;
}
