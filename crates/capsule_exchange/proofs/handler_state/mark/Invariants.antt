use Rattle.std.proofs.Common.{◌≡◌, ◌==◌, ℕ, false, ◌&&◌, ◌||◌, ltb, length}
use Rattle.std.specs.Prelude.{slice_index_or}
use Rattle.std.specs.Int.{bit_at}
use Rattle.capsule_exchange.proofs.handler_state.mark.Given as goal

-- the places below the index are as they are to be, and the others as they were
abbrev pub invariant-loop-index : goal.invariant-loop-index
invariant-loop-index l = record {
  long : length l.marks ≡ 22;
  each : (k : ℕ) → slice_index_or l.marks k false ≡ (ltb k l.index && (bit_at l.missing k == 1)) || slice_index_or l.fn.marks k false;
}
