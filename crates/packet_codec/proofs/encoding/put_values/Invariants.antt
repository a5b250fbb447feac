use Rattle.std.proofs.Common.{◌≡◌, ◌+◌, ◌*◌, ◌++◌, length, take}
use Rattle.std.specs.Prelude.{All, FitsSigned}
use Rattle.std.specs.Int.{w16}
use Rattle.packet_codec.specs.Bytes.{value_bytes}
use Rattle.packet_codec.proofs.encoding.put_values.Given as goal

abbrev pub invariant-loop-value : goal.invariant-loop-value
invariant-loop-value l = record {
  so_far : l.out.items ≡ l.fn.out.items ++ value_bytes (take l.value-index l.values);
  room : length l.out.items ≡ length l.fn.out.items + 2 * l.value-index;
  ranges : All (λ value. FitsSigned w16 value) (take l.value-index l.values);
}
