use Rattle.std.proofs.Common.{◌≡◌, ◌+◌, ◌*◌, ◌≤◌, ◌++◌, length}
use Rattle.packet_codec.specs.Reading.{values_in}
use Rattle.packet_codec.proofs.decoding.read_values.Given as goal

abbrev pub invariant-values : goal.invariant-values
invariant-values l = record {
  so_far : l.values.items ++ values_in l.rest ≡ values_in l.bytes;
  room : 2 * length l.values.items + length l.rest ≤ 20;
}

abbrev pub decreases-values : goal.decreases-values
decreases-values l = length l.rest
