use Rattle.std.proofs.Common.{◌≡◌, ◌+◌, ◌*◌, ◌≤◌, ◌++◌, length}
use Rattle.packet_codec.specs.Reading.{versions_in}
use Rattle.packet_codec.proofs.decoding.read_versions.Given as goal

abbrev pub invariant-versions : goal.invariant-versions
invariant-versions l = record {
  so_far : l.versions.items ++ versions_in l.rest ≡ versions_in l.bytes;
  room : 4 * length l.versions.items + length l.rest ≤ 32;
}

abbrev pub decreases-versions : goal.decreases-versions
decreases-versions l = length l.rest
