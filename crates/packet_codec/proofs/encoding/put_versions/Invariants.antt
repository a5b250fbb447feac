use Rattle.std.proofs.Common.{◌≡◌, ◌+◌, ◌*◌, ◌++◌, length, take}
use Rattle.packet_codec.specs.Bytes.{version_bytes}
use Rattle.packet_codec.proofs.encoding.put_versions.Given as goal

abbrev pub invariant-loop-version : goal.invariant-loop-version
invariant-loop-version l = record {
  so_far : l.out.items ≡ l.fn.out.items ++ version_bytes (take l.version-index l.versions);
  room : length l.out.items ≡ length l.fn.out.items + 4 * l.version-index;
}
