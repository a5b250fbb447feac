use Rattle.std.proofs.Common.{◌≡◌, ◌*◌, ◌≤◌, length, take}
use Rattle.std.specs.List.{flat_map}
use Rattle.capsule_exchange.specs.Happenings.{piece_bytes}
use Rattle.capsule_exchange.proofs.pieces.write_bytes.Given as goal

abbrev pub invariant-loop-place : goal.invariant-loop-place
invariant-loop-place l = record {
  so_far : l.image.items ≡ flat_map piece_bytes (take l.place-index l.places);
  high : length l.image.items ≤ 48 * l.place-index;
}
