use Rattle.std.proofs.Common.{◌≡◌, ◌≤◌, ◌+◌, ◌++◌, take}
use Rattle.world_runs.proofs.copies.copy_images.Given as goal

abbrev pub invariant-loop-image : goal.invariant-loop-image
invariant-loop-image l = record {
  entries : l.own.entries ≡ l.fn.own.entries;
  images : l.own.images ≡ l.fn.own.images ++ take l.image-index l.images;
  stores : l.own.stores ≡ l.fn.own.stores;
  spare : l.fn.own.spare ≤ l.own.spare + l.image-index;
}
