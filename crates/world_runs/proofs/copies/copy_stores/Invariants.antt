use Rattle.std.proofs.Common.{◌≡◌, ◌≤◌, ◌+◌, ◌++◌, take}
use Rattle.world_runs.proofs.copies.copy_stores.Given as goal

abbrev pub invariant-loop-store : goal.invariant-loop-store
invariant-loop-store l = record {
  entries : l.own.entries ≡ l.fn.own.entries;
  images : l.own.images ≡ l.fn.own.images;
  stores : l.own.stores ≡ l.fn.own.stores ++ take l.store-index l.stores;
  spare : l.fn.own.spare ≤ l.own.spare + l.store-index;
}
