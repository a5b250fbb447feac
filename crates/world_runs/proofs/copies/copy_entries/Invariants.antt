use Rattle.std.proofs.Common.{◌≡◌, ◌≤◌, ◌+◌, ◌++◌, map, take}
use Rattle.mate_journal.specs.OpenLog.{stamped_behind}
use Rattle.world_runs.proofs.copies.copy_entries.Given as goal

abbrev pub invariant-loop-stamped : goal.invariant-loop-stamped
invariant-loop-stamped l = record {
  entries : l.own.entries ≡ l.fn.own.entries ++ map (stamped_behind l.fn.images l.fn.stores) (take l.stamped-index l.entries);
  images : l.own.images ≡ l.fn.own.images;
  stores : l.own.stores ≡ l.fn.own.stores;
  spare : l.fn.own.spare ≤ l.own.spare + l.stamped-index;
}
