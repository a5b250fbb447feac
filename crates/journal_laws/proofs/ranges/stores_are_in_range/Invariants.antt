use Rattle.std.proofs.Common.{take}
use Rattle.std.specs.Prelude.{All}
use Rattle.mate_journal.specs.Ranges.{HasStoreRanges}
use Rattle.journal_laws.proofs.ranges.stores_are_in_range.Given as goal

abbrev pub invariant-loop-store : goal.invariant-loop-store
invariant-loop-store l = All HasStoreRanges (take l.store-index l.stores)
