use Rattle.std.proofs.Common.{take}
use Rattle.std.specs.Prelude.{All}
use Rattle.mate_journal.specs.Ranges.{HasStampedRanges}
use Rattle.journal_laws.proofs.ranges.entries_are_in_range.Given as goal

abbrev pub invariant-loop-stamped : goal.invariant-loop-stamped
invariant-loop-stamped l = All HasStampedRanges (take l.stamped-index l.entries)
