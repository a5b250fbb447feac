use Rattle.std.proofs.Common.{take}
use Rattle.std.specs.Prelude.{All}
use Rattle.mate_journal.specs.Ranges.{HasAiredRanges}
use Rattle.journal_laws.proofs.ranges.airs_are_in_range.Given as goal

abbrev pub invariant-loop-aired : goal.invariant-loop-aired
invariant-loop-aired l = All HasAiredRanges (take l.aired-index l.airs)
