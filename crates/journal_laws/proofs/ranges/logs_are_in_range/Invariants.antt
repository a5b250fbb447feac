use Rattle.std.proofs.Common.{take}
use Rattle.std.specs.Prelude.{All}
use Rattle.mate_journal.specs.Ranges.{HasLogRanges}
use Rattle.journal_laws.proofs.ranges.logs_are_in_range.Given as goal

abbrev pub invariant-loop-log : goal.invariant-loop-log
invariant-loop-log l = All HasLogRanges (take l.log-index l.logs)
