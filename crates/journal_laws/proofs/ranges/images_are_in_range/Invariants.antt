use Rattle.std.proofs.Common.{take}
use Rattle.std.specs.Prelude.{All}
use Rattle.mate_journal.specs.Ranges.{HasImageRanges}
use Rattle.journal_laws.proofs.ranges.images_are_in_range.Given as goal

abbrev pub invariant-loop-image : goal.invariant-loop-image
invariant-loop-image l = All HasImageRanges (take l.image-index l.images)
