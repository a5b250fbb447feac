use Rattle.std.proofs.Common.{subst}
use Rattle.std.specs.Prelude.{All}
use Rattle.mate_journal.specs.Ranges.{HasAiredRanges}
use Rattle.journal_laws.proofs.growth.air_is_in_range_from.Goals as goal

pub returns : goal.returns
returns c = subst (All HasAiredRanges) c.behind.ensures c.airs_are_in_range.ensures
