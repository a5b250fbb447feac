use Rattle.std.proofs.Common.{subst}
use Rattle.std.specs.Prelude.{All}
use Rattle.std.proofs.lemmas.List.{take_all}
use Rattle.std.proofs.lemmas.List.Elements.{All-more}
use Rattle.mate_journal.specs.Ranges.{HasStampedRanges}
use Rattle.journal_laws.proofs.ranges.entries_are_in_range.Goals as goal

pub loop-stamped-preserved : goal.loop-stamped-preserved
loop-stamped-preserved c =
    All-more HasStampedRanges c.args.entries.now c.loop-stamped.stamped-index c.stamped-item.result c.loop-stamped-test.true c.loop-stamped.invariant (subst HasStampedRanges c.stamped-item.is c.stamped_is_in_range.ensures)

pub returns : goal.returns
returns c = subst (All HasStampedRanges) (take_all c.loop-stamped.stamped-index c.args.entries.now c.loop-stamped-test.false) c.loop-stamped.invariant
