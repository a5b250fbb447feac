use Rattle.std.proofs.Common.{subst}
use Rattle.std.specs.Prelude.{All}
use Rattle.std.proofs.lemmas.List.{take_all}
use Rattle.std.proofs.lemmas.List.Elements.{All-more}
use Rattle.mate_journal.specs.Ranges.{HasAiredRanges}
use Rattle.journal_laws.proofs.ranges.airs_are_in_range.Goals as goal

pub loop-aired-preserved : goal.loop-aired-preserved
loop-aired-preserved c =
    All-more HasAiredRanges c.args.airs.now c.loop-aired.aired-index c.aired-item.result c.loop-aired-test.true c.loop-aired.invariant (subst HasAiredRanges c.aired-item.is c.aired_is_in_range.ensures)

pub returns : goal.returns
returns c = subst (All HasAiredRanges) (take_all c.loop-aired.aired-index c.args.airs.now c.loop-aired-test.false) c.loop-aired.invariant
