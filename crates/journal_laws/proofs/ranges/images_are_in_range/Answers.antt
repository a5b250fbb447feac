use Rattle.std.proofs.Common.{subst}
use Rattle.std.specs.Prelude.{All}
use Rattle.std.proofs.lemmas.List.{take_all}
use Rattle.std.proofs.lemmas.List.Elements.{All-more}
use Rattle.mate_journal.specs.Ranges.{HasImageRanges}
use Rattle.journal_laws.proofs.ranges.images_are_in_range.Goals as goal

pub loop-image-preserved : goal.loop-image-preserved
loop-image-preserved c =
    All-more HasImageRanges c.args.images.now c.loop-image.image-index c.image-item.result c.loop-image-test.true c.loop-image.invariant
    (subst HasImageRanges c.image-item.is c.image_is_in_range.ensures)

pub returns : goal.returns
returns c = subst (All HasImageRanges) (take_all c.loop-image.image-index c.args.images.now c.loop-image-test.false) c.loop-image.invariant
