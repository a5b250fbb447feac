use Rattle.std.proofs.Common.{subst}
use Rattle.std.specs.Prelude.{All}
use Rattle.mate_journal.specs.Ranges.{HasStampedRanges, HasImageRanges, HasStoreRanges}
use Rattle.journal_laws.proofs.ranges.log_is_in_range.Goals as goal

pub returns : goal.returns
returns c = record {
  entries = subst (All HasStampedRanges) c.entries.ensures c.entries_are_in_range.ensures;
  images = subst (All HasImageRanges) c.images.ensures c.images_are_in_range.ensures;
  stores = subst (All HasStoreRanges) c.stores.ensures c.stores_are_in_range.ensures;
}
