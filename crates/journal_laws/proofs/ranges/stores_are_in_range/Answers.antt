use Rattle.std.proofs.Common.{subst}
use Rattle.std.specs.Prelude.{All}
use Rattle.std.proofs.lemmas.List.{take_all}
use Rattle.std.proofs.lemmas.List.Elements.{All-more}
use Rattle.mate_journal.specs.Ranges.{HasStoreRanges}
use Rattle.journal_laws.proofs.ranges.stores_are_in_range.Goals as goal

pub loop-store-preserved : goal.loop-store-preserved
loop-store-preserved c =
    All-more HasStoreRanges c.args.stores.now c.loop-store.store-index c.store-item.result c.loop-store-test.true c.loop-store.invariant
    (subst HasStoreRanges c.store-item.is c.store_is_in_range.ensures)

pub returns : goal.returns
returns c = subst (All HasStoreRanges) (take_all c.loop-store.store-index c.args.stores.now c.loop-store-test.false) c.loop-store.invariant
