use Rattle.std.proofs.Common.{subst, drop, ap, ◌∙◌}
use Rattle.std.specs.Prelude.{All}
use Rattle.mate_journal.specs.Ranges.{HasStampedRanges, HasImageRanges, HasStoreRanges}
use Rattle.journal_laws.proofs.growth.log_is_in_range_from.Goals as goal

pub returns : goal.returns
returns c = record {
  entries = subst (All HasStampedRanges) (c.behind.ensures ∙ ap (λ xs. drop c.args.size.entries xs) c.entries.ensures) c.entries_are_in_range.ensures;
  images = subst (All HasImageRanges) (c.behind-2.ensures ∙ ap (λ xs. drop c.args.size.images xs) c.images.ensures) c.images_are_in_range.ensures;
  stores = subst (All HasStoreRanges) (c.behind-3.ensures ∙ ap (λ xs. drop c.args.size.stores xs) c.stores.ensures) c.stores_are_in_range.ensures;
}
