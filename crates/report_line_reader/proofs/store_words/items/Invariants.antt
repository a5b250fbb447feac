use Rattle.std.proofs.Common.{◌≡◌, ◌-◌, length, []}
use Rattle.report_line_reader.specs.Stores.{items_after}
use Rattle.report_line_reader.proofs.store_words.items.Given as goal

abbrev pub invariant-loop-word : goal.invariant-loop-word
invariant-loop-word l = items_after l.values.items l.word l.words ≡ items_after [] l.begin l.initial.words

abbrev pub decreases-loop-word : goal.decreases-loop-word
decreases-loop-word l = 10 - length l.values.items
