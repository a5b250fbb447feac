use Rattle.std.proofs.Common.{◌≡◌, drop, length, []}
use Rattle.report_line_reader.specs.Stores.{shared_after}
use Rattle.report_line_reader.proofs.store_words.shared.Given as goal

abbrev pub invariant-loop-name : goal.invariant-loop-name
invariant-loop-name l =
    (length l.values.items ≡ l.name-index) × (shared_after l.values.items (drop l.name-index l.name-items) l.words ≡ shared_after [] l.name-items l.initial.words)
