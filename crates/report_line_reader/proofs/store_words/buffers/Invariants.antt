use Rattle.std.proofs.Common.{◌≡◌, drop, length, []}
use Rattle.report_line_reader.specs.Stores.{buffers_after}
use Rattle.report_line_reader.proofs.store_words.buffers.Given as goal

abbrev pub invariant-loop-name : goal.invariant-loop-name
invariant-loop-name l =
    (length l.all.items ≡ l.name-index) × (buffers_after l.all.items (drop l.name-index l.name-items) l.words ≡ buffers_after [] l.name-items l.initial.words)
