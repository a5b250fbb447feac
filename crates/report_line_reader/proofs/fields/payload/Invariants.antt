use Rattle.std.proofs.Common.{◌≡◌, length, []}
use Rattle.report_line_reader.specs.Numbers.{values_after}
use Rattle.report_line_reader.proofs.fields.payload.Given as goal

abbrev pub invariant-loop-words : goal.invariant-loop-words
invariant-loop-words l = values_after l.values.items l.words ≡ values_after [] l.initial.words

abbrev pub decreases-loop-words : goal.decreases-loop-words
decreases-loop-words l = length l.words
