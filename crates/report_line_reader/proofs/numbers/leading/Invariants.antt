use Rattle.report_line_reader.proofs.SpellingLemmas.{HasSpelled}
use Rattle.report_line_reader.proofs.numbers.leading.Given as goal

abbrev pub invariant-loop-place : goal.invariant-loop-place
invariant-loop-place l = HasSpelled l.bytes l.place l.number
