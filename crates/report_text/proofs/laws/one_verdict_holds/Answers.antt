use Rattle.report_text.proofs.VerdictLemmas.{one_list, one_bad_line, no_bad_line}
use Rattle.report_text.proofs.laws.one_verdict_holds.Goals as goal

pub returns-clause-lines : goal.returns-clause-lines
returns-clause-lines c = λ d bytes ls ms e f a b. (let s = one_list d bytes ls ms e f a b in (s.lines, s.last))

pub returns-clause-bad : goal.returns-clause-bad
returns-clause-bad c = λ d bytes m n a b. one_bad_line d bytes m n a b

pub returns-clause-apart : goal.returns-clause-apart
returns-clause-apart c = λ d bytes ls e n a b. no_bad_line d bytes ls e n a b
