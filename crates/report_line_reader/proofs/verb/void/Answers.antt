use Rattle.std.proofs.Common.{◌∙◌, rules}
use Rattle.report_line_reader.proofs.verb.void.Goals as goal

pub returns-then-eq : goal.returns-then-eq
returns-then-eq c = λ x. c.at_end.ensures x ∙ search rules

pub returns-then-eq-2 : goal.returns-then-eq-2
returns-then-eq-2 c = λ x. c.at_end-then-eq-2.ensures x ∙ search rules

pub returns-then-eq-3 : goal.returns-then-eq-3
returns-then-eq-3 c = λ x. c.not_newer.ensures x ∙ search rules
