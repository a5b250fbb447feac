use Rattle.std.proofs.Common.{◌∙◌, rules}
use Rattle.report_line_reader.proofs.verb.not_newer.Goals as goal

pub returns : goal.returns
returns c = λ x. c.at_end.ensures x ∙ search rules
