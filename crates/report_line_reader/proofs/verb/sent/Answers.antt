use Rattle.std.proofs.Common.{◌∙◌, rules}
use Rattle.report_line_reader.proofs.verb.sent.Goals as goal

pub returns : goal.returns
returns c = λ d x. c.at_end.ensures x ∙ search rules
