use Rattle.report_text.proofs.LastLineLemmas.{form_of_last, none_of_last}
use Rattle.report_text.proofs.last_line.last_line_of.Goals as goal

pub returns-clause-form : goal.returns-clause-form
returns-clause-form c = form_of_last c.args.bytes.now c.read_last.result c.read_last.ensures

pub returns-clause-none : goal.returns-clause-none
returns-clause-none c = none_of_last c.args.bytes.now c.read_last.result c.read_last.ensures
