use Rattle.report_line_reader.proofs.LineOf.{form_of, right_of, ranges_of, none_of}
use Rattle.report_line_reader.proofs.line.line_of.Goals as goal

pub returns-clause-form : goal.returns-clause-form
returns-clause-form c = form_of c.args.desc.now c.args.bytes.now c.read_line.result c.read_line.ensures

pub returns-clause-right : goal.returns-clause-right
returns-clause-right c = right_of c.args.desc.now c.args.bytes.now c.read_line.result c.read_line.ensures

pub returns-clause-ranges : goal.returns-clause-ranges
returns-clause-ranges c = ranges_of c.args.desc.now c.args.bytes.now c.read_line.result c.read_line.ensures

pub returns-clause-none : goal.returns-clause-none
returns-clause-none c = none_of c.args.desc.now c.args.bytes.now c.read_line.result c.read_line.ensures
