use Rattle.report_line_reader.proofs.LineOf.{light_form, light_right, light_ranges, light_none}
use Rattle.report_line_reader.proofs.light_line.light_line_of.Goals as goal

pub returns-clause-form : goal.returns-clause-form
returns-clause-form c = light_form c.read_light.new.bulk c.args.desc.now c.args.bytes.now c.read_light.result c.read_light.ensures

pub returns-clause-right : goal.returns-clause-right
returns-clause-right c = light_right c.read_light.new.bulk c.args.desc.now c.args.bytes.now c.read_light.result c.read_light.ensures

pub returns-clause-ranges : goal.returns-clause-ranges
returns-clause-ranges c = light_ranges c.read_light.new.bulk c.args.desc.now c.args.bytes.now c.read_light.result c.read_light.ensures

pub returns-clause-none : goal.returns-clause-none
returns-clause-none c = light_none c.read_light.new.bulk c.args.desc.now c.args.bytes.now c.read_light.result c.read_light.ensures
