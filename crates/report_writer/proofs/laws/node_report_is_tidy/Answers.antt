use Rattle.report_writer.proofs.NodeLemmas.{node-tidy}
use Rattle.report_writer.proofs.laws.node_report_is_tidy.Goals as goal

pub returns : goal.returns
returns c = node-tidy
