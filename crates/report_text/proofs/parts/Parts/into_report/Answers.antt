use Rattle.report_text.proofs.PartLemmas.{report_is}
use Rattle.report_text.proofs.parts.Parts.into_report.Goals as goal

pub returns : goal.returns
returns c = λ d ls h. report_is d ls c.args.self c.args.last c.in_ok-nodes.nodes c.new.result c.requires h c.in_ok-nodes.ensures c.new.ensures
