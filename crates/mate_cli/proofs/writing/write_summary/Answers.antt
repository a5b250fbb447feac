use Rattle.mate_cli.proofs.RunLemmas.{text-written}
use Rattle.report_writer.specs.Summary.{summary_text}
use Rattle.mate_cli.proofs.writing.write_summary.Goals as goal

pub returns : goal.returns
returns g c =
    text-written (summary_text c.args.desc.now c.args.summary.now) c.args.summary.now.whole _ _ c.write.result c.ended.result c.write.ensures c.ended.ensures
