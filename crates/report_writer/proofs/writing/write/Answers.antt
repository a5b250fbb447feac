use Rattle.std.proofs.Common.{ap, length}
use Rattle.mate_files.proofs.PenLemmas.{◌⟫◌, Puts-finished, Prints-by}
use Rattle.report_writer.proofs.EventLemmas.{zeros-front}
use Rattle.report_writer.proofs.TextLemmas.{IsOrdered-tidy, end_line-same}
use Rattle.report_writer.proofs.writing.write.Goals as goal

pub returns : goal.returns
returns g c =
    Puts-finished c.new-pen.ensures c.finish.ensures
    (c.records.ensures
    ⟫ Prints-by (end_line-same _ _ _ _ _ _ _ _ c.count_records.ensures c.events.ensures (ap length c.nodes-nodes.ensures) c.whole.ensures) c.end_line.ensures)

pub records-requires-clause-begin : goal.records-requires-clause-begin
records-requires-clause-begin g c = λ i p. zeros-front (length c.nodes-nodes.result.now) 64 i

pub records-requires-clause-ordered : goal.records-requires-clause-ordered
records-requires-clause-ordered g c = IsOrdered-tidy c.args.desc.now c.args.report.now c.requires
