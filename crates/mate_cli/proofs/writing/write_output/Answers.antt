use Rattle.std.proofs.Common.{sym, subst}
use Rattle.mate_cli.specs.Ends.{SinkState, ending_of, IsTextWritten, IsOwedWritten}
use Rattle.vm_shape.specs.declared.description.Description.{Description}
use Rattle.command_documents.specs.Outputs.{CanBeWritten, owed_of}
use Rattle.command_documents.specs.declared.output.Output.{Output}
use Rattle.report_writer.specs.Summary.{summary_text}
use Rattle.mate_cli.proofs.writing.write_output.Goals as goal

pub returns-in-Document : goal.returns-in-Document
returns-in-Document g c =
    let s : SinkState = record { written = g.S.Sink.written c.args.out.now; faults = g.S.Sink.faults c.args.out.now } in
    let t : SinkState = record { written = g.S.Sink.written c.write_document.new.out; faults = g.S.Sink.faults c.write_document.new.out } in
    subst (λ (o : Output). IsOwedWritten (owed_of o) s t (ending_of c.write_document.result)) (sym c.in-Document.is) c.write_document.ensures

pub returns-in-Summary : goal.returns-in-Summary
returns-in-Summary g c =
    let s : SinkState = record { written = g.S.Sink.written c.args.out.now; faults = g.S.Sink.faults c.args.out.now } in
    let t : SinkState = record { written = g.S.Sink.written c.write_summary.new.out; faults = g.S.Sink.faults c.write_summary.new.out } in
    let sum = c.in-Summary.summary in
    subst (λ (o : Output). IsOwedWritten (owed_of o) s t (ending_of c.write_summary.result)) (sym c.in-Summary.is)
    (subst (λ (d : Description). IsTextWritten (summary_text d sum) sum.whole s t (ending_of c.write_summary.result)) c.description.ensures c.write_summary.ensures)

pub write_summary-requires : goal.write_summary-requires
write_summary-requires g c = subst CanBeWritten c.in-Summary.is c.requires

pub write_document-requires : goal.write_document-requires
write_document-requires g c = subst CanBeWritten c.in-Document.is c.requires

pub returns-in-Run : goal.returns-in-Run
returns-in-Run g c =
    let s : SinkState = record { written = g.S.Sink.written c.args.out.now; faults = g.S.Sink.faults c.args.out.now } in
    let t : SinkState = record { written = g.S.Sink.written c.write_report.new.out; faults = g.S.Sink.faults c.write_report.new.out } in
    subst (λ (o : Output). IsOwedWritten (owed_of o) s t (ending_of c.write_report.result)) (sym c.in-Run.is) c.write_report.ensures

pub write_report-requires : goal.write_report-requires
write_report-requires g c = subst CanBeWritten c.in-Run.is c.requires
