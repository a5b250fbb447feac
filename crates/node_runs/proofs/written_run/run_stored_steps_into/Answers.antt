use Rattle.std.proofs.Common.{refl, ◌∙◌, inl}
use Rattle.node_runs.specs.Running.{IsReportOf, report_with}
use Rattle.report_writer.proofs.WritingLemmas.{given-whole, given-fault}
use Rattle.node_runs.proofs.written_run.run_stored_steps_into.Goals as goal

pub returns-in_default-clause-gives : goal.returns-in_default-clause-gives
returns-in_default-clause-gives g c = inl (record { report = c.nothing_run.ensures; same = refl })

pub write_run-pass-requires-clause-fresh : goal.write_run-pass-requires-clause-fresh
write_run-pass-requires-clause-fresh g c = c.in-Ok.ensures

pub report_of-report-requires-clause-one : goal.report_of-report-requires-clause-one
report_of-report-requires-clause-one g c = c.in-Ok-empty.ensures.count

pub report_of-report-requires-clause-all : goal.report_of-report-requires-clause-all
report_of-report-requires-clause-all g c = c.write_run-pass.ensures.gone ∙ c.in-Ok.ensures.whole

pub returns-in-Ok-result-clause-gives : goal.returns-in-Ok-result-clause-gives
returns-in-Ok-result-clause-gives g c =
    given-whole c.args.desc.now (IsReportOf c.args.desc.now c.args.steps.now c.args.programs.now) (g.S.Sink.written c.args.out.now) (g.S.Sink.written c.write_run-pass.new.out) (g.S.Sink.faults c.args.out.now)
    (g.S.Sink.faults c.write_run-pass.new.out) c.write_run-pass.result.result (report_with c.write_run-pass.new.node.log c.write_run-pass.result.events c.write_run-pass.result.whole) c.report_of-report.result c.write_run-pass.ensures.gives
    c.report_of-report.ensures.is c.in-Ok-result.is

pub returns-in-Ok-result-clause-later : goal.returns-in-Ok-result-clause-later
returns-in-Ok-result-clause-later g c = c.write_run-pass.ensures.later

pub returns-in-Err-clause-gives : goal.returns-in-Err-clause-gives
returns-in-Err-clause-gives g c =
    given-fault c.args.desc.now (IsReportOf c.args.desc.now c.args.steps.now c.args.programs.now) (g.S.Sink.written c.args.out.now) (g.S.Sink.written c.write_run-pass.new.out) (g.S.Sink.faults c.args.out.now)
    (g.S.Sink.faults c.write_run-pass.new.out) c.write_run-pass.result.result (report_with c.write_run-pass.new.node.log c.write_run-pass.result.events c.write_run-pass.result.whole) c.report_of-report.result c.write_run-pass.ensures.gives
    c.report_of-report.ensures.is c.in-Err.fault c.with_report.result c.in-Err.is c.with_report.ensures

pub returns-in-Err-clause-later : goal.returns-in-Err-clause-later
returns-in-Err-clause-later g c = c.write_run-pass.ensures.later
