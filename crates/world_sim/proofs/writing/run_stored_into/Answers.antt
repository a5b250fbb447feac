use Rattle.std.proofs.Common.{refl, subst, inl, Option}
use Rattle.world_runs.specs.declared.record.Record.{Record}
use Rattle.report_writer.proofs.WritingLemmas.{given-whole, given-fault}
use Rattle.world_run_laws.specs.Promise.{IsReportOfWorld}
use Rattle.world_rules.specs.Report.{IsWorldReport}
use Rattle.world_run_laws.specs.Coming.{code_world}
use Rattle.world_runs.specs.Writing.{WritesRecorded}
use Rattle.world_sim.proofs.HandingLemmas.{handed-out}
use Rattle.world_sim.proofs.writing.run_stored_into.Goals as goal

pub returns-in_default-clause-gives : goal.returns-in_default-clause-gives
returns-in_default-clause-gives g c = inl (record { report = c.nothing_run.ensures; same = refl })

pub returns-in-Ok-result-clause-gives : goal.returns-in-Ok-result-clause-gives
returns-in-Ok-result-clause-gives g c =
    given-whole c.args.desc.now (IsReportOfWorld c.args.desc.now c.args.world.now c.args.programs.now) (g.S.Sink.written c.args.out.now) (g.S.Sink.written c.write_run-pass.new.out) (g.S.Sink.faults c.args.out.now) (g.S.Sink.faults c.write_run-pass.new.out) c.write_run-pass.result.result c.into_report-report.result c.into_report-report.result
    (handed-out c.args.desc.now c.args.world.now c.args.programs.now (g.S.Sink.written c.args.out.now) (g.S.Sink.written c.write_run-pass.new.out) (g.S.Sink.faults c.args.out.now) (g.S.Sink.faults c.write_run-pass.new.out) c.write_run-pass.result c.in-Some.record c.into_report-report.result (c.reports_keep_the_promise.ensures c.args.desc.now c.args.world.now c.args.programs.now) c.requires
    (subst (λ (o : Option Record). WritesRecorded c.args.desc.now (IsWorldReport (code_world c.args.desc.now c.args.world.now c.args.programs.now)) (g.S.Sink.written c.args.out.now) (g.S.Sink.written c.write_run-pass.new.out) (g.S.Sink.faults c.args.out.now) (g.S.Sink.faults c.write_run-pass.new.out) c.write_run-pass.result o) c.in-Some.is c.write_run-pass.ensures.gives) c.into_report-report.ensures) refl c.in-Ok-result.is

pub returns-in-Ok-result-clause-later : goal.returns-in-Ok-result-clause-later
returns-in-Ok-result-clause-later g c = c.write_run-pass.ensures.later

pub returns-in-Err-clause-gives : goal.returns-in-Err-clause-gives
returns-in-Err-clause-gives g c =
    given-fault c.args.desc.now (IsReportOfWorld c.args.desc.now c.args.world.now c.args.programs.now) (g.S.Sink.written c.args.out.now) (g.S.Sink.written c.write_run-pass.new.out) (g.S.Sink.faults c.args.out.now) (g.S.Sink.faults c.write_run-pass.new.out) c.write_run-pass.result.result c.into_report-report.result c.into_report-report.result
    (handed-out c.args.desc.now c.args.world.now c.args.programs.now (g.S.Sink.written c.args.out.now) (g.S.Sink.written c.write_run-pass.new.out) (g.S.Sink.faults c.args.out.now) (g.S.Sink.faults c.write_run-pass.new.out) c.write_run-pass.result c.in-Some.record c.into_report-report.result (c.reports_keep_the_promise.ensures c.args.desc.now c.args.world.now c.args.programs.now) c.requires
    (subst (λ (o : Option Record). WritesRecorded c.args.desc.now (IsWorldReport (code_world c.args.desc.now c.args.world.now c.args.programs.now)) (g.S.Sink.written c.args.out.now) (g.S.Sink.written c.write_run-pass.new.out) (g.S.Sink.faults c.args.out.now) (g.S.Sink.faults c.write_run-pass.new.out) c.write_run-pass.result o) c.in-Some.is c.write_run-pass.ensures.gives) c.into_report-report.ensures) refl c.in-Err.fault c.with_report.result c.in-Err.is c.with_report.ensures

pub returns-in-Err-clause-later : goal.returns-in-Err-clause-later
returns-in-Err-clause-later g c = c.write_run-pass.ensures.later
