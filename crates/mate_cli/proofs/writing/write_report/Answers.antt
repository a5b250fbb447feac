use Rattle.std.proofs.Common.{sym, subst}
use Rattle.mate_cli.specs.Ends.{SinkState, ending_of, IsReportWritten, IsRunWritten}
use Rattle.vm_shape.specs.declared.description.Description.{Description}
use Rattle.command_documents.specs.Outputs.{HasPrograms}
use Rattle.command_documents.specs.declared.output.Run.{Run}
use Rattle.node_programs.specs.ScriptSteps.{AreProgramsOf}
use Rattle.node_runs.specs.Running.{IsReportOf}
use Rattle.node_programs.specs.WorldPrograms.{AreProgramsOfWorld}
use Rattle.world_run_laws.specs.Promise.{IsReportOfWorld}
use Rattle.mate_cli.proofs.RunLemmas.{run-written}
use Rattle.mate_cli.proofs.writing.write_report.Goals as goal

pub returns-in-Script : goal.returns-in-Script
returns-in-Script g c =
    let s : SinkState = record { written = g.S.Sink.written c.args.out.now; faults = g.S.Sink.faults c.args.out.now } in
    let t : SinkState = record { written = g.S.Sink.written c.write_steps.new.out; faults = g.S.Sink.faults c.write_steps.new.out } in
    let d = c.description.result.now in
    subst (λ (r : Run). IsReportWritten r s t (ending_of c.write_steps.result)) (sym c.in-Script.is)
    (subst (λ (d : Description). IsRunWritten d (IsReportOf d c.in-Script.script c.in-Script.programs) s t (ending_of c.write_steps.result)) c.description.ensures
    (run-written d (IsReportOf d c.in-Script.script c.in-Script.programs) s t c.write_steps.result c.write_steps.ensures.gives))

pub returns-in-World : goal.returns-in-World
returns-in-World g c =
    let s : SinkState = record { written = g.S.Sink.written c.args.out.now; faults = g.S.Sink.faults c.args.out.now } in
    let t : SinkState = record { written = g.S.Sink.written c.write_world.new.out; faults = g.S.Sink.faults c.write_world.new.out } in
    let d = c.description-in-World.result.now in
    subst (λ (r : Run). IsReportWritten r s t (ending_of c.write_world.result)) (sym c.in-World.is)
    (subst (λ (d : Description). IsRunWritten d (IsReportOfWorld d c.in-World.world c.in-World.programs) s t (ending_of c.write_world.result)) c.description-in-World.ensures
    (run-written d (IsReportOfWorld d c.in-World.world c.in-World.programs) s t c.write_world.result c.write_world.ensures.gives))

pub write_steps-requires : goal.write_steps-requires
write_steps-requires g c =
    subst (λ (d : Description). AreProgramsOf d c.in-Script.script c.in-Script.programs) (sym c.description.ensures) (subst HasPrograms c.in-Script.is c.requires)

pub write_world-requires : goal.write_world-requires
write_world-requires g c =
    subst (λ (d : Description). AreProgramsOfWorld d c.in-World.world c.in-World.programs) (sym c.description-in-World.ensures) (subst HasPrograms c.in-World.is c.requires)
