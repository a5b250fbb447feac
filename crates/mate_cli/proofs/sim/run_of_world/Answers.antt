use Rattle.std.proofs.Common.{Ok, Err, subst}
use Rattle.command_programs.specs.Injected.{world_programs}
use Rattle.command_programs.specs.WorldFiles.{world}
use Rattle.vm_shape.specs.declared.description.Description.{Description}
use Rattle.command_steps.specs.Parts.{Folder}
use Rattle.command_steps.specs.Steps.{goes_on}
use Rattle.command_steps.proofs.Laws.{moved, reads-as, reads-err, reads-then}
use Rattle.command_documents.proofs.OwedLemmas.{owed-stops}
use Rattle.node_programs.specs.WorldPrograms.{AreProgramsOfWorld}
use Rattle.command_documents.proofs.ReadsLemmas.{quiet-memory}
use Rattle.std.proofs.lemmas.Result.{IfOk-from_err}
use Rattle.mate_cli.proofs.sim.run_of_world.Goals as goal

pub returns-in_err-world-clause-does : goal.returns-in_err-world-clause-does
returns-in_err-world-clause-does g c =
    let f : Folder = record { told = g.F.Files.contents c.args.files.now; steady = g.F.Files.steady c.args.files.now } in
    owed-stops c.in_err-world.field-0.0 c.from_residual.result
    (subst (λ (d : Description). world f d c.args.words.script.now (Err c.in_err-world.field-0.0)) c.description-desc.ensures c.in_err-world.ensures.does)
    c.from_residual.ensures.1

pub returns-in_err-programs-clause-does : goal.returns-in_err-programs-clause-does
returns-in_err-programs-clause-does g c =
    let f : Folder = record { told = g.F.Files.contents c.args.files.now; steady = g.F.Files.steady c.args.files.now } in
    goes_on c.in_ok-world.world
    (subst (λ (d : Description). world f d c.args.words.script.now (Ok c.in_ok-world.world)) c.description-desc.ensures c.in_ok-world.ensures.does)
    (owed-stops c.in_err-programs.field-0.0 c.from_residual-in_err-programs.result
    (subst (λ (d : Description). world_programs f d c.args.words.fold c.in_ok-world.world (Err c.in_err-programs.field-0.0)) c.description-desc.ensures
    (moved (λ f. world_programs f c.description-desc.result.now c.args.words.fold c.in_ok-world.world (Err c.in_err-programs.field-0.0)) c.in_ok-world.ensures.reads
    c.in_err-programs.ensures.does))
    c.from_residual-in_err-programs.ensures.1)

pub returns-clause-does : goal.returns-clause-does
returns-clause-does g c =
    let f : Folder = record { told = g.F.Files.contents c.args.files.now; steady = g.F.Files.steady c.args.files.now } in
    goes_on c.in_ok-world.world
    (subst (λ (d : Description). world f d c.args.words.script.now (Ok c.in_ok-world.world)) c.description-desc.ensures c.in_ok-world.ensures.does)
    (goes_on c.in_ok-programs.programs
    (subst (λ (d : Description). world_programs f d c.args.words.fold c.in_ok-world.world (Ok c.in_ok-programs.programs)) c.description-desc.ensures
    (moved (λ f. world_programs f c.description-desc.result.now c.args.words.fold c.in_ok-world.world (Ok c.in_ok-programs.programs)) c.in_ok-world.ensures.reads
    c.in_ok-programs.ensures.does))
    c.run_output.ensures.does)

pub returns-in_err-world-clause-writable : goal.returns-in_err-world-clause-writable
returns-in_err-world-clause-writable g c = IfOk-from_err c.from_residual.result _ c.from_residual.ensures.0

pub returns-in_err-programs-clause-writable : goal.returns-in_err-programs-clause-writable
returns-in_err-programs-clause-writable g c = IfOk-from_err c.from_residual-in_err-programs.result _ c.from_residual-in_err-programs.ensures.0

pub returns-clause-writable : goal.returns-clause-writable
returns-clause-writable g c = c.run_output.ensures.writable

pub returns-in_err-world-clause-reads : goal.returns-in_err-world-clause-reads
returns-in_err-world-clause-reads g c = reads-err c.in_err-world.field-0.0 c.from_residual.result c.in_err-world.ensures.reads c.from_residual.ensures.1

pub returns-in_err-programs-clause-reads : goal.returns-in_err-programs-clause-reads
returns-in_err-programs-clause-reads g c =
    reads-then c.in_ok-world.ensures.reads
    (reads-err c.in_err-programs.field-0.0 c.from_residual-in_err-programs.result c.in_err-programs.ensures.reads c.from_residual-in_err-programs.ensures.1)

pub returns-clause-reads : goal.returns-clause-reads
returns-clause-reads g c =
    reads-then c.in_ok-world.ensures.reads (reads-as c.in_ok-programs.ensures.reads (quiet-memory c.run_output.result c.run_output.ensures.memory))

pub programs_of_world-requires-clause-right : goal.programs_of_world-requires-clause-right
programs_of_world-requires-clause-right g c = c.in_ok-world.ensures.right

pub programs_of_world-requires-clause-in_order : goal.programs_of_world-requires-clause-in_order
programs_of_world-requires-clause-in_order g c = c.in_ok-world.ensures.in_order

pub run_output-requires : goal.run_output-requires
run_output-requires g c = subst (λ (d : Description). AreProgramsOfWorld d c.in_ok-world.world c.in_ok-programs.programs) c.description-desc.ensures c.in_ok-programs.ensures.programs
