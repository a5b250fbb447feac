use Rattle.std.proofs.Common.{Ok, Err, subst}
use Rattle.vm_shape.specs.declared.description.Description.{Description}
use Rattle.command_steps.specs.Steps.{goes_on}
use Rattle.command_documents.proofs.OwedLemmas.{owed-stops}
use Rattle.std.proofs.lemmas.Result.{IfOk-from_err}
use Rattle.command_programs.specs.Made.{made}
use Rattle.node_programs.specs.WorldPrograms.{AreProgramsOfWorld}
use Rattle.mate_cli.proofs.made.run_of_number.Goals as goal

pub returns-in_err-made-clause-does : goal.returns-in_err-made-clause-does
returns-in_err-made-clause-does c = owed-stops c.in_err-made.field-0.0 c.from_residual.result
    (subst (λ (d : Description). made d c.args.words.fold c.args.words.number (Err c.in_err-made.field-0.0)) c.description.ensures c.in_err-made.ensures.does) c.from_residual.ensures.1

pub returns-clause-does : goal.returns-clause-does
returns-clause-does c = goes_on c.in_ok-made.made
    (subst (λ (d : Description). made d c.args.words.fold c.args.words.number (Ok c.in_ok-made.made)) c.description.ensures c.in_ok-made.ensures.does) c.run_output.ensures.does

pub run_output-requires : goal.run_output-requires
run_output-requires c =
    subst (λ (d : Description). AreProgramsOfWorld d c.in_ok-made.made.world c.in_ok-made.made.programs) c.description.ensures c.in_ok-made.ensures.programs

pub returns-in_err-made-clause-writable : goal.returns-in_err-made-clause-writable
returns-in_err-made-clause-writable c = IfOk-from_err c.from_residual.result _ c.from_residual.ensures.0

pub returns-clause-writable : goal.returns-clause-writable
returns-clause-writable c = c.run_output.ensures.writable
