use Rattle.command_steps.specs.Steps.{goes_on}
use Rattle.command_steps.proofs.Laws.{moved}
use Rattle.command_documents.proofs.OwedLemmas.{owed-stops}
use Rattle.mate_cli.specs.Worlds.{run_of_world}
use Rattle.std.proofs.lemmas.Result.{IfOk-from_err}
use Rattle.command_documents.specs.Outputs.{owed_in}
use Rattle.mate_cli.proofs.sim.output.Goals as goal

pub returns-in_err-machine-clause-does : goal.returns-in_err-machine-clause-does
returns-in_err-machine-clause-does g c = owed-stops c.in_err-machine.field-0.0 c.from_residual.result c.in_err-machine.ensures.does c.from_residual.ensures.1

pub returns-clause-does : goal.returns-clause-does
returns-clause-does g c =
    goes_on c.in_ok-machine.machine c.in_ok-machine.ensures.does
    (moved (λ f. run_of_world f c.args.words.fold c.args.words.brief c.in_ok-machine.machine c.args.words.script.now (owed_in c.run_of_world.result)) c.in_ok-machine.ensures.reads
    c.run_of_world.ensures.does)

pub returns-in_err-machine-clause-writable : goal.returns-in_err-machine-clause-writable
returns-in_err-machine-clause-writable g c = IfOk-from_err c.from_residual.result _ c.from_residual.ensures.0

pub returns-clause-writable : goal.returns-clause-writable
returns-clause-writable g c = c.run_of_world.ensures.writable
