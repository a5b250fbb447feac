use Rattle.command_documents.proofs.MachineLemmas.{machine-same, machine-wanting}
use Rattle.command_documents.proofs.boxed_machine.BoxedMachine.named.Goals as goal

pub returns-in-Some-clause-does : goal.returns-in-Some-clause-does
returns-in-Some-clause-does g c = machine-same (record { told = g.F.Files.contents c.args.files.now; steady = g.F.Files.steady c.args.files.now }) c.args.word.now c.in-Ok.description c.in-Some.machine c.in-Ok.ensures.does c.in-Some.ensures

pub returns-in-None-clause-does : goal.returns-in-None-clause-does
returns-in-None-clause-does g c = machine-wanting (record { told = g.F.Files.contents c.args.files.now; steady = g.F.Files.steady c.args.files.now }) c.args.word.now c.in-Ok.description c.in-Ok.ensures.does
