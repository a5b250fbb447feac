use Rattle.std.proofs.Common.{Ok, Err}
use Rattle.command_steps.specs.Parts.{file}
use Rattle.command_steps.specs.Steps.{goes_on}
use Rattle.command_steps.proofs.Laws.{moved, reads-as, reads-err, reads-then}
use Rattle.command_documents.proofs.OwedLemmas.{owed-stops}
use Rattle.command_documents.proofs.StreamLemmas.{quiet-answers}
use Rattle.std.proofs.lemmas.Result.{IfOk-from_err}
use Rattle.command_documents.proofs.feed.output.Goals as goal

pub returns-in_err-machine-clause-does : goal.returns-in_err-machine-clause-does
returns-in_err-machine-clause-does g c = owed-stops c.in_err-machine.field-0.0 c.from_residual.result c.in_err-machine.ensures.does c.from_residual.ensures.1

pub returns-in_err-stream-clause-does : goal.returns-in_err-stream-clause-does
returns-in_err-stream-clause-does g c =
    goes_on c.in_ok-machine.machine c.in_ok-machine.ensures.does
    (owed-stops c.in_err-stream.field-0.0 c.from_residual-in_err-stream.result
    (moved (λ f. file f c.args.name.now (Err c.in_err-stream.field-0.0)) c.in_ok-machine.ensures.reads c.in_err-stream.ensures.does)
    c.from_residual-in_err-stream.ensures.1)

pub returns-clause-does : goal.returns-clause-does
returns-clause-does g c =
    goes_on c.in_ok-machine.machine c.in_ok-machine.ensures.does
    (goes_on c.in_ok-stream.stream (moved (λ f. file f c.args.name.now (Ok c.in_ok-stream.stream)) c.in_ok-machine.ensures.reads c.in_ok-stream.ensures.does)
    c.answers.ensures.does)

pub returns-in_err-machine-clause-reads : goal.returns-in_err-machine-clause-reads
returns-in_err-machine-clause-reads g c = reads-err c.in_err-machine.field-0.0 c.from_residual.result c.in_err-machine.ensures.reads c.from_residual.ensures.1

pub returns-in_err-machine-clause-writable : goal.returns-in_err-machine-clause-writable
returns-in_err-machine-clause-writable g c = IfOk-from_err c.from_residual.result _ c.from_residual.ensures.0

pub returns-in_err-stream-clause-reads : goal.returns-in_err-stream-clause-reads
returns-in_err-stream-clause-reads g c =
    reads-then c.in_ok-machine.ensures.reads
    (reads-err c.in_err-stream.field-0.0 c.from_residual-in_err-stream.result c.in_err-stream.ensures.reads c.from_residual-in_err-stream.ensures.1)

pub returns-in_err-stream-clause-writable : goal.returns-in_err-stream-clause-writable
returns-in_err-stream-clause-writable g c = IfOk-from_err c.from_residual-in_err-stream.result _ c.from_residual-in_err-stream.ensures.0

pub returns-clause-reads : goal.returns-clause-reads
returns-clause-reads g c =
    reads-then c.in_ok-machine.ensures.reads
    (reads-as c.in_ok-stream.ensures.reads (quiet-answers c.in_ok-machine.machine c.in_ok-stream.stream.items c.answers.result c.answers.ensures.does))

pub returns-clause-writable : goal.returns-clause-writable
returns-clause-writable g c = c.answers.ensures.writable

pub answers-requires : goal.answers-requires
answers-requires g c = c.in_ok-stream.ensures.does.0
