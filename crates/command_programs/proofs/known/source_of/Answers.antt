use Rattle.command_steps.specs.Steps.{goes_on}
use Rattle.command_steps.proofs.Laws.{stops_by, reads-as, reads-err}
use Rattle.command_programs.proofs.KnownLemmas.{compiled-read}
use Rattle.command_programs.proofs.known.source_of.Goals as goal

pub returns-in_err-bytes-clause-does : goal.returns-in_err-bytes-clause-does
returns-in_err-bytes-clause-does g c = stops_by c.in_err-bytes.field-0.0 c.from_residual.result c.in_err-bytes.ensures.does c.from_residual.ensures.1

pub returns-clause-does : goal.returns-clause-does
returns-clause-does g c = goes_on c.in_ok-bytes.bytes c.in_ok-bytes.ensures.does c.compiled.ensures.does

pub returns-in_err-bytes-clause-reads : goal.returns-in_err-bytes-clause-reads
returns-in_err-bytes-clause-reads g c = reads-err c.in_err-bytes.field-0.0 c.from_residual.result c.in_err-bytes.ensures.reads c.from_residual.ensures.1

pub returns-clause-reads : goal.returns-clause-reads
returns-clause-reads g c =
    reads-as c.in_ok-bytes.ensures.reads (compiled-read c.args.desc.now c.args.fold c.args.name.now c.in_ok-bytes.bytes.items c.compiled.result c.compiled.ensures.does)

pub returns-clause-filled : goal.returns-clause-filled
returns-clause-filled g c = c.compiled.ensures.filled
