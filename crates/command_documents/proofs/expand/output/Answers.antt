use Rattle.std.proofs.Common.{refl}
use Rattle.ts_proc_expansion.specs.Expansion.{expansion}
use Rattle.ts_proc_names.specs.Named.{written_of}
use Rattle.command_steps.specs.Steps.{goes_on}
use Rattle.command_steps.proofs.Laws.{reads-as, reads-err}
use Rattle.command_documents.proofs.OwedLemmas.{owed-stops}
use Rattle.std.proofs.lemmas.Result.{IfOk-from_err}
use Rattle.command_documents.proofs.expand.output.Goals as goal

pub returns-in_err-script-clause-does : goal.returns-in_err-script-clause-does
returns-in_err-script-clause-does g c = owed-stops c.in_err-script.field-0.0 c.from_residual.result c.in_err-script.ensures.does c.from_residual.ensures.1

pub returns-clause-does : goal.returns-clause-does
returns-clause-does g c = goes_on (expansion (written_of c.in_ok-script.script)) c.in_ok-script.ensures.does refl

pub returns-in_err-script-clause-reads : goal.returns-in_err-script-clause-reads
returns-in_err-script-clause-reads g c = reads-err c.in_err-script.field-0.0 c.from_residual.result c.in_err-script.ensures.reads c.from_residual.ensures.1

pub returns-in_err-script-clause-writable : goal.returns-in_err-script-clause-writable
returns-in_err-script-clause-writable g c = IfOk-from_err c.from_residual.result _ c.from_residual.ensures.0

pub returns-clause-reads : goal.returns-clause-reads
returns-clause-reads g c = reads-as c.in_ok-script.ensures.reads (λ none. none)

pub returns-clause-writable : goal.returns-clause-writable
returns-clause-writable g c = tt
