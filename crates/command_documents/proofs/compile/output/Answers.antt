use Rattle.std.proofs.Common.{ℕ, List, ◌++◌, codes, Err, refl, sym, subst, inl}
use Rattle.hex.specs.Hex.{encode_lower}
use Rattle.command_steps.specs.Steps.{goes_on, stops}
use Rattle.command_refusals.specs.declared.refusal.Refusal.TheVariants.{Usage}
use Rattle.command_steps.proofs.Laws.{reads-as, reads-err, reads-then}
use Rattle.command_documents.proofs.OwedLemmas.{owed-stops}
use Rattle.command_documents.specs.Compile.{source_image}
use Rattle.command_documents.specs.Owed.{writes}
use Rattle.command_documents.specs.Outputs.{owed_in}
use Rattle.command_documents.proofs.MachineLemmas.{at_machine}
use Rattle.std.proofs.lemmas.Result.{IfOk-from_err}
use Rattle.command_documents.proofs.ReadsLemmas.{quiet-memory}
use Rattle.command_documents.proofs.compile.output.Goals as goal

pub returns-in_err-machine-clause-does : goal.returns-in_err-machine-clause-does
returns-in_err-machine-clause-does g c = owed-stops c.in_err-machine.field-0.0 c.from_residual.result c.in_err-machine.ensures.does c.from_residual.ensures.1

pub returns-in_default-clause-does : goal.returns-in_default-clause-does
returns-in_default-clause-does g c =
    goes_on c.in_ok-machine.machine c.in_ok-machine.ensures.does
    (at_machine (λ f d. source_image f c.args.words.fold d c.args.words.handler.now c.args.words.version c.args.words.source.now (Err Usage)) c.in_ok-machine.machine c.description-desc.result.now c.description-desc.ensures c.in_ok-machine.ensures.reads
    (stops Usage (inl (tt, sym c.in_default.ensures, refl)) refl))

pub returns-in_err-source-clause-does : goal.returns-in_err-source-clause-does
returns-in_err-source-clause-does g c =
    goes_on c.in_ok-machine.machine c.in_ok-machine.ensures.does
    (at_machine (λ f d. source_image f c.args.words.fold d c.args.words.handler.now c.args.words.version c.args.words.source.now (owed_in c.from_residual-in_err-source.result)) c.in_ok-machine.machine c.description-desc.result.now c.description-desc.ensures c.in_ok-machine.ensures.reads
    (goes_on c.in-Some.handler (sym c.in-Some.ensures)
    (owed-stops c.in_err-source.field-0.0 c.from_residual-in_err-source.result c.in_err-source.ensures.does c.from_residual-in_err-source.ensures.1)))

pub returns-clause-does : goal.returns-clause-does
returns-clause-does g c =
    goes_on c.in_ok-machine.machine c.in_ok-machine.ensures.does
    (at_machine (λ f d. source_image f c.args.words.fold d c.args.words.handler.now c.args.words.version c.args.words.source.now (owed_in c.image_output.result)) c.in_ok-machine.machine c.description-desc.result.now c.description-desc.ensures c.in_ok-machine.ensures.reads
    (goes_on c.in-Some.handler (sym c.in-Some.ensures)
    (goes_on c.in_ok-source.source c.in_ok-source.ensures.does
    (subst (λ (bs : List ℕ). writes (encode_lower bs ++ codes "\n") (owed_in c.image_output.result)) c.encode.ensures.bytes c.image_output.ensures.does))))

pub returns-in_err-machine-clause-reads : goal.returns-in_err-machine-clause-reads
returns-in_err-machine-clause-reads g c = reads-err c.in_err-machine.field-0.0 c.from_residual.result c.in_err-machine.ensures.reads c.from_residual.ensures.1

pub returns-in_err-machine-clause-writable : goal.returns-in_err-machine-clause-writable
returns-in_err-machine-clause-writable g c = IfOk-from_err c.from_residual.result _ c.from_residual.ensures.0

pub returns-in_default-clause-reads : goal.returns-in_default-clause-reads
returns-in_default-clause-reads g c = reads-as c.in_ok-machine.ensures.reads (λ none. none)

pub returns-in_default-clause-writable : goal.returns-in_default-clause-writable
returns-in_default-clause-writable g c = tt

pub returns-in_err-source-clause-reads : goal.returns-in_err-source-clause-reads
returns-in_err-source-clause-reads g c =
    reads-then c.in_ok-machine.ensures.reads
    (reads-err c.in_err-source.field-0.0 c.from_residual-in_err-source.result c.in_err-source.ensures.reads c.from_residual-in_err-source.ensures.1)

pub returns-in_err-source-clause-writable : goal.returns-in_err-source-clause-writable
returns-in_err-source-clause-writable g c = IfOk-from_err c.from_residual-in_err-source.result _ c.from_residual-in_err-source.ensures.0

pub returns-clause-reads : goal.returns-clause-reads
returns-clause-reads g c =
    reads-then c.in_ok-machine.ensures.reads (reads-as c.in_ok-source.ensures.reads (quiet-memory c.image_output.result c.image_output.ensures.memory))

pub returns-clause-writable : goal.returns-clause-writable
returns-clause-writable g c = c.image_output.ensures.writable
