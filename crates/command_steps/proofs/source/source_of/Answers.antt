use Rattle.std.proofs.Common.{ℕ, Bool, List, Result, Ok, Err, subst}
use Rattle.vm_shape.specs.declared.description.Description.{Description}
use Rattle.command_steps.specs.declared.code.CompiledScript.{CompiledScript}
use Rattle.command_refusals.specs.declared.cause.Cause.TheVariants as cause
use Rattle.command_refusals.specs.declared.refusal.Refusal.{Refusal}
use Rattle.command_steps.specs.Parts.{IsUnreadAnswer}
use Rattle.command_steps.specs.Sources.{compiled_bytes}
use Rattle.command_steps.specs.Steps.{goes_on, stops}
use Rattle.command_steps.proofs.Laws.{stops_by, judged-read, reads-as, reads-err}
use Rattle.command_steps.proofs.source.source_of.Goals as goal

-- the compiled script of bytes is no file that can't be read
compiled-read : (d : Description) (fold : Bool) (name bytes : List ℕ) (answer : Result CompiledScript Refusal) → compiled_bytes d fold name bytes answer → IsUnreadAnswer answer → ⊥
compiled-read d fold name bytes (Ok c) is unread = unread
compiled-read d fold name bytes (Err r) (goes_on tree means refused) unread = judged-read CompiledScript name cause.Code r refused (λ why u. u) unread
compiled-read d fold name bytes (Err r) (stops s refused is) unread =
    let P : Result CompiledScript Refusal → Type 0 = λ x. IsUnreadAnswer x in
    judged-read CompiledScript name cause.Source s refused (λ why u. u) (subst P is unread)

pub returns-in_err-bytes-clause-does : goal.returns-in_err-bytes-clause-does
returns-in_err-bytes-clause-does g c = stops_by c.in_err-bytes.field-0.0 c.from_residual.result c.in_err-bytes.ensures.does c.from_residual.ensures.1

pub returns-clause-does : goal.returns-clause-does
returns-clause-does g c =
    goes_on c.in_ok-bytes.bytes c.in_ok-bytes.ensures.does
    (subst (λ (bs : List ℕ). compiled_bytes c.args.desc.now c.args.fold c.args.name.now bs c.compiled_bytes_with.result) c.as_slice.ensures.value c.compiled_bytes_with.ensures.does)

pub returns-in_err-bytes-clause-reads : goal.returns-in_err-bytes-clause-reads
returns-in_err-bytes-clause-reads g c = reads-err c.in_err-bytes.field-0.0 c.from_residual.result c.in_err-bytes.ensures.reads c.from_residual.ensures.1

pub returns-clause-reads : goal.returns-clause-reads
returns-clause-reads g c =
    reads-as c.in_ok-bytes.ensures.reads (compiled-read c.args.desc.now c.args.fold c.args.name.now c.as_slice.result.now c.compiled_bytes_with.result c.compiled_bytes_with.ensures.does)

pub returns-clause-filled : goal.returns-clause-filled
returns-clause-filled g c = c.compiled_bytes_with.ensures.filled
