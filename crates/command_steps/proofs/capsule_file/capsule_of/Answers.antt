use Rattle.std.proofs.Common.{◌≡◌, ℕ, List, Result, Ok, Err, inr, refl, subst}
use Rattle.std.specs.Prelude.{IsErrAnd}
use Rattle.std.specs.declared.alloc.Global.{Global}
use Rattle.std.specs.declared.boxed.Box.{Box}
use Rattle.command_refusals.specs.declared.refusal.Refusal.{Refusal}
use Rattle.command_steps.specs.declared.capsule_file.VerifiedCapsule.{VerifiedCapsule}
use Rattle.command_steps.specs.CapsuleFiles.{spelled_code}
use Rattle.command_steps.specs.HeldCapsules.{IsHeldOf, parts_held, parts_in}
use Rattle.command_steps.specs.Steps.{goes_on}
use Rattle.command_refusals.specs.declared.cause.Cause.TheVariants as cause
use Rattle.command_steps.proofs.Laws.{stops_by, fails_as, told-read, reads-as, reads-err}
use Rattle.command_steps.proofs.capsule_file.capsule_of.Goals as goal

held-refusal : (result : Result (Box VerifiedCapsule Global) Refusal) (r : Refusal) → IsErrAnd result (λ y. y ≡ r) → IsErrAnd (parts_in result) (λ y. y ≡ r)
held-refusal (Ok c) r is = absurd is
held-refusal (Err e) r is = is

pub returns-in_err-text-clause-does : goal.returns-in_err-text-clause-does
returns-in_err-text-clause-does g c =
    stops_by c.in_err-text.field-0.0 (parts_in c.from_residual.result) c.in_err-text.ensures.does (held-refusal c.from_residual.result c.in_err-text.field-0.0 c.from_residual.ensures.1)

pub returns-in-Err-clause-does : goal.returns-in-Err-clause-does
returns-in-Err-clause-does g c =
    goes_on c.in_ok-text.text c.in_ok-text.ensures.does
    (fails_as c.in-Err.refusal c.in_file.result
    (subst (λ (bs : List ℕ). spelled_code c.args.desc.now bs ≡ Err c.in-Err.refusal) c.as_slice.ensures.value c.in-Err.ensures) c.in_file.ensures)

pub returns-in-Some-clause-does : goal.returns-in-Some-clause-does
returns-in-Some-clause-does g c =
    let read : IsHeldOf c.args.desc.now c.as_slice.result.now c.in-Some.capsule.value = rw c.in-Some.is at c.in-Ok.ensures in
    goes_on c.in_ok-text.text c.in_ok-text.ensures.does
    (subst (λ (bs : List ℕ). spelled_code c.args.desc.now bs ≡ Ok (parts_held c.in-Some.capsule.value)) c.as_slice.ensures.value read.spells)

pub returns-in-Some-clause-verified : goal.returns-in-Some-clause-verified
returns-in-Some-clause-verified g c =
    let read : IsHeldOf c.args.desc.now c.as_slice.result.now c.in-Some.capsule.value = rw c.in-Some.is at c.in-Ok.ensures in
    read.is_for

pub returns-clause-does : goal.returns-clause-does
returns-clause-does g c = goes_on c.in_ok-text.text c.in_ok-text.ensures.does (inr refl)

pub returns-in_err-text-clause-reads : goal.returns-in_err-text-clause-reads
returns-in_err-text-clause-reads g c = reads-err c.in_err-text.field-0.0 c.from_residual.result c.in_err-text.ensures.reads c.from_residual.ensures.1

pub returns-in-Err-clause-reads : goal.returns-in-Err-clause-reads
returns-in-Err-clause-reads g c = reads-as c.in_ok-text.ensures.reads (told-read (Box VerifiedCapsule Global) c.args.name.now (cause.Capsule c.in-Err.refusal) c.in_file.result c.in_file.ensures (λ unread. unread))

pub returns-in-Some-clause-reads : goal.returns-in-Some-clause-reads
returns-in-Some-clause-reads g c = reads-as c.in_ok-text.ensures.reads (λ unread. unread)

pub returns-clause-reads : goal.returns-clause-reads
returns-clause-reads g c = reads-as c.in_ok-text.ensures.reads (λ unread. unread)
