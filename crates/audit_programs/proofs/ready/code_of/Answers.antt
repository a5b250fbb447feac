use Rattle.std.proofs.Common.{Result, Ok, Err, List, ℕ, ◌∙◌, ap, sym, subst}
use Rattle.std.specs.Prelude.{IsOk}
use Rattle.std.proofs.lemmas.Bool.{false≢true}
use Rattle.mate_code.specs.BytesVerification.{bytes_verification}
use Rattle.mate_code.specs.Run.{Code}
use Rattle.mate_code.specs.declared.fault.VerifyFault.{VerifyFault}
use Rattle.mate_code.specs.Verification.{Marks}
use Rattle.vm_shape.specs.Shapes.{shape_of}
use Rattle.mate_journal.specs.declared.program.Program.{Program}
use Rattle.capsule_codec.specs.Image.{CapsuleParts}
use Rattle.capsule_codec.specs.Reading.{GivesCapsule, capsule_in}
use Rattle.capsule_codec.specs.declared.capsule.Capsule.{Capsule}
use Rattle.capsule_codec.specs.declared.decoding.CapsuleFault.{CapsuleFault}
use Rattle.audit_programs.proofs.ReadyRuns.{capsule-read, IsImageCode-verified}
use Rattle.audit_programs.proofs.ready.code_of.Goals as goal

pub returns : goal.returns
returns c =
    let d = c.args.desc.now in
    let p = c.args.program.now in
    let P : Result Capsule CapsuleFault → Type 0 = λ r. GivesCapsule r (capsule_in d c.as_slice.result.now) in
    let read = capsule-read d p c.requires c.as_slice.result.now (Ok c.in-Ok.capsule) (c.as_slice.ensures.value ∙ ap (λ (q : Program). q.image.items) c.program.view_is) (subst P c.in-Ok.is c.decode-decoded.ensures.value) in
    IsImageCode-verified d p c.requires c.as_slice-2.result.now c.in-Ok-verify.code (c.as_slice-2.ensures.value ∙ ap (λ (x : CapsuleParts). x.code) read) c.in-Ok-verify.ensures

pub unreachable-requires : goal.unreachable-requires
unreachable-requires c =
    let d = c.args.desc.now in
    let P : Result Capsule CapsuleFault → Type 0 = λ r. GivesCapsule r (capsule_in d c.as_slice.result.now) in
    capsule-read d c.args.program.now c.requires c.as_slice.result.now (Err c.in-Err.field-0) (c.as_slice.ensures.value ∙ ap (λ (q : Program). q.image.items) c.program.view_is) (subst P c.in-Err.is c.decode-decoded.ensures.value)

pub unreachable-requires-in_default : goal.unreachable-requires-in_default
unreachable-requires-in_default c =
    let d = c.args.desc.now in
    let P : Result Capsule CapsuleFault → Type 0 = λ r. GivesCapsule r (capsule_in d c.as_slice.result.now) in
    let read = capsule-read d c.args.program.now c.requires c.as_slice.result.now (Ok c.in-Ok.capsule) (c.as_slice.ensures.value ∙ ap (λ (q : Program). q.image.items) c.program.view_is) (subst P c.in-Ok.is c.decode-decoded.ensures.value) in
    false≢true (subst (λ (r : Result (Code × Marks) VerifyFault). IsOk r) c.in_default.ensures
    (subst (λ (bytes : List ℕ). IsOk (bytes_verification (shape_of d) bytes)) (sym (c.as_slice-2.ensures.value ∙ ap (λ (x : CapsuleParts). x.code) read)) c.requires.verified))
