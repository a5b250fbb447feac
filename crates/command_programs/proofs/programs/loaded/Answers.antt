use Rattle.std.proofs.Common.{◌≡◌, ℕ, Ok, None, refl, subst, sym}
use Rattle.arrayvec.specs.ArrayVec.{ArrayVec}
use Rattle.capsule_codec.specs.Image.{IsOfMachine, capsule_parts, capsule_image}
use Rattle.mate_journal.specs.declared.program.Program.{Program}
use Rattle.command_steps.specs.CapsuleFiles.{capsule}
use Rattle.command_steps.specs.HeldCapsules.{parts_held}
use Rattle.command_steps.specs.declared.capsule_file.VerifiedCapsule.{VerifiedCapsule}
use Rattle.command_steps.specs.Parts.{Folder}
use Rattle.command_steps.specs.Steps.{goes_on}
use Rattle.command_steps.proofs.Laws.{stops_by, reads-as, reads-err}
use Rattle.node_programs.specs.Right.{IsRightProgram}
use Rattle.command_programs.specs.Programs.{IsLoaded}
use Rattle.command_programs.proofs.ReadLemmas.{if-err, obtained-stops, obtained-read}
use Rattle.command_programs.proofs.EachLemmas.{capsule-text}
use Rattle.command_programs.proofs.RightLemmas.{IsRightProgram-loaded}
use Rattle.command_programs.proofs.programs.loaded.Goals as goal

pub returns-in_err-held-clause-does : goal.returns-in_err-held-clause-does
returns-in_err-held-clause-does g c = stops_by c.in_err-held.field-0.0 c.from_residual.result c.in_err-held.ensures.does c.from_residual.ensures.1

pub returns-clause-does : goal.returns-clause-does
returns-clause-does g c =
    let f : Folder = record { told = g.F.Files.contents c.args.files.now; steady = g.F.Files.steady c.args.files.now } in
    let held : VerifiedCapsule = c.deref.result.now in
    let same : c.deref.result.now ≡ c.in_ok-held.held.value = cc in
    let Is : VerifiedCapsule → Type 0 = λ h. capsule f c.args.desc.now c.args.name.now (Ok (parts_held h)) in
    goes_on (parts_held held) (subst Is (sym same) c.in_ok-held.ensures.does)
    (subst (IsLoaded (capsule_parts held.capsule)) (sym c.loaded.ensures) (record { handler = refl; version_is = refl; source = refl; image = c.in_ok-image.ensures.image }))

pub returns-clause-right : goal.returns-clause-right
returns-clause-right g c =
    let f : Folder = record { told = g.F.Files.contents c.args.files.now; steady = g.F.Files.steady c.args.files.now } in
    let held : VerifiedCapsule = c.deref.result.now in
    let same : c.deref.result.now ≡ c.in_ok-held.held.value = cc in
    let Is : VerifiedCapsule → Type 0 = λ h. capsule f c.args.desc.now c.args.name.now (Ok (parts_held h)) in
    let text = capsule-text f c.args.desc.now c.args.name.now (parts_held held) (subst Is (sym same) c.in_ok-held.ensures.does) in
    let machine : IsOfMachine c.args.desc.now (capsule_parts held.capsule) =
    subst (λ (h : VerifiedCapsule). IsOfMachine c.args.desc.now (capsule_parts h.capsule)) (sym same) c.in_ok-held.ensures.verified.of_machine in
    let p : Program = record { handler = held.capsule.handler; version = held.capsule.version; source = None; image = c.in_ok-image.image } in
    subst (IsRightProgram c.args.desc.now) (sym c.loaded.ensures)
    (IsRightProgram-loaded c.args.desc.now held.code.code text.1.marks (capsule_parts held.capsule) p text.1.accepted c.in_ok-image.ensures.fits machine refl refl refl c.in_ok-image.ensures.image)

pub returns-in_err-held-clause-reads : goal.returns-in_err-held-clause-reads
returns-in_err-held-clause-reads g c = reads-err c.in_err-held.field-0.0 c.from_residual.result c.in_err-held.ensures.reads c.from_residual.ensures.1

pub returns-in_err-held-clause-right : goal.returns-in_err-held-clause-right
returns-in_err-held-clause-right g c = if-err (IsRightProgram c.args.desc.now) c.in_err-held.field-0.0 c.from_residual.result c.from_residual.ensures.1

pub returns-clause-reads : goal.returns-clause-reads
returns-clause-reads g c = reads-as c.in_ok-held.ensures.reads (λ unread. unread)

pub returns-in_err-image-clause-does : goal.returns-in_err-image-clause-does
returns-in_err-image-clause-does g c =
    let f : Folder = record { told = g.F.Files.contents c.args.files.now; steady = g.F.Files.steady c.args.files.now } in
    let held : VerifiedCapsule = c.deref.result.now in
    let same : c.deref.result.now ≡ c.in_ok-held.held.value = cc in
    let Is : VerifiedCapsule → Type 0 = λ h. capsule f c.args.desc.now c.args.name.now (Ok (parts_held h)) in
    goes_on (parts_held held) (subst Is (sym same) c.in_ok-held.ensures.does)
    (obtained-stops (λ (i : ArrayVec ℕ). i.items ≡ capsule_image (capsule_parts held.capsule)) (IsLoaded (capsule_parts held.capsule)) c.in_err-image.field-0.0 c.from_residual-in_err-image.result c.in_err-image.ensures.image
    c.from_residual-in_err-image.ensures.1)

pub returns-in_err-image-clause-reads : goal.returns-in_err-image-clause-reads
returns-in_err-image-clause-reads g c =
    let held : VerifiedCapsule = c.deref.result.now in
    reads-as c.in_ok-held.ensures.reads (obtained-read (IsLoaded (capsule_parts held.capsule)) c.from_residual-in_err-image.result
    (obtained-stops (λ (i : ArrayVec ℕ). i.items ≡ capsule_image (capsule_parts held.capsule)) (IsLoaded (capsule_parts held.capsule)) c.in_err-image.field-0.0 c.from_residual-in_err-image.result c.in_err-image.ensures.image
    c.from_residual-in_err-image.ensures.1))

pub returns-in_err-image-clause-right : goal.returns-in_err-image-clause-right
returns-in_err-image-clause-right g c = if-err (IsRightProgram c.args.desc.now) c.in_err-image.field-0.0 c.from_residual-in_err-image.result c.from_residual-in_err-image.ensures.1
