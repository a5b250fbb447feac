use Rattle.std.proofs.Common.{◌≡◌, ℕ, List, Some, refl, sym, subst}
use Rattle.capsule_codec.specs.Image.{CapsuleParts, IsCapsule, capsule_image}
use Rattle.mate_journal.specs.declared.program.Program.{Program}
use Rattle.node_programs.specs.Right.{IsRightProgram}
use Rattle.command_steps.specs.SourceCode.{IsCompiledOf}
use Rattle.command_steps.specs.declared.code.CompiledScript.{CompiledScript}
use Rattle.vm_shape.specs.Shapes.{shape_of}
use Rattle.command_programs.proofs.RightLemmas.{IsRightProgram-compiled}
use Rattle.command_programs.proofs.shared_source.SharedSource.program.Goals as goal

pub returns-clause-right : goal.returns-clause-right
returns-clause-right c =
    λ fold bytes tree accepted is.
    let d = c.args.desc.now in
    let x : CompiledScript = c.as_ref.result.now in
    let view = c.self.view_is in
    let same : c.args.self ≡ x = (let e = c.as_ref.ensures in cc) in
    let parts : CapsuleParts = record { vm_id = d.vm_id; handler = c.args.handler.0; version = c.args.version; code = x.code.items } in
    let p : Program = record { handler = c.args.handler; version = c.args.version; source = Some x.script; image = c.in_ok-image.image } in
    let code_is : c.as_slice.result.now ≡ x.code.items = c.as_slice.ensures.value in
    let with_code : List ℕ → CapsuleParts = λ code. record { vm_id = d.vm_id; handler = c.args.handler.0; version = c.args.version; code = code } in
    let fits : IsCapsule parts = subst (λ (code : List ℕ). IsCapsule (with_code code)) code_is c.in_ok-image.ensures.fits in
    let image : c.in_ok-image.image.items ≡ capsule_image parts = subst (λ (code : List ℕ). c.in_ok-image.image.items ≡ capsule_image (with_code code)) code_is c.in_ok-image.ensures.image in
    subst (IsRightProgram d) (sym c.compiled.ensures)
    (IsRightProgram-compiled d fold bytes tree x parts p accepted (subst (λ (s : CompiledScript). IsCompiledOf (shape_of d) fold tree s) same is) fits (record { vm_id = refl; handler = c.requires.handler }) refl refl refl refl
    image)
