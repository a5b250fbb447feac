use Rattle.std.proofs.Common.{◌≡◌, ℕ, List, Option, Some, None, Ok, Err, sym, ◌∙◌, ap, subst}
use Rattle.std.specs.Prelude.{IfSome}
use Rattle.std.specs.declared.alloc.Global.{Global}
use Rattle.std.specs.declared.boxed.Box.{Box}
use Rattle.capsule_codec.specs.Image.{capsule_parts}
use Rattle.capsule_codec.specs.declared.capsule.Capsule.{Capsule}
use Rattle.code_verifier.specs.Verified.{VerifiedCode, Verifies, marks_of}
use Rattle.mate_code.specs.BytesVerification.{bytes_verification}
use Rattle.mate_num.specs.declared.shape.Shape.{Shape}
use Rattle.vm_shape.specs.Shapes.{shape_of}
use Rattle.vm_shape.specs.declared.description.Description.{Description}
use Rattle.command_steps.specs.HeldCapsules.{IsHeldOf, ReadsText}
use Rattle.command_steps.specs.declared.capsule_file.VerifiedCapsule.{VerifiedCapsule}
use Rattle.command_steps.proofs.CapsuleLemmas.{code-read}
use Rattle.command_steps.proofs.capsule_file.read_capsule.Goals as goal

-- a capsule that was boxed is the one that the text spells
boxed : (d : Description) (text : List ℕ) (capsule : Capsule) (code : VerifiedCode) (o : Option (Box VerifiedCapsule Global)) → IfSome o (λ c. c.value ≡ record { capsule = capsule; code = code })
    → IsHeldOf d text (record { capsule = capsule; code = code }) → ReadsText d text (Ok o)
boxed d text capsule code None is spells = tt
boxed d text capsule code (Some c) is spells = subst (IsHeldOf d text) (sym is) spells

-- verification of these bytes gives this code
accepted : (shape : Shape) (bytes code : List ℕ) (v : VerifiedCode) → Verifies shape bytes (Ok v) → bytes ≡ code → bytes_verification shape code ≡ Ok (v.code, marks_of v)
accepted shape bytes code v is same =
    subst (λ (bs : List ℕ). bytes_verification shape bs ≡ Ok (v.code, marks_of v)) (is.bytes_are ∙ same)
    (subst (λ (s : Shape). bytes_verification s v.bytes ≡ Ok (v.code, marks_of v)) is.shape_is is.is_verified.accepted)

pub returns-in-Ok-verify : goal.returns-in-Ok-verify
returns-in-Ok-verify c =
    let is = c.in-Ok-verify.ensures in
    boxed c.args.desc.now c.args.text.now c.in-Ok.capsule c.in-Ok-verify.code c.boxed.result c.boxed.ensures
    record {
      spells = code-read c.args.desc.now c.args.text.now (capsule_parts c.in-Ok.capsule) (Ok (c.in-Ok-verify.code.code, marks_of c.in-Ok-verify.code)) c.in-Ok.ensures.0
          (accepted (shape_of c.args.desc.now) c.as_slice.result.now c.in-Ok.capsule.code.items c.in-Ok-verify.code is c.as_slice.ensures.value);
      is_for = record { of_machine = c.in-Ok.ensures.1; shape_is = is.shape_is; bytes_are = is.bytes_are ∙ c.as_slice.ensures.value };
    }

pub returns-in-Err-verify : goal.returns-in-Err-verify
returns-in-Err-verify c =
    code-read c.args.desc.now c.args.text.now (capsule_parts c.in-Ok.capsule) (Err c.in-Err-verify.fault) c.in-Ok.ensures.0
    (ap (bytes_verification (shape_of c.args.desc.now)) (sym c.as_slice.ensures.value) ∙ c.in-Err-verify.ensures)
