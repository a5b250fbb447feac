-- A capsule in a file has one answer.
use Rattle.std.proofs.Common.{◌≡◌, ℕ, List, Ok, Err, ap, subst}
use Rattle.std.specs.Global.{Vec}
use Rattle.capsule_codec.specs.Image.{CapsuleParts}
use Rattle.mate_code.specs.Run.{Code}
use Rattle.mate_files.specs.Files.{Names}
use Rattle.vm_shape.specs.declared.description.Description.{Description}
use Rattle.command_refusals.specs.declared.capsule_cause.CapsuleCause.{CapsuleCause}
use Rattle.command_steps.specs.CapsuleFiles.{spelled_code, spelled_capsule, capsule}
use Rattle.command_steps.specs.OneAnswer.{AnswersAgree, steady}
use Rattle.command_steps.proofs.OneAnswer.{then_agrees, judged_agrees, SameBytes, file_agrees}

-- the same capsule, with the same verified code
pub record SameCapsule (a b : CapsuleParts × Code) : Type 0 where
  pub parts : a.0 ≡ b.0
  pub code : a.1 ≡ b.1

-- ---- the step

spelled_agrees : (d : Description) (name bytes : List ℕ) → AnswersAgree SameCapsule (spelled_capsule d name bytes) (spelled_capsule d name bytes)
spelled_agrees d name bytes = judged_agrees SameCapsule _ _ _ one not same where
  one : (a b : CapsuleParts × Code) → spelled_code d bytes ≡ Ok a → spelled_code d bytes ≡ Ok b → SameCapsule a b
  one a b p q =
      let e : a ≡ b = cc in
      record { parts = ap (λ (x : CapsuleParts × Code). x.0) e; code = ap (λ (x : CapsuleParts × Code). x.1) e }

  not : (a : CapsuleParts × Code) (e : CapsuleCause) → spelled_code d bytes ≡ Ok a → spelled_code d bytes ≡ Err e → ⊥
  not a e p q = cc

  same : (e h : CapsuleCause) → spelled_code d bytes ≡ Err e → spelled_code d bytes ≡ Err h → e ≡ h
  same e h p q = cc

pub capsule_agrees : (names : Names) (d : Description) (name : List ℕ) → AnswersAgree SameCapsule (capsule (steady names) d name) (capsule (steady names) d name)
capsule_agrees names d name =
    then_agrees SameBytes SameCapsule _ _ _ _ (file_agrees names name)
    (λ a b e. subst (λ (bs : List ℕ). AnswersAgree SameCapsule (spelled_capsule d name a.items) (spelled_capsule d name bs)) (same a b e) (spelled_agrees d name a.items)) where
      same : (a b : Vec ℕ) → SameBytes a b → a.items ≡ b.items
      same a b e = e
