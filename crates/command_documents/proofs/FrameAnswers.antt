-- Answers by the versions that are held.
use Rattle.std.proofs.Common.{◌≡◌, ◌∙◌, ap, refl, ℕ, List, [], ◌∷◌}
use Rattle.std.specs.Prelude.{◌==◌, nat_lt, if◌then◌else◌, Result, Ok, Err}
use Rattle.capsule_codec.specs.Image.{CapsuleParts}
use Rattle.capsule_codec.specs.Reading.{capsule_in}
use Rattle.capsule_codec.specs.declared.decoding.CapsuleFault.{CapsuleFault}
use Rattle.mate_code.specs.declared.fault.VerifyFault.{VerifyFault}
use Rattle.mate_code.specs.BytesVerification.{bytes_verification}
use Rattle.mate_code.specs.Run.{Code}
use Rattle.mate_code.specs.Verification.{Marks}
use Rattle.slip_gateway.specs.declared.frames.Frame.{Frame}
use Rattle.slip_gateway.specs.declared.frames.Frame.TheVariants.{Whole, TooLong, BadEscape}
use Rattle.vm_shape.specs.Shapes.{shape_of}
use Rattle.vm_shape.specs.declared.description.Description.{Description}
use Rattle.command_documents.specs.FeedAnswers.{Held, if_newer, verified_answer, decoded_answer, answer_to, held_after, answers_from}
use Rattle.command_documents.specs.declared.answer.Answer.{Answer}
use Rattle.command_documents.specs.declared.answer.Answer.TheVariants.{Installed, NotNewer, NoCapsule, BadCode, Long, Broken}

-- what is held for each handler decides the answer
pub same-answer : (d : Description) (f g : Held) (x : Frame) → ((h : ℕ) → f h ≡ g h) → answer_to d f x ≡ answer_to d g x
same-answer d f g (Whole image) same = by_capsule (capsule_in d image.items) where
  by_newer : (c : CapsuleParts) → if_newer f c ≡ if_newer g c
  by_newer c = ap (λ (v : ℕ). if nat_lt v c.version then Installed (record { 0 = c.handler }) c.version else NotNewer v) (same c.handler)

  by_code : (c : CapsuleParts) (v : Result (Code × Marks) VerifyFault) → verified_answer f c v ≡ verified_answer g c v
  by_code c (Ok code) = by_newer c
  by_code c (Err why) = refl

  by_capsule : (c : Result CapsuleParts CapsuleFault) → decoded_answer d f c ≡ decoded_answer d g c
  by_capsule (Ok c) = by_code c (bytes_verification (shape_of d) c.code)
  by_capsule (Err why) = refl
same-answer d f g TooLong same = refl
same-answer d f g BadEscape same = refl

pub after-same : (f g : Held) (a : Answer) → ((h : ℕ) → f h ≡ g h) → (h : ℕ) → held_after f a h ≡ held_after g a h
after-same f g (Installed k v) same h = ap (λ (x : ℕ). if h == k.0 then v else x) (same h)
after-same f g _ same h = same h

-- and all later ones
pub answers-same : (d : Description) (f g : Held) (fs : List Frame) → ((h : ℕ) → f h ≡ g h) → answers_from d f fs ≡ answers_from d g fs
answers-same d f g [] same = refl
answers-same d f g (x ∷ fs) same =
    let a : Answer = answer_to d f x in
    let b : Answer = answer_to d g x in
    let alike : a ≡ b = same-answer d f g x same in
    ap (λ (y : Answer). y ∷ answers_from d (held_after f a) fs) alike
    ∙ ap (λ (more : List Answer). b ∷ more) (answers-same d (held_after f a) (held_after g b) fs
    (λ h. after-same f g a same h ∙ ap (λ (y : Answer). held_after g y h) alike))
