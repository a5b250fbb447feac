use Rattle.std.proofs.Common.{◌≡◌, ◌<◌, ◌∙◌, Result, Ok, List, ℕ, ap, sym, subst, arith}
use Rattle.std.specs.Prelude.{Bool, true, false, nat_lt, if◌then◌else◌, length, IfOk}
use Rattle.capsule_codec.specs.Image.{CapsuleParts, capsule_parts, capsule_image, IsOfMachine}
use Rattle.capsule_codec.specs.Reading.{capsule_in, GivesCapsule}
use Rattle.capsule_codec.specs.declared.capsule.Capsule.{Capsule}
use Rattle.capsule_codec.specs.declared.decoding.CapsuleFault.{CapsuleFault}
use Rattle.vm_shape.specs.Shapes.{shape_of}
use Rattle.vm_shape.specs.declared.description.Description.{Description}
use Rattle.vm_shape.proofs.DescriptionLemmas.{bounds_of}
use Rattle.mate_code.specs.BytesVerification.{bytes_verification}
use Rattle.command_documents.specs.declared.answer.Answer.TheVariants.{Installed, NotNewer}
use Rattle.command_documents.specs.FeedAnswers.{Held, if_newer, verified_answer, decoded_answer}
use Rattle.command_documents.specs.FeedLines.{HasHandler}
use Rattle.command_documents.specs.FeedReading.{held_by}
use Rattle.command_documents.proofs.held_versions.HeldVersions.answer_image.Goals as goal

of_machine : (d : Description) (bytes : List ℕ) (r : Result Capsule CapsuleFault) (k : Capsule) → r ≡ Ok k → IfOk r (λ c. (bytes ≡ capsule_image (capsule_parts c)) × IsOfMachine d (capsule_parts c))
    → k.handler.0 < length d.handlers.items
of_machine d bytes r k is right = (subst (λ (r : Result Capsule CapsuleFault). IfOk r (λ c. (bytes ≡ capsule_image (capsule_parts c)) × IsOfMachine d (capsule_parts c))) is right).1.handler

newer-handler : (d : Description) (held : Held) (k : CapsuleParts) → k.handler < length d.handlers.items → HasHandler d (if_newer held k)
newer-handler d held k low = by (nat_lt (held k.handler) k.version) where
  by : (b : Bool) → HasHandler d (if b then Installed (record { 0 = k.handler }) k.version else NotNewer (held k.handler))
  by true = low
  by false = tt

pub returns-in-Err-clause-answer : goal.returns-in-Err-clause-answer
returns-in-Err-clause-answer c =
    let d = c.args.desc.now in
    let read = subst (λ r. GivesCapsule r (capsule_in d c.args.image.now)) c.in-Err.is c.decode-decoded.ensures.value in
    ap (decoded_answer d (held_by c.args.self.now)) (sym read)

pub take-requires : goal.take-requires
take-requires c =
    let low = of_machine c.args.desc.now c.args.image.now c.decode-decoded.result c.in-Ok.capsule c.in-Ok.is c.decode-decoded.ensures.image in
    let high = (bounds_of c.args.desc.now).handlers_high in
    omega (arith, low, high)

pub returns-in-Ok-check-clause-answer : goal.returns-in-Ok-check-clause-answer
returns-in-Ok-check-clause-answer c =
    let d = c.args.desc.now in
    let held = held_by c.args.self.now in
    let read = subst (λ r. GivesCapsule r (capsule_in d c.args.image.now)) c.in-Ok.is c.decode-decoded.ensures.value in
    let verified = ap (bytes_verification (shape_of d)) (sym c.as_slice.ensures.value) ∙ c.in-Ok-check.ensures.1 in
    c.take.ensures.answer ∙ sym (ap (decoded_answer d held) read ∙ ap (verified_answer held (capsule_parts c.in-Ok.capsule)) verified)

pub returns-in-Ok-check-clause-handler : goal.returns-in-Ok-check-clause-handler
returns-in-Ok-check-clause-handler c =
    let low = of_machine c.args.desc.now c.args.image.now c.decode-decoded.result c.in-Ok.capsule c.in-Ok.is c.decode-decoded.ensures.image in
    subst (HasHandler c.args.desc.now) (sym c.take.ensures.answer) (newer-handler c.args.desc.now (held_by c.args.self.now) (capsule_parts c.in-Ok.capsule) low)

pub returns-in-Err-check-clause-answer : goal.returns-in-Err-check-clause-answer
returns-in-Err-check-clause-answer c =
    let d = c.args.desc.now in
    let held = held_by c.args.self.now in
    let read = subst (λ r. GivesCapsule r (capsule_in d c.args.image.now)) c.in-Ok.is c.decode-decoded.ensures.value in
    let verified = ap (bytes_verification (shape_of d)) (sym c.as_slice.ensures.value) ∙ c.in-Err-check.ensures in
    sym (ap (decoded_answer d held) read ∙ ap (verified_answer held (capsule_parts c.in-Ok.capsule)) verified)
