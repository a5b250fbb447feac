-- What a new node answers to the frames of a byte stream, each of which should be a capsule that it installs.
use Rattle.std.specs.Prelude.{ℕ, ◌==◌, nat_lt, if◌then◌else◌, List, [], ◌∷◌, Result, Ok, Err}
use Rattle.capsule_codec.specs.Image.{CapsuleParts}
use Rattle.capsule_codec.specs.Reading.{capsule_in}
use Rattle.capsule_codec.specs.declared.decoding.CapsuleFault.{CapsuleFault}
use Rattle.mate_code.specs.declared.fault.VerifyFault.{VerifyFault}
use Rattle.mate_code.specs.BytesVerification.{bytes_verification}
use Rattle.mate_code.specs.Run.{Code}
use Rattle.mate_code.specs.Verification.{Marks}
use Rattle.slip_gateway.specs.Stream.{frames}
use Rattle.slip_gateway.specs.declared.frames.Frame.{Frame}
use Rattle.slip_gateway.specs.declared.frames.Frame.TheVariants as frame
use Rattle.vm_shape.specs.Shapes.{shape_of}
use Rattle.vm_shape.specs.declared.description.Description.{Description}
use Rattle.command_documents.specs.declared.answer.Answer.{Answer}
use Rattle.command_documents.specs.declared.answer.Answer.TheVariants.{Installed, NotNewer, NoCapsule, BadCode, Long, Broken}

-- the version that is held for each handler, 0 for none
abbrev pub Held : Type 0
Held = ℕ → ℕ

abbrev pub no_versions : Held
no_versions = λ h. 0

abbrev pub if_newer : Held → CapsuleParts → Answer
if_newer held c = if nat_lt (held c.handler) c.version then Installed (record { 0 = c.handler }) c.version else NotNewer (held c.handler)

abbrev pub verified_answer : Held → CapsuleParts → Result (Code × Marks) VerifyFault → Answer
verified_answer held c (Ok code) = if_newer held c
verified_answer held c (Err why) = BadCode why

abbrev pub decoded_answer : Description → Held → Result CapsuleParts CapsuleFault → Answer
decoded_answer d held (Ok c) = verified_answer held c (bytes_verification (shape_of d) c.code)
decoded_answer d held (Err why) = NoCapsule why

abbrev pub answer_to : Description → Held → Frame → Answer
answer_to d held (frame.Whole image) = decoded_answer d held (capsule_in d image.items)
answer_to d held frame.TooLong = Long
answer_to d held frame.BadEscape = Broken

abbrev pub held_after : Held → Answer → Held
held_after held (Installed h version) = λ q. if q == h.0 then version else held q
held_after held _ = held

-- the answers to frames, one after another
abbrev pub answers_from : Description → Held → List Frame → List Answer
answers_from d held [] = []
answers_from d held (f ∷ fs) = answer_to d held f ∷ answers_from d (held_after held (answer_to d held f)) fs

-- a new node's answers to the frames of a stream
abbrev pub answers_to : Description → List ℕ → List Answer
answers_to d bytes = answers_from d no_versions (frames bytes)
