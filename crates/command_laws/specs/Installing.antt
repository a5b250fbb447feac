-- What calls of a node's `install` answer to frames, one after another, by the definitions of these calls.
use Rattle.std.specs.Prelude.{◌≡◌, ℕ, List, [], ◌∷◌}
use Rattle.arrayvec.specs.ArrayVec.{ArrayVec}
use Rattle.vm_shape.specs.declared.description.Description.{Description}
use Rattle.mate_journal.specs.Journal.{NodeState, JournalEntry, held, state_after_entries}
use Rattle.mate_journal.specs.Pace.{Pace}
use Rattle.node_state.specs.Meaning.{machine_in}
use Rattle.node_calls.specs.Installing.{Refuses, InstallsBytes, capsule_handler}
use Rattle.node_calls.specs.declared.installing.InstallFault.{InstallFault}
use Rattle.node_calls.specs.declared.installing.InstallFault.TheVariants.{Capsule, Code, NotNewer as NoNewer}
use Rattle.slip_gateway.specs.declared.frames.Frame.{Frame}
use Rattle.slip_gateway.specs.declared.frames.Frame.TheVariants as frame
use Rattle.command_documents.specs.FeedAnswers.{Held}
use Rattle.command_documents.specs.declared.answer.Answer.{Answer}
use Rattle.command_documents.specs.declared.answer.Answer.TheVariants.{Installed, NotNewer, NoCapsule, BadCode, Long, Broken}

-- the versions that a node in this state holds
abbrev pub held_in : NodeState → Held
held_in r = λ h. held r (record { 0 = h })

-- a refusal of `install` as an answer
abbrev pub frame_answer : InstallFault → Answer
frame_answer (Capsule why) = NoCapsule why
frame_answer (Code why) = BadCode why
frame_answer (NoNewer version) = NotNewer version

-- what a node in state r answers to a frame, and its state then
pub data IsFrameAnswer (d : Description) (r : NodeState) (f : Frame) (a : Answer) (after : NodeState) : Type 0 where
  installs : (image : ArrayVec ℕ) (p : Pace) (told : List JournalEntry) (i : InstallsBytes d r image.items p told) → f ≡ frame.Whole image
      → a ≡ Installed (capsule_handler i.capsule) i.capsule.version → after ≡ state_after_entries (machine_in d) r told
      → IsFrameAnswer d r f a after
  refuses : (image : ArrayVec ℕ) (why : InstallFault) → Refuses d r image.items why → f ≡ frame.Whole image → a ≡ frame_answer why
      → after ≡ r → IsFrameAnswer d r f a after
  long : f ≡ frame.TooLong → a ≡ Long → after ≡ r → IsFrameAnswer d r f a after
  broken : f ≡ frame.BadEscape → a ≡ Broken → after ≡ r → IsFrameAnswer d r f a after

-- the answers to frames, one after another
abbrev pub AreAnswered : Description → NodeState → List Frame → List Answer → Type 0
AreAnswered d r [] told = told ≡ []
AreAnswered d r (f ∷ fs) told =
    (a : Answer) × (others : List Answer) × (after : NodeState) × (told ≡ a ∷ others) × IsFrameAnswer d r f a after
    × AreAnswered d after fs others
