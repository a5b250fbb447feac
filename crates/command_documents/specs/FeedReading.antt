-- How far a stream is answered.
use Rattle.std.specs.Prelude.{◌≡◌, ℕ, suc, ◌+◌, ◌≤◌, List, ◌++◌, slice_index, Option, Result}
use Rattle.mate_files.specs.Pen.{Prints}
use Rattle.mate_files.specs.declared.sink.SinkFault.{SinkFault}
use Rattle.slip_gateway.specs.Stream.{frame_of}
use Rattle.slip_gateway.specs.declared.frames.Frame.{Frame}
use Rattle.vm_shape.specs.declared.description.Description.{Description}
use Rattle.command_documents.specs.FeedAnswers.{Held, answers_from}
use Rattle.command_documents.specs.FeedLines.{answer_lines}
use Rattle.command_documents.specs.declared.held_versions.HeldVersions.{HeldVersions}
use Rattle.command_documents.specs.declared.stream_answers.StreamAnswers.{StreamAnswers}

abbrev pub held_by : HeldVersions → Held
held_by v = λ h. slice_index v.versions h

-- the lines of the answers to the frames that come next
abbrev pub text_behind : Description → StreamAnswers → List Frame → List ℕ
text_behind d s next = answer_lines d (suc s.number) (answers_from d (held_by s.held) next)

-- what the frame of a piece adds to the text of the answers is printed
pub record PrintsPiece (d : Description) (old new : StreamAnswers) (piece : List ℕ) (w : Option (List ℕ)) (f : ℕ)
    (r : Result (Unit {0}) SinkFault) (w' : Option (List ℕ)) (f' : ℕ) (r' : Result (Unit {0}) SinkFault) : Type 0 where
  pub told : List ℕ
  pub prints : Prints w f r w' f' r' told
  pub adds : (next : List Frame) → text_behind d old (frame_of piece ++ next) ≡ told ++ text_behind d new next
  pub count : new.number ≤ old.number + 1
