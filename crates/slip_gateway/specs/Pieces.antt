-- A stream that is cut at its first END, and the frame of what stands there.
use Rattle.std.specs.Prelude.{◌≡◌, ◌<◌, ℕ, false, List, ◌++◌, length}
use Rattle.slip_gateway.specs.Stream.{unescaped, framed, frame_of, frames}
use Rattle.slip_gateway.specs.declared.frames.Frame.{Frame}
use Rattle.slip_gateway.specs.declared.frames.Frame.TheVariants as frame
use Rattle.slip_gateway.specs.declared.pieces.FrameFault.{FrameFault}
use Rattle.slip_gateway.specs.declared.pieces.FrameFault.TheVariants.{TooLong, BadEscape}

-- the piece stands before the first END of the stream, and the other bytes behind it
pub record IsFirstPiece (stream piece behind : List ℕ) : Type 0 where
  pub gives : frames stream ≡ frame_of piece ++ frames behind
  pub shorter : length behind < length stream

-- the frame of a piece that isn't empty
abbrev pub frame_at : List ℕ → Frame
frame_at piece = framed (unescaped false piece)

-- the frame has these bytes
abbrev pub IsWholeFrame : Frame → List ℕ → Type 0
IsWholeFrame f bytes = f ≡ frame.Whole (record { items = bytes })

-- the frame that isn't whole for this cause
abbrev pub fault_frame : FrameFault → Frame
fault_frame TooLong = frame.TooLong
fault_frame BadEscape = frame.BadEscape
