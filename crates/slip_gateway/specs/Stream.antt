-- The frames of a byte stream: RFC 1055, with a bound on a frame's length and an answer to broken escapes.
use Rattle.std.specs.Prelude.{ℕ, Bool, true, false, ◌==◌, nat_le, if◌then◌else◌, List, [], ◌∷◌, ◌++◌, length, Option, Some, None}
use Rattle.std.specs.List.{flat_map}
use Rattle.std.specs.Option.{option_map}
use Rattle.mate_num.specs.declared.bounds.TheConstants.{IMAGE_MAX}
use Rattle.slip_gateway.specs.declared.slip.TheConstants.{END, ESC, ESC_END, ESC_ESC}
use Rattle.slip_gateway.specs.declared.frames.Frame.{Frame}
use Rattle.slip_gateway.specs.declared.frames.Frame.TheVariants.{Whole, TooLong, BadEscape}

abbrev pub is_end_byte : ℕ → Bool
is_end_byte b = b == END

-- the pieces that bytes close, each at its END, if some bytes of the first piece are before them
abbrev pub closed_pieces : List ℕ → List ℕ → List (List ℕ)
closed_pieces begun [] = []
closed_pieces begun (b ∷ bs) = if is_end_byte b then begun ∷ closed_pieces [] bs else closed_pieces (begun ++ b ∷ []) bs

-- the bytes of the piece that is open after them
abbrev pub rest_behind : List ℕ → List ℕ → List ℕ
rest_behind begun [] = begun
rest_behind begun (b ∷ bs) = if is_end_byte b then rest_behind [] bs else rest_behind (begun ++ b ∷ []) bs

-- the first byte, if there is one, before those of a frame
abbrev pub with_byte : ℕ → Option (List ℕ) → Option (List ℕ)
with_byte b bytes = option_map (λ bs. b ∷ bs) bytes

-- the bytes of a frame, each escape replaced, whether an ESC is before them or not; none if an escape is broken
abbrev pub unescaped : Bool → List ℕ → Option (List ℕ)
unescaped false [] = Some []
unescaped true [] = None
unescaped false (b ∷ bs) = if b == ESC then unescaped true bs else with_byte b (unescaped false bs)
unescaped true (b ∷ bs) =
    if b == ESC_END then with_byte END (unescaped false bs) else
    if b == ESC_ESC then with_byte ESC (unescaped false bs) else None

-- a frame of these bytes
abbrev pub whole_frame : List ℕ → Frame
whole_frame bs = if nat_le (length bs) IMAGE_MAX then Whole (record { items = bs }) else TooLong

abbrev pub framed : Option (List ℕ) → Frame
framed None = BadEscape
framed (Some bs) = whole_frame bs

-- what a piece gives: an empty one gives nothing
abbrev pub frame_of : List ℕ → List Frame
frame_of [] = []
frame_of (b ∷ bs) = framed (unescaped false (b ∷ bs)) ∷ []

-- the frames that bytes close, if some bytes of the first one are before them
abbrev pub frames_behind : List ℕ → List ℕ → List Frame
frames_behind begun bytes = flat_map frame_of (closed_pieces begun bytes)

-- the frames of a stream, and what is after its last END
abbrev pub frames : List ℕ → List Frame
frames bytes = frames_behind [] bytes

abbrev pub unfinished : List ℕ → List ℕ
unfinished bytes = rest_behind [] bytes
