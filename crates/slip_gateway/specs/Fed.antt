-- What the reader keeps of the bytes that it was given.
use Rattle.std.specs.Prelude.{◌≡◌, ℕ, Bool, true, false, ◌==◌, if◌then◌else◌, List, [], ◌∷◌, ◌++◌, length, Option, Some, None}
use Rattle.mate_num.specs.declared.bounds.TheConstants.{IMAGE_MAX}
use Rattle.slip_gateway.specs.Stream.{unescaped, whole_frame, framed, unfinished}
use Rattle.slip_gateway.specs.declared.frames.Frame.{Frame}
use Rattle.slip_gateway.specs.declared.frames.Frame.TheVariants as frame
use Rattle.slip_gateway.specs.declared.slip.Slip.{Slip}
use Rattle.slip_gateway.specs.declared.slip.Escapes.{Escapes}
use Rattle.slip_gateway.specs.declared.slip.Escapes.TheVariants.{Whole, Open, Broken}
use Rattle.slip_gateway.specs.declared.slip.TheConstants.{END, ESC, ESC_END, ESC_ESC}

-- no byte of a frame was read
abbrev pub fresh_slip : Slip
fresh_slip = record { image = record { items = [] }; too_long = false; escapes = Whole }

abbrev pub is_nil : List ℕ → Bool
is_nil [] = true
is_nil (b ∷ bs) = false

abbrev pub is_fresh_in : Escapes → List ℕ → Bool
is_fresh_in Whole image = is_nil image
is_fresh_in Open image = false
is_fresh_in Broken image = false

abbrev pub is_fresh : Slip → Bool
is_fresh s = is_fresh_in s.escapes s.image.items

-- one more byte of the frame
abbrev pub added : Slip → ℕ → Slip
added s b =
    if length s.image.items == IMAGE_MAX then record s { too_long = true }
    else record s { image = record { items = s.image.items ++ b ∷ [] } }

-- the byte after an ESC
abbrev pub replaced : Slip → ℕ → Slip
replaced s b =
    if b == ESC_END then added (record s { escapes = Whole }) END else
    if b == ESC_ESC then added (record s { escapes = Whole }) ESC else record s { escapes = Broken }

-- a byte within the frame
abbrev pub pushed_in : Escapes → Slip → ℕ → Slip
pushed_in Whole s b = if b == ESC then record s { escapes = Open } else added s b
pushed_in Open s b = replaced s b
pushed_in Broken s b = s

abbrev pub pushed : Slip → ℕ → Slip
pushed s b = pushed_in s.escapes s b

-- what the frame gives that ends here
abbrev pub frame_given : Escapes → Bool → List ℕ → Frame
frame_given Whole true image = frame.TooLong
frame_given Whole false image = frame.Whole (record { items = image })
frame_given Open long image = frame.BadEscape
frame_given Broken long image = frame.BadEscape

abbrev pub frame_left : Slip → Option Frame
frame_left s = if is_fresh s then None else Some (frame_given s.escapes s.too_long s.image.items)

-- the bytes that follow, with their escapes replaced
abbrev pub unescaped_in : Escapes → List ℕ → Option (List ℕ)
unescaped_in Whole more = unescaped false more
unescaped_in Open more = unescaped true more
unescaped_in Broken more = None

-- a frame of the bytes that were kept, and of more
abbrev pub framed_behind : Bool → List ℕ → Option (List ℕ) → Frame
framed_behind long image None = frame.BadEscape
framed_behind true image (Some more) = frame.TooLong
framed_behind false image (Some more) = whole_frame (image ++ more)

-- the reader is after these bytes of a frame: whatever follows, it gives what they and that give
pub record IsBehind (s : Slip) (begun : List ℕ) : Type 0 where
  pub gives : (more : List ℕ) → framed_behind s.too_long s.image.items (unescaped_in s.escapes more)
      ≡ framed (unescaped false (begun ++ more))
  pub starts : is_fresh s ≡ is_nil begun

-- the reader was given these bytes, in whatever pieces
pub record HasFed (s : Slip) (fed : List ℕ) : Type 0 where
  pub behind : IsBehind s (unfinished fed)
