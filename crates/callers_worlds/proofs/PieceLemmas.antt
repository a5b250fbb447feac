-- The bytes of a frame that is read as whole.
use Rattle.std.proofs.Common.{◌≡◌, ◌∙◌, ap, sym, ℕ, List, [], Result, Ok, Err, MatchResult, Bor}
use Rattle.slip_gateway.specs.Pieces.{frame_at, IsWholeFrame, fault_frame}
use Rattle.slip_gateway.specs.declared.frames.Frame.{Frame}
use Rattle.slip_gateway.specs.declared.frames.Frame.TheVariants as frame
use Rattle.slip_gateway.specs.declared.pieces.FrameFault.{FrameFault}
use Rattle.slip_gateway.specs.declared.pieces.FrameFault.TheVariants.{TooLong, BadEscape}

abbrev bytes_in : Frame → List ℕ
bytes_in (frame.Whole image) = image.items
bytes_in frame.TooLong = []
bytes_in frame.BadEscape = []

no_fault : (fault : FrameFault) (bytes : List ℕ) → frame.Whole (record { items = bytes }) ≡ fault_frame fault → ⊥
no_fault TooLong bytes is = absurd (cc)
no_fault BadEscape bytes is = absurd (cc)

pub whole_bytes : (begun bytes : List ℕ) (r : Result (Bor (List ℕ)) FrameFault) → frame_at begun ≡ frame.Whole (record { items = bytes })
    → MatchResult r (λ found. IsWholeFrame (frame_at begun) found.now) (λ fault. frame_at begun ≡ fault_frame fault)
    → MatchResult r (λ found. found.now ≡ bytes) (λ _. ⊥)
whole_bytes begun bytes (Ok found) is gives = ap bytes_in (sym gives ∙ is)
whole_bytes begun bytes (Err fault) is gives = no_fault fault bytes (sym is ∙ gives)
