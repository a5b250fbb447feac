-- A stream that closes one long frame.
use Rattle.std.proofs.Common.{◌≡◌, ◌≢◌, ◌<◌, ℕ, Bool, false, List, [], ◌∷◌, ◌++◌, length, Some, refl, ap, ◌∙◌, arith}
use Rattle.std.specs.Prelude.{if◌then◌else◌, nat_le}
use Rattle.std.specs.List.{flat_map}
use Rattle.std.proofs.lemmas.Bool.Decides.{nat_tests}
use Rattle.slip_gateway.specs.Stream.{closed_pieces, unescaped, whole_frame, framed, frame_of, frames}
use Rattle.slip_gateway.specs.declared.frames.Frame.{Frame}
use Rattle.slip_gateway.specs.declared.frames.Frame.TheVariants.{Whole, TooLong}

too_long : (whole : List ℕ) → 1056 < length whole → whole_frame whole ≡ TooLong
too_long whole long =
    let over : nat_le (length whole) 1056 ≡ false = grind (arith, nat_tests) in
    ap (λ (fits : Bool). if fits then Whole (record { items = whole }) else TooLong) over

of_long : (bytes whole : List ℕ) → bytes ≢ [] → unescaped false bytes ≡ Some whole → 1056 < length whole → frame_of bytes ≡ TooLong ∷ []
of_long [] whole some is long = absurd (some refl)
of_long (b ∷ bs) whole some is long = ap (λ (f : Frame). f ∷ []) (ap framed is ∙ too_long whole long)

pub long_frame : (piece bytes whole : List ℕ) → closed_pieces [] piece ≡ bytes ∷ [] → bytes ≢ [] → unescaped false bytes ≡ Some whole → 1056 < length whole → frames piece ≡ TooLong ∷ []
long_frame piece bytes whole one some is long = ap (λ (ps : List (List ℕ)). flat_map frame_of ps) one ∙ ap (λ (fs : List Frame). fs ++ []) (of_long bytes whole some is long)
