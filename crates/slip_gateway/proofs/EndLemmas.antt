-- How many frames a stream has.
use Rattle.std.proofs.Common.{ℕ, suc, ◌≤◌, List, [], ◌∷◌, ◌++◌, length, true, false, Bool, arith}
use Rattle.std.specs.Prelude.{if◌then◌else◌}
use Rattle.std.specs.List.{flat_map}
use Rattle.slip_gateway.specs.Stream.{is_end_byte, closed_pieces, frame_of, frames_behind, frames}

-- ---- frames are at most as many as bytes

at_most_one : (piece : List ℕ) (more : List (List ℕ)) → length (flat_map frame_of (piece ∷ more)) ≤ suc (length (flat_map frame_of more))
at_most_one [] more = omega arith
at_most_one (b ∷ bs) more = omega arith

few-behind : (begun bytes : List ℕ) → length (frames_behind begun bytes) ≤ length bytes
few-behind begun [] = omega arith
few-behind begun (b ∷ bs) = by (is_end_byte b) (few-behind [] bs) (few-behind (begun ++ b ∷ []) bs) where
  by : (t : Bool) → length (frames_behind [] bs) ≤ length bs → length (frames_behind (begun ++ b ∷ []) bs) ≤ length bs
      → length (flat_map frame_of (if t then begun ∷ closed_pieces [] bs else closed_pieces (begun ++ b ∷ []) bs)) ≤ suc (length bs)
  by true anew on = let one = at_most_one begun (closed_pieces [] bs) in omega (arith, anew, one)
  by false anew on = omega (arith, on)

pub few : (bytes : List ℕ) → length (frames bytes) ≤ length bytes
few bytes = few-behind [] bytes
