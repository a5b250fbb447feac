-- The pieces in which an image is sent.
use Rattle.std.specs.Prelude.{◌≡◌, ℕ, ◌≤◌, nat_le, if◌then◌else◌, List, [], ◌∷◌, length, map}
use Rattle.std.specs.Fork.{slice_chunk}
use Rattle.std.specs.Int.{div_ceil}
use Rattle.std.specs.List.{range_with_len}
use Rattle.mate_num.specs.declared.bounds.TheConstants.{SHORT_IMAGE}
use Rattle.capsule_codec.specs.declared.fragments.TheConstants.{PIECE_MAX, SHORT_PIECE}

-- the length of a piece of an image of `len` bytes
abbrev pub piece_len : ℕ → ℕ
piece_len len = if nat_le len SHORT_IMAGE then SHORT_PIECE else PIECE_MAX

-- how many pieces an image has
abbrev pub count_of : List ℕ → ℕ
count_of image = div_ceil (length image) (piece_len (length image))

-- the piece of this number, from 0; the last one is the rest
abbrev pub piece_at : List ℕ → ℕ → List ℕ
piece_at image index = slice_chunk image (piece_len (length image)) index

-- the pieces of an image, in order
abbrev pub pieces_of : List ℕ → List (List ℕ)
pieces_of image = map (piece_at image) (range_with_len 0 (count_of image))

-- each piece has this length, but the last one, which has 1 byte at least and no more
abbrev pub AreCut : ℕ → List (List ℕ) → Type 0
AreCut len [] = Unit {0}
AreCut len (last ∷ []) = (1 ≤ length last) × (length last ≤ len)
AreCut len (piece ∷ next ∷ pieces) = (length piece ≡ len) × AreCut len (next ∷ pieces)
