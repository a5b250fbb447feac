-- What a complete image is made of.
use Rattle.std.specs.Prelude.{◌≡◌, ℕ, ◌<◌, Bool, List, [], length, slice_index_or, Contains}
use Rattle.std.specs.List.{flat_map}
use Rattle.arrayvec.specs.ArrayVec.{ArrayVec}
use Rattle.capsule_codec.specs.Fragments.{count_of, piece_at}
use Rattle.packet_codec.specs.declared.packet.Packet.{Packet}
use Rattle.packet_codec.specs.declared.packet.Packet.TheVariants.{Fragment}
use Rattle.capsule_exchange.specs.Happenings.{Happening, heard_since, target_version}

-- the pieces of fragments of one version of h, of one count and one kind, each of which was heard since
pub record IsPutTogether (h : ℕ) (hs : List Happening) (image : List ℕ) : Type 0 where
  pub count : ℕ
  pub large : Bool
  pub pieces : List (ArrayVec ℕ)
  pub all : length pieces ≡ count
  pub image_is : image ≡ flat_map (λ piece. piece.items) pieces
  pub each : (i : ℕ) → i < count
      → Contains (heard_since h hs) (Fragment (record { 0 = h }) (target_version h hs) i count large
      (slice_index_or pieces i (record { items = [] })))

-- each fragment of this version of h among the packets is one of this image
abbrev pub AreFragmentsOf : ℕ → ℕ → List ℕ → List Packet → Type 0
AreFragmentsOf h version image packets = (i count : ℕ) (large : Bool) (bytes : ArrayVec ℕ)
    → Contains packets (Fragment (record { 0 = h }) version i count large bytes)
    → (count ≡ count_of image) × (bytes.items ≡ piece_at image i)
