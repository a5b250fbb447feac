-- Which packets are right for a machine.
use Rattle.std.specs.Prelude.{◌≡◌, ℕ, ◌+◌, ◌<◌, ◌≤◌, ◌^◌, ℤ, Bool, true, false, List, length, All, FitsSigned}
use Rattle.std.specs.Int.{w16}
use Rattle.mate_num.specs.declared.bounds.TheConstants.{FRAGMENTS_MAX, PAYLOAD_MAX}
use Rattle.capsule_codec.specs.declared.fragments.TheConstants.{PIECE_MAX, SHORT_PIECE}
use Rattle.capsule_codec.specs.Image.{IsBytes}
use Rattle.packet_codec.specs.declared.packet.Packet.{Packet}
use Rattle.packet_codec.specs.declared.packet.Packet.TheVariants.{Vector, Status, Fragment, App}

-- the length of the pieces of an image, but of its last one
abbrev pub full_len : Bool → ℕ
full_len true = PIECE_MAX
full_len false = SHORT_PIECE

-- a handler of the machine, a version, and at least one of the fragments that an image can have
pub record IsRightStatus (handlers handler version missing : ℕ) : Type 0 where
  pub handler_high : handler < handlers
  pub version_low : 1 ≤ version
  pub missing_low : 1 ≤ missing
  pub missing_high : missing < 2 ^ FRAGMENTS_MAX

-- a handler of the machine, a version, one of 1 to `FRAGMENTS_MAX` fragments, and a piece, which is full but for the last one
pub record IsRightFragment (handlers handler version index count : ℕ) (large : Bool) (bytes : List ℕ) : Type 0 where
  pub handler_high : handler < handlers
  pub version_low : 1 ≤ version
  pub count_high : count ≤ FRAGMENTS_MAX
  pub index_high : index < count
  pub bytes_low : 1 ≤ length bytes
  pub bytes_high : length bytes ≤ full_len large
  pub full : index + 1 < count → length bytes ≡ full_len large

-- the packet is right for a machine with this number of handlers
abbrev pub IsRightPacket : ℕ → Packet → Type 0
IsRightPacket handlers (Vector versions) = length versions.items ≡ handlers
IsRightPacket handlers (Status handler version missing) = IsRightStatus handlers handler.0 version missing
IsRightPacket handlers (Fragment handler version index count large bytes) =
    IsRightFragment handlers handler.0 version index count large bytes.items
IsRightPacket handlers (App payload) = length payload.items ≤ PAYLOAD_MAX

-- the numbers in a packet are in the ranges of their types: every packet's are
pub record HasStatusRanges (handler version missing : ℕ) : Type 0 where
  pub handler_fits : handler < 256
  pub version_fits : version < 2 ^ 32
  pub missing_fits : missing < 2 ^ 32

pub record HasFragmentRanges (handler version index count : ℕ) (bytes : List ℕ) : Type 0 where
  pub handler_fits : handler < 256
  pub version_fits : version < 2 ^ 32
  pub index_fits : index < 256
  pub count_fits : count < 256
  pub bytes_fit : IsBytes bytes

abbrev pub HasPacketRanges : Packet → Type 0
HasPacketRanges (Vector versions) = (length versions.items < 256) × All (λ version. version < 2 ^ 32) versions.items
HasPacketRanges (Status handler version missing) = HasStatusRanges handler.0 version missing
HasPacketRanges (Fragment handler version index count large bytes) = HasFragmentRanges handler.0 version index count bytes.items
HasPacketRanges (App payload) = (length payload.items < 256) × All (λ value. FitsSigned w16 value) payload.items
