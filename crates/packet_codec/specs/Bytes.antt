-- The bytes of a packet. Numbers have the highest byte first.
use Rattle.std.specs.Prelude.{ℕ, ℤ, Bool, true, false, List, [], ◌∷◌, ◌++◌, length}
use Rattle.std.specs.Int.{w16, w32, to_be_bytes, cast_unsigned}
use Rattle.std.specs.List.{flat_map}
use Rattle.packet_codec.specs.declared.packet.Packet.{Packet}
use Rattle.packet_codec.specs.declared.packet.Packet.TheVariants.{Vector, Status, Fragment, App}

-- a packet's first byte
abbrev pub first_byte_of : Packet → ℕ
first_byte_of (Vector versions) = 1
first_byte_of (Status handler version missing) = 2
first_byte_of (Fragment handler version index count false bytes) = 3
first_byte_of (App payload) = 4
first_byte_of (Fragment handler version index count true bytes) = 5

abbrev pub version_bytes : List ℕ → List ℕ
version_bytes versions = flat_map (to_be_bytes w32) versions

abbrev pub value_bytes : List ℤ → List ℕ
value_bytes values = flat_map (λ value. to_be_bytes w16 (cast_unsigned w16 value)) values

-- what is after the kind and the machine's number
abbrev pub body_of : Packet → List ℕ
body_of (Vector versions) = length versions.items ∷ version_bytes versions.items
body_of (Status handler version missing) = (handler.0 ∷ []) ++ to_be_bytes w32 version ++ to_be_bytes w32 missing
body_of (Fragment handler version index count large bytes) =
    (handler.0 ∷ []) ++ to_be_bytes w32 version ++ (index ∷ count ∷ []) ++ bytes.items
body_of (App payload) = length payload.items ∷ value_bytes payload.items

-- the packet's bytes on a machine with this number
abbrev pub packet_bytes : ℕ → Packet → List ℕ
packet_bytes vm_id packet = (first_byte_of packet ∷ []) ++ to_be_bytes w32 vm_id ++ body_of packet
