-- What bytes are to a machine: a packet, or the first fault.
use Rattle.std.specs.Prelude.{◌≡◌, ℕ, ◌+◌, ◌*◌, nat_lt, nat_le, ◌==◌, ℤ, Bool, true, false, not, ◌&&◌, ◌||◌, if◌then◌else◌, List, [], ◌∷◌, length, Result, Ok, Err, is_err}
use Rattle.std.specs.Int.{w16, w32, from_be_bytes, cast_signed, is_in_range}
use Rattle.mate_num.specs.declared.bounds.TheConstants.{FRAGMENTS_MAX, PAYLOAD_MAX}
use Rattle.vm_shape.specs.declared.description.Description.{Description}
use Rattle.packet_codec.specs.declared.packet.Packet.{Packet}
use Rattle.packet_codec.specs.declared.packet.Packet.TheVariants.{Vector, Status, Fragment, App}
use Rattle.packet_codec.specs.declared.decoding.PacketFault.{PacketFault}
use Rattle.packet_codec.specs.declared.decoding.PacketFault.TheVariants.{OtherVm, BadKind, BadLength, BadField}
use Rattle.packet_codec.specs.Packet.{full_len}

-- the number that four bytes give
abbrev pub u32_of : ℕ → ℕ → ℕ → ℕ → ℕ
u32_of a b c d = from_be_bytes w32 (a ∷ b ∷ c ∷ d ∷ [])

-- the numbers that the bytes give, four for each
abbrev pub versions_in : List ℕ → List ℕ
versions_in (a ∷ b ∷ c ∷ d ∷ bytes) = u32_of a b c d ∷ versions_in bytes
versions_in _ = []

-- the signed numbers that the bytes give, two for each
abbrev pub values_in : List ℕ → List ℤ
values_in (a ∷ b ∷ bytes) = cast_signed w16 (from_be_bytes w16 (a ∷ b ∷ [])) ∷ values_in bytes
values_in _ = []

abbrev pub vector_in : ℕ → List ℕ → Result Packet PacketFault
vector_in handlers [] = Err BadLength
vector_in handlers (count ∷ bytes) =
    if not (length bytes == 4 * count) then Err BadLength
    else if not (count == handlers) then Err BadField
    else Ok (Vector (record { items = versions_in bytes }))

abbrev pub app_in : List ℕ → Result Packet PacketFault
app_in [] = Err BadLength
app_in (count ∷ bytes) =
    if not (length bytes == 2 * count) then Err BadLength
    else if not (nat_le count PAYLOAD_MAX) then Err BadField
    else Ok (App (record { items = values_in bytes }))

-- a handler of the machine, a version, and a mask of some of `FRAGMENTS_MAX` fragments
abbrev pub is_status : ℕ → ℕ → ℕ → ℕ → Bool
is_status handlers handler version missing = (nat_lt handler handlers && not (version == 0)) && is_in_range 1 4194303 missing

abbrev pub status_read : ℕ → List ℕ → Result Packet PacketFault
status_read handlers (handler ∷ v0 ∷ v1 ∷ v2 ∷ v3 ∷ m0 ∷ m1 ∷ m2 ∷ m3 ∷ []) =
    if not (is_status handlers handler (u32_of v0 v1 v2 v3) (u32_of m0 m1 m2 m3)) then Err BadField
    else Ok (Status (record { 0 = handler }) (u32_of v0 v1 v2 v3) (u32_of m0 m1 m2 m3))
status_read handlers _ = Err BadLength

-- a handler of the machine, a version, 1 to `FRAGMENTS_MAX` fragments, one of them, and a full piece unless it is the last one
abbrev pub is_fragment : ℕ → ℕ → ℕ → ℕ → ℕ → Bool → ℕ → Bool
is_fragment handlers handler version index count large len =
    ((nat_lt handler handlers && not (version == 0)) && (nat_le count FRAGMENTS_MAX && nat_lt index count))
    && (index + 1 == count || nat_le (full_len large) len)

abbrev pub fragment_read : ℕ → Bool → List ℕ → Result Packet PacketFault
fragment_read handlers large (handler ∷ v0 ∷ v1 ∷ v2 ∷ v3 ∷ index ∷ count ∷ bytes) =
    if not (is_in_range 1 (full_len large) (length bytes)) then Err BadLength
    else if not (is_fragment handlers handler (u32_of v0 v1 v2 v3) index count large (length bytes)) then Err BadField
    else Ok (Fragment (record { 0 = handler }) (u32_of v0 v1 v2 v3) index count large (record { items = bytes }))
fragment_read handlers large _ = Err BadLength

-- by the kind, and by what is after the machine's number
abbrev pub body_in : ℕ → ℕ → List ℕ → Result Packet PacketFault
body_in handlers kind body =
    if kind == 1 then vector_in handlers body
    else if kind == 2 then status_read handlers body
    else if kind == 3 then fragment_read handlers false body
    else if kind == 4 then app_in body
    else if kind == 5 then fragment_read handlers true body
    else Err BadKind

-- the packet that the bytes are to the machine, or the first fault
abbrev pub packet_in : Description → List ℕ → Result Packet PacketFault
packet_in d (kind ∷ m0 ∷ m1 ∷ m2 ∷ m3 ∷ body) =
    if not (u32_of m0 m1 m2 m3 == d.vm_id) then Err OtherVm
    else body_in (length d.handlers.items) kind body
packet_in d _ = Err BadLength

-- noise is what no packet of the machine is
abbrev pub is_noise : Description → List ℕ → Bool
is_noise d bytes = is_err (packet_in d bytes)
