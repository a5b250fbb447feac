-- Bytes that were read for a machine.
use Rattle.std.specs.Prelude.{◌≡◌, ℕ, List, IfSome}
use Rattle.packet_codec.specs.declared.packet.Packet.{Packet}
use Rattle.packet_codec.specs.Bytes.{packet_bytes}
use Rattle.packet_codec.specs.Packet.{IsRightPacket, HasPacketRanges}
use Rattle.radio_sim.specs.declared.shared.Reading.{Reading}

-- to the machine with this number and so many handlers, the bytes are this packet and no other
pub record IsPacketOf (vm_id handlers : ℕ) (bytes : List ℕ) (packet : Packet) : Type 0 where
  pub right : IsRightPacket handlers packet
  pub only : (other : Packet) → IsRightPacket handlers other → HasPacketRanges other → bytes ≡ packet_bytes vm_id other → packet ≡ other

abbrev pub IsRightReading : Reading → Type 0
IsRightReading r = IfSome r.packet (IsPacketOf r.vm_id r.handlers r.bytes.items)
