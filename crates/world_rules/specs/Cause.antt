-- What an event of a world comes from.
use Rattle.std.specs.Prelude.{ℕ, ℤ}
use Rattle.mate_num.specs.declared.id.HandlerId.{HandlerId}
use Rattle.mate_num.specs.declared.id.ContextId.{ContextId}
use Rattle.packet_codec.specs.declared.packet.Packet.{Packet}

pub data Cause : Type 0 where
  -- a line of the script, by its place
  Planned : (line : ℕ) → Cause
  -- a period of a timer handler
  Period : (node : ℕ) (handler : HandlerId) → Cause
  -- the point and the end of a node's Trickle interval
  Fire Expire : (node : ℕ) → Cause
  -- the node sends the next fragment that it owes
  Pump : (node : ℕ) → Cause
  -- the answer to a call
  Due : (node : ℕ) (context : ContextId) (invocation : ℕ) (value : ℤ) → Cause
  -- a packet arrives over a link
  Deliver : (link number : ℕ) (packet : Packet) → Cause
