-- Each packet on the air was sent by an event, for a reason.
use Rattle.std.proofs.Common.{◌≡◌, ℕ, suc, List, [], ◌∷◌, map, length, refl, sym, ap, subst, inl, inr}
use Rattle.std.specs.Prelude.{◌==◌, count_by}
use Rattle.mate_num.specs.declared.call.Stamp.{Stamp}
use Rattle.packet_codec.specs.declared.packet.Packet.{Packet}
use Rattle.world_rules.specs.World.{World}
use Rattle.world_rules.specs.Effect.{event_node}
use Rattle.world_rules.specs.State.{Moment, numbered_sendings, sent_bytes, packets_of, state}
use Rattle.world_rules.specs.Run.{stamp_of, airs}
use Rattle.mate_num.specs.Lists.{Among}
use Rattle.mate_num.proofs.ListLemmas.{among-append}
use Rattle.world_laws.proofs.Origins.{among-get, place-of}
use Rattle.world_laws.proofs.Packets.{packets_have_reasons}
use Rattle.world_laws.specs.Transmissions.{Transmission, transmissions}
use Rattle.world_laws.specs.PacketRecords.{WasSentFor, SentHaveReasons}
use Rattle.world_laws.proofs.Sent.{told_as, told_by, transmissions-event, transmissions-start}

-- a packet that was told of is one of those sent
record IsToldOf (w : World) (at : Stamp) (node : ℕ) (ps : List Packet) (x : Transmission) : Type 0 where
  packet : Packet
  among : Among packet ps
  at_is : x.at ≡ at
  node_is : x.node ≡ node
  bytes_are : x.bytes ≡ sent_bytes w packet

one-of : (w : World) (at : Stamp) (node number before : ℕ) (ps : List Packet) (x : Transmission) → Among x (map (told_as w at node) (numbered_sendings number before ps)) → IsToldOf w at node ps x
one-of w at node number before [] x a = absurd a
one-of w at node number before (p ∷ ps) x (inl e) = record {
  packet = p;
  among = inl refl;
  at_is = ap (λ (y : Transmission). y.at) (sym e);
  node_is = ap (λ (y : Transmission). y.node) (sym e);
  bytes_are = ap (λ (y : Transmission). y.bytes) (sym e);
}
one-of w at node number before (p ∷ ps) x (inr a) =
    let rest = one-of w at node (suc number) (suc before) ps x a in
    record { packet = rest.packet; among = inr rest.among; at_is = rest.at_is; node_is = rest.node_is; bytes_are = rest.bytes_are }

sent-for : (w : World) (ms : List Moment) (x : Transmission) → Among x (transmissions (airs w ms)) → WasSentFor w ms x
sent-for w [] x a = absurd (subst (λ (xs : List Transmission). Among x xs) (transmissions-start w) a)
sent-for w (m ∷ before) x a = elim (among-append x (transmissions (airs w before)) (told_by w m before) (subst (λ (xs : List Transmission). Among x xs) (transmissions-event w m before) a)) [
  | inl old ↦ (let was = sent-for w before x old in
      record { newer = m ∷ was.newer; moment = was.moment; older = was.older; split = ap (λ (ms : List Moment). m ∷ ms) was.split; at = was.at; node = was.node; packet = was.packet; bytes = was.bytes; reason = was.reason })
  | inr new ↦ (
      let told = one-of w (stamp_of m before) (event_node w m.cause) (suc (length (state w before).senders)) (count_by (λ k. k == event_node w m.cause) (state w before).senders) (packets_of w (state w before) m) x new in
      let place = place-of (packets_of w (state w before) m) told.packet told.among in
      record {
        newer = [];
        moment = m;
        older = before;
        split = refl;
        at = told.at_is;
        node = told.node_is;
        packet = told.packet;
        bytes = told.bytes_are;
        reason = packets_have_reasons w (state w before) m place.0 told.packet place.1;
      })
]

pub sent_have_reasons : (w : World) → SentHaveReasons w
sent_have_reasons w ms i x is = sent-for w ms x (among-get (transmissions (airs w ms)) i x is)
