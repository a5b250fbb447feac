use Rattle.std.proofs.Common.{List, [], ◌∷◌, ◌++◌, sym, subst, arith, length, map, take}
use Rattle.std.proofs.lemmas.List.{take_all}
use Rattle.packet_codec.specs.declared.packet.Packet.{Packet}
use Rattle.packet_codec.specs.Packet.{IsRightPacket}
use Rattle.world_air.specs.Air.{SendsAll}
use Rattle.world_air.proofs.AirLemmas.{sends-nothing, sends-both, steady-none, steady-both, steady-less, room-one, packets-more}
use Rattle.world_air.proofs.sends.send_all.Goals as goal

pub loop-packet-init : goal.loop-packet-init
loop-packet-init c = record {
  sends = λ w senders same stood. sends-nothing w c.args.node c.args.at senders c.args.radio.now stood;
  steady = steady-none c.args.node c.args.radio.now;
}

pub send-requires-clause-ahead : goal.send-requires-clause-ahead
send-requires-clause-ahead c = let same = c.loop-packet.invariant.steady.now in let ahead = c.requires.ahead in omega (arith, same, ahead)

pub send-requires-clause-few : goal.send-requires-clause-few
send-requires-clause-few c =
    let below = c.loop-packet-test.true in
    room-one c.args.node (length c.args.packets.now) c.loop-packet.packet-index c.args.radio.now c.loop-packet.radio c.loop-packet.invariant.steady below c.requires.few

pub send-requires-clause-right : goal.send-requires-clause-right
send-requires-clause-right c =
    subst (IsRightPacket (length c.args.desc.now.handlers.items)) (sym c.packet-item.is) (c.requires.right c.loop-packet.packet-index c.packet-item.result c.loop-packet-test.true)

pub loop-packet-preserved : goal.loop-packet-preserved
loop-packet-preserved c =
    let i = c.loop-packet.packet-index in
    let ps = c.args.packets.now in record {
      sends = λ w senders same stood.
          let before = c.loop-packet.invariant.sends w senders same stood in
          let P : List Packet → Type 0 = λ qs. SendsAll w c.args.node c.args.at senders qs c.args.radio.now c.send.new.radio in
          subst P (packets-more ps i c.packet-item.result c.loop-packet-test.true c.packet-item.is)
          (sends-both w c.args.node c.args.at senders (take i ps) (c.packet-item.result ∷ []) c.args.radio.now c.loop-packet.radio c.send.new.radio before
          (c.in_ok-send.ensures.sends w (senders ++ map (λ (p : Packet). c.args.node) (take i ps)) same before.stands));
      steady = steady-both c.args.node i 1 c.args.radio.now c.loop-packet.radio c.send.new.radio c.loop-packet.invariant.steady c.in_ok-send.ensures.steady;
    }

pub returns-clause-sends : goal.returns-clause-sends
returns-clause-sends c = λ w senders same stood.
    let P : List Packet → Type 0 = λ qs. SendsAll w c.args.node c.args.at senders qs c.args.radio.now c.loop-packet.radio in
    subst P (take_all c.loop-packet.packet-index c.args.packets.now c.loop-packet-test.false) (c.loop-packet.invariant.sends w senders same stood)

pub returns-clause-steady : goal.returns-clause-steady
returns-clause-steady c = steady-less c.args.node c.loop-packet.packet-index (length c.args.packets.now) c.args.radio.now c.loop-packet.radio c.loop-packet.auto.packet-index-end c.loop-packet.invariant.steady
