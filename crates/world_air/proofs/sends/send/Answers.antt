use Rattle.std.proofs.Common.{◌≡◌, ◌<◌, ℕ, List, sym, ◌∙◌, ap, subst, rules, length}
use Rattle.arrayvec.specs.ArrayVec.{ArrayVec}
use Rattle.packet_codec.specs.Packet.{IsRightPacket}
use Rattle.packet_codec.specs.Bytes.{packet_bytes}
use Rattle.vm_shape.specs.declared.description.Description.{Description}
use Rattle.world_rules.specs.State.{sent_bytes}
use Rattle.world_air.specs.Air.{air_script}
use Rattle.world_air.proofs.AirLemmas.{sends-one, steady-one}
use Rattle.world_air.proofs.sends.send.Goals as goal

pub returns-clause-sends : goal.returns-clause-sends
returns-clause-sends c = λ w senders same stood.
    let low : c.args.node < 256 = search rules in
    let pack : List ℕ → ArrayVec ℕ = λ bs. record { items = bs } in
    let bytes_are : c.encode-bytes.result ≡ sent_bytes w c.args.packet.now =
    ap pack (c.encode-bytes.ensures.bytes ∙ ap (λ (d : Description). packet_bytes d.vm_id c.args.packet.now) (sym same)) in
    sends-one w c.args.node c.args.at senders c.args.packet.now c.encode-bytes.result c.args.radio.now c.transmit_own.new.self low stood
    (record { right = subst (λ (d : Description). IsRightPacket (length d.handlers.items) c.args.packet.now) (sym same) c.requires.right; ranges = c.encode-bytes.ensures.ranges })
    bytes_are c.in_ok-transmit_own.ensures.sends c.in_ok-transmit_own.ensures.due (c.in_ok-transmit_own.ensures.stands (air_script w) senders stood.stands)

pub returns-clause-steady : goal.returns-clause-steady
returns-clause-steady c = steady-one _ c.encode-bytes.result c.args.radio.now c.transmit_own.new.self c.in_ok-transmit_own.ensures.sends
