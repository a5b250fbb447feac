use Rattle.std.proofs.Common.{sym, ◌∙◌, subst}
use Rattle.std.specs.Prelude.{Option}
use Rattle.std.specs.Option.{option_to_list}
use Rattle.packet_codec.specs.declared.packet.Packet.{Packet}
use Rattle.world_air.specs.Air.{SendsAll}
use Rattle.world_air.proofs.sends.send_message.Goals as goal

pub returns-clause-sends : goal.returns-clause-sends
returns-clause-sends c = λ w senders l same stood.
    let P : Option Packet → Type 0 = λ o. SendsAll w c.args.node c.args.at senders (option_to_list o) c.args.radio.now c.send.new.radio in
    subst P (sym c.in-Some.is ∙ c.message_of.ensures.value w l same) (c.in_ok-send.ensures.sends w senders same stood)
