use Rattle.std.proofs.Common.{◌++◌, map}
use Rattle.mate_journal.specs.Journal.{journal_entry}
use Rattle.mate_journal.specs.declared.entry.Stamped.{Stamped}
use Rattle.packet_codec.specs.declared.packet.Packet.{Packet}
use Rattle.world_rules.specs.State.{messages}
use Rattle.world_air.proofs.AirLemmas.{sends-both}
use Rattle.world_event.proofs.pieces.send_packets.Goals as goal

pub returns-clause-sends : goal.returns-clause-sends
returns-clause-sends c = λ w senders l same stood.
    let first = c.in_ok-send_all.ensures.sends w senders same stood in
    sends-both w c.args.node c.args.at senders c.args.packets.now (messages w (map (λ (e : Stamped). journal_entry l e.entry) c.args.entries.now)) c.args.radio.now c.send_all.new.radio c.send_messages.new.radio first
    (c.in_ok-send_messages.ensures.sends w (senders ++ map (λ (p : Packet). c.args.node) c.args.packets.now) l same first.stands)
