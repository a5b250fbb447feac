use Rattle.std.proofs.Common.{List, ◌++◌, subst, arith, length, map, take}
use Rattle.std.specs.Option.{option_to_list}
use Rattle.std.proofs.lemmas.List.{take_all}
use Rattle.mate_journal.specs.Journal.{journal_entry}
use Rattle.mate_journal.specs.declared.entry.Stamped.{Stamped}
use Rattle.packet_codec.specs.declared.packet.Packet.{Packet}
use Rattle.world_rules.specs.State.{message_in, messages}
use Rattle.world_air.specs.Air.{SendsAll}
use Rattle.world_air.proofs.AirLemmas.{sends-nothing, sends-both, steady-none, steady-both, steady-less, room-one, messages-more}
use Rattle.world_air.proofs.sends.send_messages.Goals as goal

pub loop-stamped-init : goal.loop-stamped-init
loop-stamped-init c = record {
  sends = λ w senders l same stood. sends-nothing w c.args.node c.args.at senders c.args.radio.now stood;
  steady = steady-none c.args.node c.args.radio.now;
}

pub send_message-requires-clause-ahead : goal.send_message-requires-clause-ahead
send_message-requires-clause-ahead c = let same = c.loop-stamped.invariant.steady.now in let ahead = c.requires.ahead in omega (arith, same, ahead)

pub send_message-requires-clause-few : goal.send_message-requires-clause-few
send_message-requires-clause-few c =
    let below = c.loop-stamped-test.true in
    room-one c.args.node (length c.args.entries.now) c.loop-stamped.stamped-index c.args.radio.now c.loop-stamped.radio c.loop-stamped.invariant.steady below c.requires.few

pub loop-stamped-preserved : goal.loop-stamped-preserved
loop-stamped-preserved c =
    let i = c.loop-stamped.stamped-index in
    let es = c.args.entries.now in record {
      sends = λ w senders l same stood.
          let before = c.loop-stamped.invariant.sends w senders l same stood in
          let ps = messages w (map (λ (e : Stamped). journal_entry l e.entry) (take i es)) in
          let P : List Packet → Type 0 = λ qs. SendsAll w c.args.node c.args.at senders qs c.args.radio.now c.send_message.new.radio in
          subst P (messages-more w l es i c.stamped-item.result c.loop-stamped-test.true c.stamped-item.is)
          (sends-both w c.args.node c.args.at senders (messages w (map (λ (e : Stamped). journal_entry l e.entry) (take i es))) (option_to_list (message_in w (journal_entry l c.stamped-item.result.entry))) c.args.radio.now c.loop-stamped.radio c.send_message.new.radio before
          (c.in_ok-send_message.ensures.sends w (senders ++ map (λ (p : Packet). c.args.node) (messages w (map (λ (e : Stamped). journal_entry l e.entry) (take i es)))) l same before.stands));
      steady = steady-both c.args.node i 1 c.args.radio.now c.loop-stamped.radio c.send_message.new.radio c.loop-stamped.invariant.steady c.in_ok-send_message.ensures.steady;
    }

pub returns-clause-sends : goal.returns-clause-sends
returns-clause-sends c = λ w senders l same stood.
    let P : List Stamped → Type 0 = λ es. SendsAll w c.args.node c.args.at senders (messages w (map (λ (e : Stamped). journal_entry l e.entry) es)) c.args.radio.now c.loop-stamped.radio in
    subst P (take_all c.loop-stamped.stamped-index c.args.entries.now c.loop-stamped-test.false) (c.loop-stamped.invariant.sends w senders l same stood)

pub returns-clause-steady : goal.returns-clause-steady
returns-clause-steady c = steady-less c.args.node c.loop-stamped.stamped-index (length c.args.entries.now) c.args.radio.now c.loop-stamped.radio c.loop-stamped.auto.stamped-index-end c.loop-stamped.invariant.steady
