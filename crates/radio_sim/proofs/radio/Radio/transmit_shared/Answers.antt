use Rattle.std.proofs.Common.{◌≡◌, ◌+◌, ◌<◌, ◌++◌, [], List, ap, length, length-append, length-take, get_or, set, subst, sym, ◌∙◌, refl, rules, arith}
use Rattle.std.proofs.lemmas.List.{get_or_default}
use Rattle.event_queue.specs.Agenda.{AddsAll}
use Rattle.mate_journal.specs.declared.air.Aired.{Aired}
use Rattle.radio_sim.specs.declared.wire.Sending.{Sending}
use Rattle.radio_sim.specs.declared.wire.Wire.{Wire}
use Rattle.radio_sim.specs.Radio.{Ether, wires_of, transmitted, IsEtherOf}
use Rattle.radio_sim.specs.Waiting.{radio_agenda}
use Rattle.radio_sim.specs.Wires.{delivered}
use Rattle.radio_sim.proofs.RadioLemmas.{turned_read, stands_more, on-ok, if-ok, match-ok, sends-so}
use Rattle.radio_sim.proofs.radio.Radio.transmit_shared.Goals as goal

pub returns-clause-sends : goal.returns-clause-sends
returns-clause-sends c =
    let low : c.args.node < 256 = search rules in
    let i = c.self.inside in
    let ok = sym c.is_err.ensures.value ∙ c.if-is_err.false in
    let before : Ether = record { agenda = radio_agenda i.coming.value.items i.queue; air = i.past.air ++ i.air; gone = i.gone; sent = i.sent; delay = i.delay; wires = i.wires.items } in
    let after : Ether = record { agenda = radio_agenda i.coming.value.items c.send-result.new.queue; air = i.past.air ++ c.send-result.new.air; gone = i.gone; sent = i.sent + 1; delay = i.delay; wires = set i.wires.items c.args.node c.turn.new.self } in
    let s : Sending = record { at = c.args.at; node = c.args.node; number = i.sent + 1 } in
    let ws = c.index_mut-wires.result.now in
    let nodes = c.self.invariant.nodes in
    let ws_is : ws ≡ wires_of before c.args.node = c.index_mut-wires.ensures.value ∙ get_or_default i.wires.items c.args.node ws [] (omega (arith, low, nodes)) in
    subst (λ (e : Ether). after ≡ transmitted e (record { at = c.args.at; node = c.args.node; number = e.sent + 1 }) c.args.bytes) c.self.view_is
    (sends-so before s c.args.bytes i.past.air i.air c.send-result.new.air ws c.turn.new.self (radio_agenda i.coming.value.items c.send-result.new.queue) refl ws_is
    (match-ok c.send-result.result _ _ ok c.send-result.ensures.queue i.coming.value.items) (if-ok c.send-result.result _ ok c.send-result.ensures.air) c.turn.ensures)

pub returns-clause-due : goal.returns-clause-due
returns-clause-due c =
    let low : c.args.node < 256 = search rules in
    let i = c.self.inside in
    let ok = sym c.is_err.ensures.value ∙ c.if-is_err.false in
    let s : Sending = record { at = c.args.at; node = c.args.node; number = i.sent + 1 } in
    let ws = c.index_mut-wires.result.now in
    let nodes = c.self.invariant.nodes in
    let ws_is : ws ≡ get_or i.wires.items c.args.node [] = c.index_mut-wires.ensures.value ∙ get_or_default i.wires.items c.args.node ws [] (omega (arith, low, nodes)) in
    let due = on-ok c.send-result.result _ ok c.send-result.ensures.due i.coming.value.items in
    subst (λ (e : Ether). AddsAll e.agenda (c.args.at.time + e.delay) (delivered (record { at = c.args.at; node = c.args.node; number = e.sent + 1 }) c.args.bytes (wires_of e c.args.node)) (radio_agenda i.coming.value.items c.send-result.new.queue)) c.self.view_is
    (subst (λ (us : List Wire). AddsAll (radio_agenda i.coming.value.items i.queue) (c.args.at.time + i.delay) (delivered s c.args.bytes us) (radio_agenda i.coming.value.items c.send-result.new.queue)) ws_is due)

pub returns-clause-stands : goal.returns-clause-stands
returns-clause-stands c = λ world senders stood.
    let low : c.args.node < 256 = search rules in
    let wires = c.self.inside.wires.items in
    let before : Ether = record { agenda = radio_agenda c.self.inside.coming.value.items c.self.inside.queue; air = c.self.inside.past.air ++ c.self.inside.air; gone = c.self.inside.gone; sent = c.self.inside.sent; delay = c.self.inside.delay; wires = wires } in
    stands_more world senders before _ c.args.node c.self.invariant.nodes low refl
    (turned_read wires c.args.node c.index_mut-wires.result.now c.turn.new.self c.self.invariant.nodes low c.index_mut-wires.ensures.value c.turn.ensures)
    (subst (λ (e : Ether). IsEtherOf world senders e) (sym c.self.view_is) stood)

pub invariant_of-self : goal.invariant_of-self
invariant_of-self c =
    let right = c.self.invariant in
    record {
      now_is = right.now_is ∙ sym c.send-result.ensures.now;
      ahead = c.send-result.ensures.ahead right.ahead;
      gone_is = right.gone_is;
      gone_few = right.gone_few;
      counted = let kept = ap length c.send-result.ensures.kept.is in omega (arith, right.counted, kept, ap length c.cut.ensures, c.len-before.ensures, length-append {A = Aired}, length-take {A = Aired});
      near = right.near;
      nodes = search rules;
    }

pub invariant_of-self-2 : goal.invariant_of-self-2
invariant_of-self-2 c =
    let right = c.self.invariant in
    let told = ap length (if-ok c.send-result.result _ (sym c.is_err.ensures.value ∙ c.if-is_err.false) c.send-result.ensures.air) in
    record {
      now_is = right.now_is ∙ sym c.send-result.ensures.now;
      ahead = c.send-result.ensures.ahead right.ahead;
      gone_is = right.gone_is;
      gone_few = right.gone_few;
      counted = omega (arith, right.counted, told, length-append {A = Aired});
      near = right.near;
      nodes = search rules;
    }
