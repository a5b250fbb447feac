use Rattle.std.proofs.Common.{◌≡◌, ◌∙◌, ◌++◌, filter, sym, ap, subst}
use Rattle.event_queue.specs.Agenda.{Agenda, is_other}
use Rattle.radio_sim.specs.declared.shared_event.SharedEvent.{SharedEvent}
use Rattle.radio_sim.specs.declared.waiting.Waiting.{Waiting}
use Rattle.radio_sim.specs.Events.{group_of, cancel_number}
use Rattle.radio_sim.specs.Radio.{Ether}
use Rattle.radio_sim.specs.Waiting.{waiting_group, radio_agenda, IsOnTime}
use Rattle.radio_sim.proofs.WaitingLemmas.{cancels_events, ahead_cancelled}
use Rattle.radio_sim.proofs.radio.Radio.cancel.Goals as goal

pub invariant_of-self : goal.invariant_of-self
invariant_of-self c =
    let old = c.self.invariant in
    record {
      now_is = old.now_is ∙ ap (λ (q : Agenda Waiting). q.now) (sym c.cancel.ensures);
      ahead = subst (λ (q : Agenda Waiting). IsOnTime q) (sym c.cancel.ensures) (ahead_cancelled c.self.inside.queue (is_other waiting_group c.number.result) old.ahead);
      gone_is = old.gone_is;
      gone_few = old.gone_few;
      counted = old.counted;
      near = old.near;
      nodes = old.nodes;
    }

pub returns : goal.returns
returns c =
    let i = c.self.inside in
    let with_agenda : Agenda SharedEvent → Ether = λ a. record { agenda = a; air = i.past.air ++ i.air; gone = i.gone; sent = i.sent; delay = i.delay; wires = i.wires.items } in
    subst (λ (e : Ether). with_agenda (radio_agenda i.coming.value.items c.cancel.new.self) ≡ record e { agenda = record e.agenda { items = filter (is_other group_of (cancel_number c.args.which)) e.agenda.items } }) c.self.view_is
    (ap with_agenda (cancels_events i.coming.value.items i.queue c.cancel.new.self (cancel_number c.args.which)
    (c.cancel.ensures ∙ ap (λ g. record i.queue { items = filter (is_other waiting_group g) i.queue.items }) c.number.ensures.value)))
