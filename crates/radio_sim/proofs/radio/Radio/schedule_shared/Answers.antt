use Rattle.std.proofs.Common.{◌≡◌, ◌≤◌, ◌++◌, sym, ap, subst}
use Rattle.event_queue.specs.Agenda.{Agenda, scheduled, Adds}
use Rattle.radio_sim.specs.declared.shared_event.SharedEvent.{SharedEvent}
use Rattle.radio_sim.specs.Radio.{Ether}
use Rattle.radio_sim.specs.Waiting.{radio_agenda}
use Rattle.radio_sim.proofs.WaitingLemmas.{schedules_one, adds_one}
use Rattle.radio_sim.proofs.radio.Radio.schedule_shared.Goals as goal

pub returns-clause-list : goal.returns-clause-list
returns-clause-list c =
    let i = c.self.inside in
    let with_agenda : Agenda SharedEvent → Ether = λ a. record { agenda = a; air = i.past.air ++ i.air; gone = i.gone; sent = i.sent; delay = i.delay; wires = i.wires.items } in
    let later = subst (λ (e : Ether). e.agenda.now ≤ c.args.time) (sym c.self.view_is) c.requires in
    subst (λ (e : Ether). with_agenda (radio_agenda i.coming.value.items c.schedule.new.self) ≡ record e { agenda = scheduled e.agenda c.args.time c.args.event }) c.self.view_is
    (ap with_agenda (schedules_one i.coming.value.items i.queue c.schedule.new.self c.args.time c.in_ok-waiting.waiting c.args.event later c.in_ok-waiting.ensures c.in_ok-schedule.ensures.list))

pub returns-clause-due : goal.returns-clause-due
returns-clause-due c =
    let i = c.self.inside in
    subst (λ (e : Ether). Adds e.agenda c.args.time c.args.event (radio_agenda i.coming.value.items c.schedule.new.self)) c.self.view_is
    (adds_one i.coming.value.items i.queue c.schedule.new.self c.args.time c.in_ok-waiting.waiting c.args.event c.in_ok-schedule.ensures.now c.in_ok-waiting.ensures c.in_ok-schedule.ensures.due)
