use Rattle.std.proofs.Common.{◌≡◌, ◌≤◌, ◌++◌, sym, ap, subst, refl}
use Rattle.event_queue.specs.Agenda.{Agenda, scheduled, Adds}
use Rattle.radio_sim.specs.declared.shared_event.SharedEvent.{SharedEvent}
use Rattle.radio_sim.specs.declared.shared_event.SharedEvent.TheVariants as event
use Rattle.radio_sim.specs.declared.waiting.Waiting.TheVariants as waiting
use Rattle.radio_sim.specs.Radio.{Ether}
use Rattle.radio_sim.specs.Waiting.{radio_agenda}
use Rattle.radio_sim.proofs.WaitingLemmas.{schedules_one, adds_one}
use Rattle.radio_sim.proofs.radio.Radio.plan.Goals as goal

pub returns-clause-list : goal.returns-clause-list
returns-clause-list c =
    let i = c.self.inside in
    let with_agenda : Agenda SharedEvent → Ether = λ a. record { agenda = a; air = i.past.air ++ i.air; gone = i.gone; sent = i.sent; delay = i.delay; wires = i.wires.items } in
    let later = subst (λ (e : Ether). e.agenda.now ≤ c.args.time) (sym c.self.view_is) c.requires in
    subst (λ (e : Ether). with_agenda (radio_agenda i.coming.value.items c.schedule_numbered.new.self) ≡ record e { agenda = scheduled e.agenda c.args.time (event.Planned c.args.line) }) c.self.view_is
    (ap with_agenda (schedules_one i.coming.value.items i.queue c.schedule_numbered.new.self c.args.time (waiting.Planned c.args.line) (event.Planned c.args.line) later refl c.in_ok-schedule_numbered.ensures.list))

pub returns-clause-due : goal.returns-clause-due
returns-clause-due c =
    let i = c.self.inside in
    subst (λ (e : Ether). Adds e.agenda c.args.time (event.Planned c.args.line) (radio_agenda i.coming.value.items c.schedule_numbered.new.self)) c.self.view_is
    (adds_one i.coming.value.items i.queue c.schedule_numbered.new.self c.args.time (waiting.Planned c.args.line) (event.Planned c.args.line) c.in_ok-schedule_numbered.ensures.now refl c.in_ok-schedule_numbered.ensures.due)
