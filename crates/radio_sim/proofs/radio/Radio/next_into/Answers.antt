use Rattle.std.proofs.Common.{◌≡◌, [], ◌∙◌, sym, ap, subst, rules}
use Rattle.std.specs.declared.collections.VecDeque.{VecDeque}
use Rattle.radio_sim.specs.declared.waiting.Delivery.{Delivery}
use Rattle.event_queue.specs.Agenda.{Comes}
use Rattle.radio_sim.specs.Radio.{Ether}
use Rattle.radio_sim.specs.Waiting.{radio_agenda}
use Rattle.radio_sim.proofs.WaitingLemmas.{comes_left, comes_next}
use Rattle.radio_sim.proofs.radio.Radio.next_into.Goals as goal

pub returns-in-Some-clause-first : goal.returns-in-Some-clause-first
returns-in-Some-clause-first c =
    let i = c.self.inside in
    subst (λ (e : Ether). Comes e.agenda (record { time = i.came; item = c.into_event.result }) (radio_agenda c.pop_front.new.self.items i.queue)) c.self.view_is
    (comes_left i.coming.value.items c.pop_front.new.self.items c.in-Some.delivery i.queue i.came c.into_event.result (ap (λ (q : VecDeque Delivery _). q.items) (sym c.as_mut.ensures.value) ∙ c.in-Some.ensures.items) c.self.invariant.now_is c.into_event.ensures c.self.invariant.ahead)

pub returns-clause-first : goal.returns-clause-first
returns-clause-first c =
    let i = c.self.inside in
    let none_left : i.coming.value.items ≡ [] = search rules in
    subst (λ (e : Ether). Comes e.agenda (record { time = c.in_ok-time.field-0.time; item = c.come.result }) (radio_agenda c.come.new.coming.value.items c.next.new.self)) c.self.view_is
    (comes_next i.coming.value.items c.come.new.coming.value.items i.queue c.next.new.self c.in_ok-time.field-0 c.come.result none_left c.in_ok-time.ensures.first c.come.ensures.first c.come.ensures.later)
