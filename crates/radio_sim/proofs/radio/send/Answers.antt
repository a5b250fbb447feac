use Rattle.std.proofs.Common.{◌≡◌, ℕ, [], ◌++◌, rules, ◌∙◌, sym, ap, subst, List, ◌+◌, arith}
use Rattle.std.specs.declared.collections.VecDeque.{VecDeque}
use Rattle.radio_sim.specs.declared.waiting.Delivery.{Delivery}
use Rattle.radio_sim.specs.declared.waiting.Waiting.TheVariants as waiting
use Rattle.arrayvec.specs.ArrayVec.{ArrayVec}
use Rattle.mate_journal.specs.declared.air.Aired.{Aired}
use Rattle.radio_sim.specs.Sending.{IsFurther}
use Rattle.radio_sim.proofs.WireLemmas.{further_none, further_push, further_both}
use Rattle.event_queue.specs.Agenda.{AddsAll, scheduled_all}
use Rattle.radio_sim.specs.declared.shared_event.SharedEvent.{SharedEvent}
use Rattle.radio_sim.specs.Waiting.{radio_agenda}
use Rattle.radio_sim.specs.Wires.{carried_by, losts}
use Rattle.radio_sim.proofs.WaitingLemmas.{none_long, schedules_events, adds_events, adds_none, ahead_more, delivered_none, delivered_flight}
use Rattle.radio_sim.proofs.radio.send.Goals as goal

pub returns-in_err-push-clause-kept : goal.returns-in_err-push-clause-kept
returns-in_err-push-clause-kept c = subst (λ (xs : List Aired). IsFurther c.args.air.now xs) (sym c.in_err-push.ensures) (further_none c.args.air.now)

pub returns-in_err-list-clause-kept : goal.returns-in_err-list-clause-kept
returns-in_err-list-clause-kept c = further_push c.args.air.now c.push.new.self _ c.in_ok-push.ensures

pub returns-in_err-carry-clause-kept : goal.returns-in_err-carry-clause-kept
returns-in_err-carry-clause-kept c = further_both _ _ _ (further_push c.args.air.now c.push.new.self _ c.in_ok-push.ensures) c.in_err-carry.ensures.kept

pub returns-clause-kept : goal.returns-clause-kept
returns-clause-kept c = further_both _ _ _ (further_push c.args.air.now c.push.new.self _ c.in_ok-push.ensures) c.in_ok-carry.ensures.kept

pub returns-then-is_empty-clause-queue : goal.returns-then-is_empty-clause-queue
returns-then-is_empty-clause-queue c = λ coming.
    let start = ap (λ (q : VecDeque Delivery _). q.items) c.as_mut.ensures.value ∙ c.in_ok-list.ensures in
    let none_carried : c.as_ref.result.now.items ≡ [] = none_long c.as_ref.result.now.items (search rules) in
    let none_left = delivered_none c.args.sending c.args.bytes c.args.wires.now c.as_mut.result.now.items c.carry.new.carried.items start (c.in_ok-carry.ensures.carried ∙ ap (λ (b : ArrayVec ℕ). c.as_mut.result.now.items ++ carried_by c.args.sending b c.args.wires.now) c.requires.same)
    (ap (λ (q : VecDeque Delivery _). q.items) (sym c.as_ref.ensures) ∙ none_carried) in
    ap (λ (es : List SharedEvent). scheduled_all (radio_agenda coming c.args.queue.now) (c.args.sending.at.time + c.args.delay) es) (sym none_left)

pub returns-then-is_empty-clause-due : goal.returns-then-is_empty-clause-due
returns-then-is_empty-clause-due c = λ coming.
    let start = ap (λ (q : VecDeque Delivery _). q.items) c.as_mut.ensures.value ∙ c.in_ok-list.ensures in
    let none_carried : c.as_ref.result.now.items ≡ [] = none_long c.as_ref.result.now.items (search rules) in
    let none_left = delivered_none c.args.sending c.args.bytes c.args.wires.now c.as_mut.result.now.items c.carry.new.carried.items start (c.in_ok-carry.ensures.carried ∙ ap (λ (b : ArrayVec ℕ). c.as_mut.result.now.items ++ carried_by c.args.sending b c.args.wires.now) c.requires.same)
    (ap (λ (q : VecDeque Delivery _). q.items) (sym c.as_ref.ensures) ∙ none_carried) in
    subst (λ (es : List SharedEvent). AddsAll (radio_agenda coming c.args.queue.now) (c.args.sending.at.time + c.args.delay) es (radio_agenda coming c.args.queue.now)) (sym none_left)
    (adds_none (radio_agenda coming c.args.queue.now) (c.args.sending.at.time + c.args.delay))

pub returns-clause-queue : goal.returns-clause-queue
returns-clause-queue c = λ coming.
    let start = ap (λ (q : VecDeque Delivery _). q.items) c.as_mut.ensures.value ∙ c.in_ok-list.ensures in
    let flight = delivered_flight c.args.sending c.args.bytes c.args.wires.now c.as_mut.result.now.items c.carry.new.carried.items c.of.result start
    (c.in_ok-carry.ensures.carried ∙ ap (λ (b : ArrayVec ℕ). c.as_mut.result.now.items ++ carried_by c.args.sending b c.args.wires.now) c.requires.same) (search rules) c.of.ensures in
    let later = c.requires.ahead in
    schedules_events coming c.args.queue.now c.schedule.new.self (c.args.sending.at.time + c.args.delay) (waiting.Flight c.of.result) (omega (arith, later)) c.in_ok-schedule.ensures.list
    ∙ ap (λ (es : List SharedEvent). scheduled_all (radio_agenda coming c.args.queue.now) (c.args.sending.at.time + c.args.delay) es) flight

pub returns-clause-due : goal.returns-clause-due
returns-clause-due c = λ coming.
    let start = ap (λ (q : VecDeque Delivery _). q.items) c.as_mut.ensures.value ∙ c.in_ok-list.ensures in
    let flight = delivered_flight c.args.sending c.args.bytes c.args.wires.now c.as_mut.result.now.items c.carry.new.carried.items c.of.result start
    (c.in_ok-carry.ensures.carried ∙ ap (λ (b : ArrayVec ℕ). c.as_mut.result.now.items ++ carried_by c.args.sending b c.args.wires.now) c.requires.same) (search rules) c.of.ensures in
    subst (λ (es : List SharedEvent). AddsAll (radio_agenda coming c.args.queue.now) (c.args.sending.at.time + c.args.delay) es (radio_agenda coming c.schedule.new.self)) flight
    (adds_events coming c.args.queue.now c.schedule.new.self (c.args.sending.at.time + c.args.delay) (waiting.Flight c.of.result) c.in_ok-schedule.ensures.now c.in_ok-schedule.ensures.due)

pub returns-clause-ahead : goal.returns-clause-ahead
returns-clause-ahead c = λ ahead.
    let later = c.requires.ahead in
    ahead_more c.args.queue.now c.schedule.new.self (c.args.sending.at.time + c.args.delay) (waiting.Flight c.of.result) (omega (arith, later)) c.in_ok-schedule.ensures.now c.in_ok-schedule.ensures.list c.in_ok-schedule.ensures.due ahead

pub returns-then-is_empty-clause-air : goal.returns-then-is_empty-clause-air
returns-then-is_empty-clause-air c =
    c.in_ok-carry.ensures.air ∙ ap (λ (xs : List Aired). xs ++ losts c.args.sending c.args.wires.now) c.in_ok-push.ensures

pub returns-clause-air : goal.returns-clause-air
returns-clause-air c =
    c.in_ok-carry.ensures.air ∙ ap (λ (xs : List Aired). xs ++ losts c.args.sending c.args.wires.now) c.in_ok-push.ensures
