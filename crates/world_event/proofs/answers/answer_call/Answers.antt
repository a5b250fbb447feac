use Rattle.std.proofs.Common.{◌≡◌, [], ◌∷◌, ◌∙◌, ap, subst, arith, rules}
use Rattle.std.specs.Int.{w16}
use Rattle.std.proofs.lemmas.Int.{to_z-of_z}
use Rattle.mate_num.specs.declared.id.ContextId.{ContextId}
use Rattle.event_queue.specs.declared.queue.Timed.{Timed}
use Rattle.radio_sim.specs.declared.shared_event.SharedEvent.{SharedEvent}
use Rattle.radio_sim.specs.declared.shared_event.SharedEvent.TheVariants as radio
use Rattle.node_open.specs.View.{heard_of}
use Rattle.world_air.specs.declared.calls.CallAnswer.{CallAnswer}
use Rattle.world_air.specs.Calls.{call_answer}
use Rattle.world_air.specs.Air.{timed_event}
use Rattle.world_air.specs.Changes.{AddsToAir}
use Rattle.world_event.specs.Answering.{answer_item}
use Rattle.world_event.proofs.answers.answer_call.Goals as goal

pub returns-in_ok-schedule-in-Some-clause-due : goal.returns-in_ok-schedule-in-Some-clause-due
returns-in_ok-schedule-in-Some-clause-due c = λ w called has are apart within.
    let there : c.in-Some.ctx ≡ ((heard_of c.args.node.now).invocations c.args.inv).context = (let e = c.in-Some.ensures apart within in cc) in
    let T : CallAnswer → ContextId → Timed SharedEvent = λ a x. record { time = a.time; item = radio.Due c.args.number x c.args.inv a.value } in
    let is : T c.answer-answer.result c.in-Some.ctx ≡ timed_event w (answer_item w c.args.number c.args.now (heard_of c.args.node.now) called c.args.fun c.args.inv) =
    ap (λ (a : CallAnswer). T a c.in-Some.ctx) (c.answer-answer.ensures.value w called has are) ∙ ap (λ (x : ContextId). T (call_answer w c.args.number called c.args.fun c.args.now) x) there in
    let P : Timed SharedEvent → Type 0 = λ x. AddsToAir c.args.radio.now c.schedule.new.radio [] (x ∷ []) in
    subst P is (rw (to_z-of_z w16 c.answer-answer.result.value (search rules)) at c.in_ok-schedule-in-Some.ensures)

pub returns-in-None-clause-due : goal.returns-in-None-clause-due
returns-in-None-clause-due c = λ w called has are apart within. (let e = c.in-None.ensures apart within in cc)

pub schedule-requires : goal.schedule-requires
schedule-requires c = let later = c.answer-answer.ensures.later in let ahead = c.requires.ahead in omega (arith, later, ahead)
