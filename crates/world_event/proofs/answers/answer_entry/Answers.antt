use Rattle.std.proofs.Common.{◌≡◌, ℕ, [], Some, refl, sym, subst}
use Rattle.std.specs.Prelude.{Option}
use Rattle.mate_num.specs.declared.id.FunId.{FunId}
use Rattle.mate_journal.specs.Journal.{journal_entry}
use Rattle.node_open.specs.View.{heard_of}
use Rattle.world_air.specs.Calls.{AreCallsOf}
use Rattle.world_air.specs.Air.{timed_events}
use Rattle.world_air.specs.Changes.{AddsToAir}
use Rattle.world_air.proofs.ChangeLemmas.{adds-nothing}
use Rattle.journal_laws.specs.Waiting.{IsAwaitedBy, asked_of}
use Rattle.world_event.specs.Answering.{answer_items, with_call}
use Rattle.world_event.proofs.answers.answer_entry.Goals as goal

pub returns-in-None-clause-due : goal.returns-in-None-clause-due
returns-in-None-clause-due c = λ w called l has are apart awaited.
    let P : Option (ℕ × FunId) → Type 0 = λ o. AddsToAir c.args.radio.now c.args.radio.now [] (timed_events w (answer_items w c.args.number c.args.now (heard_of c.args.node.now) called o)) in
    subst P (c.in-None.ensures.value l) (adds-nothing c.args.radio.now)

pub returns-in-None-clause-calls : goal.returns-in-None-clause-calls
returns-in-None-clause-calls c = λ w called l has are.
    subst (λ (o : Option (ℕ × FunId)). AreCallsOf w c.args.number (with_call called o) c.args.calls.now) (c.in-None.ensures.value l) are

pub answer_call-requires-clause-fun : goal.answer_call-requires-clause-fun
answer_call-requires-clause-fun c = c.in-Some.ensures.range c.args.desc.now c.in-Some.asked.0 c.in-Some.asked.1 c.requires.range refl

pub returns-in_ok-answer_call-in-Some-clause-due : goal.returns-in_ok-answer_call-in-Some-clause-due
returns-in_ok-answer_call-in-Some-clause-due c = λ w called l has are apart awaited.
    let is : Some c.in-Some.asked ≡ asked_of (journal_entry l c.args.entry.now) = c.in-Some.ensures.value l in
    let P : Option (ℕ × FunId) → Type 0 = λ o. AddsToAir c.args.radio.now c.answer_call.new.radio [] (timed_events w (answer_items w c.args.number c.args.now (heard_of c.args.node.now) called o)) in
    let A : Option (ℕ × FunId) → Type 0 = λ o. IsAwaitedBy (heard_of c.args.node.now) o in
    subst P is (c.in_ok-answer_call-in-Some.ensures.due w called has are apart (subst A (sym is) awaited))

pub returns-in_ok-answer_call-in-Some-clause-calls : goal.returns-in_ok-answer_call-in-Some-clause-calls
returns-in_ok-answer_call-in-Some-clause-calls c = λ w called l has are.
    subst (λ (o : Option (ℕ × FunId)). AreCallsOf w c.args.number (with_call called o) c.answer_call.new.calls) (c.in-Some.ensures.value l) (c.in_ok-answer_call-in-Some.ensures.calls w called has are)
