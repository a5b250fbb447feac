use Rattle.std.proofs.Common.{◌≤◌, ℕ, List, [], ◌++◌, refl, sym, ◌∙◌, subst, take, append-nil}
use Rattle.std.proofs.lemmas.List.{take_all}
use Rattle.mate_num.specs.declared.id.FunId.{FunId}
use Rattle.event_queue.specs.declared.queue.Timed.{Timed}
use Rattle.mate_journal.specs.Journal.{journal_entry}
use Rattle.mate_journal.specs.Entries.{IsEntryInRange}
use Rattle.mate_journal.specs.declared.entry.Stamped.{Stamped}
use Rattle.radio_sim.specs.declared.shared_event.SharedEvent.{SharedEvent}
use Rattle.node_open.specs.View.{heard_of}
use Rattle.world_rules.specs.State.{answers_due, calls_in}
use Rattle.world_air.specs.Calls.{AreCallsOf}
use Rattle.world_air.specs.Air.{timed_events}
use Rattle.world_air.specs.Changes.{AddsToAir}
use Rattle.world_air.proofs.ChangeLemmas.{adds-nothing, adds-both}
use Rattle.journal_laws.specs.Waiting.{asked_of}
use Rattle.node_open.specs.Calls.{told_by_entries}
use Rattle.world_event.specs.Answering.{answer_items}
use Rattle.world_event.proofs.AnswerLemmas.{awaited-at, due-more, calls-more}
use Rattle.world_event.proofs.answers.schedule_answers.Goals as goal

pub loop-stamped-init : goal.loop-stamped-init
loop-stamped-init c = record {
  due = λ w called l has are apart awaited. adds-nothing c.args.radio.now;
  calls = λ w called l has are. subst (λ (fs : List FunId). AreCallsOf w c.args.number fs c.args.calls.now) (sym (append-nil called)) are;
  counts = c.requires.counts;
  now = refl;
}

pub answer_entry-requires-clause-ahead : goal.answer_entry-requires-clause-ahead
answer_entry-requires-clause-ahead c = subst (λ (n : ℕ). n ≤ c.args.now) (sym c.loop-stamped.invariant.now) c.requires.ahead

pub answer_entry-requires-clause-range : goal.answer_entry-requires-clause-range
answer_entry-requires-clause-range c =
    subst (λ (e : Stamped). IsEntryInRange c.args.desc.now e.entry) (sym c.stamped-item.is) (c.requires.range c.loop-stamped.stamped-index c.stamped-item.result c.loop-stamped-test.true)

pub loop-stamped-preserved : goal.loop-stamped-preserved
loop-stamped-preserved c =
    let i = c.loop-stamped.stamped-index in
    let es = c.args.entries.now in
    let r = heard_of c.args.node.now in
    let below = c.loop-stamped-test.true in record {
      due = λ w called l has are apart awaited.
          let before = called ++ calls_in (told_by_entries l (take i es)) in
          let P : List (Timed SharedEvent) → Type 0 = λ xs. AddsToAir c.args.radio.now c.answer_entry.new.radio [] xs in
          subst P (due-more w c.args.number c.args.now (heard_of c.args.node.now) called l es i c.stamped-item.result below c.stamped-item.is)
          (adds-both c.args.radio.now c.loop-stamped.radio c.answer_entry.new.radio [] [] (timed_events w (answers_due w c.args.number c.args.now (heard_of c.args.node.now) called (told_by_entries l (take i es))))
          (timed_events w (answer_items w c.args.number c.args.now (heard_of c.args.node.now) (called ++ calls_in (told_by_entries l (take i es))) (asked_of (journal_entry l c.stamped-item.result.entry)))) (c.loop-stamped.invariant.due w called l has are apart awaited)
          (c.in_ok-answer_entry.ensures.due w (called ++ calls_in (told_by_entries l (take i es))) l has (c.loop-stamped.invariant.calls w called l has are) apart
          (awaited-at (heard_of c.args.node.now) l es i c.stamped-item.result below c.stamped-item.is awaited)));
      calls = λ w called l has are.
          subst (λ (fs : List FunId). AreCallsOf w c.args.number fs c.answer_entry.new.calls) (calls-more called l es i c.stamped-item.result below c.stamped-item.is)
          (c.in_ok-answer_entry.ensures.calls w (called ++ calls_in (told_by_entries l (take i es))) l has (c.loop-stamped.invariant.calls w called l has are));
      counts = c.in_ok-answer_entry.ensures.counts ∙ c.loop-stamped.invariant.counts;
      now = c.in_ok-answer_entry.ensures.now ∙ c.loop-stamped.invariant.now;
    }

pub returns-clause-due : goal.returns-clause-due
returns-clause-due c = λ w called l has are apart awaited.
    let P : List Stamped → Type 0 = λ es. AddsToAir c.args.radio.now c.loop-stamped.radio [] (timed_events w (answers_due w c.args.number c.args.now (heard_of c.args.node.now) called (told_by_entries l es))) in
    subst P (take_all c.loop-stamped.stamped-index c.args.entries.now c.loop-stamped-test.false) (c.loop-stamped.invariant.due w called l has are apart awaited)

pub returns-clause-calls : goal.returns-clause-calls
returns-clause-calls c = λ w called l has are.
    let P : List Stamped → Type 0 = λ es. AreCallsOf w c.args.number (called ++ calls_in (told_by_entries l es)) c.loop-stamped.calls in
    subst P (take_all c.loop-stamped.stamped-index c.args.entries.now c.loop-stamped-test.false) (c.loop-stamped.invariant.calls w called l has are)
