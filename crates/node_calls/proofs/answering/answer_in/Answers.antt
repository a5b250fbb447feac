-- Whoever waits is answered, and that is told.
use Rattle.std.proofs.Common.{sym, w16, subst, refl}
use Rattle.std.proofs.lemmas.Int.{to_z-of_z}
use Rattle.std.specs.Prelude.{IsSome}
use Rattle.node_state.specs.At.{At}
use Rattle.node_calls.proofs.AnswerLemmas.{nobody-waits, CanAnswer-waiting, RestsAgain-answer}
use Rattle.node_calls.proofs.answering.answer_in.Goals as goal

pub returns-in_default-clause-answers : goal.returns-in_default-clause-answers
returns-in_default-clause-answers c = (nobody-waits c.args.description.now c.args.parts.now c.args.ctx c.requires.rests c.in_default.ensures, refl)

pub answer-requires : goal.answer-requires
answer-requires c = CanAnswer-waiting c.args.description.now c.args.parts.now c.args.ctx c.in-Some.field-0 c.requires.rests c.requires.context (sym c.in-Some.ensures)

pub number-inv-requires-clause-taken : goal.number-inv-requires-clause-taken
number-inv-requires-clause-taken c = let P : At → Type 0 = λ a. IsSome a.seat in subst P (sym c.answer.ensures.becomes.here) refl

pub tell-requires-clause-room : goal.tell-requires-clause-room
tell-requires-clause-room c = c.requires.room

pub returns-clause-answers : goal.returns-clause-answers
returns-clause-answers c =
    let answered = rw (to_z-of_z w16 c.args.value c.ranges.value) at c.answer.ensures in
    let pushed = rw (to_z-of_z w16 c.args.value c.ranges.value) at c.tell.ensures.pushed in
    RestsAgain-answer c.args.description.now c.args.parts.now c.answer.new.contexts c.tell.new.log c.args.at c.args.ctx c.args.value c.in-Some.field-0 c.number-inv.result c.requires.rests c.requires.timely (sym c.in-Some.ensures)
    answered c.number-inv.ensures pushed c.tell.ensures.spare

pub returns-clause-gone : goal.returns-clause-gone
returns-clause-gone c = c.tell.ensures.gone
