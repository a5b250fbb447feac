use Rattle.std.proofs.Common.{refl, arith, inl, inr}
use Rattle.std.proofs.lemmas.Int.{to_z-of_z}
use Rattle.std.specs.Int.{w16}
use Rattle.mate_journal.specs.declared.entry.VoidCause.TheVariants as void
use Rattle.mate_journal.specs.NodeScript.{Answer as AnswerStep, AnswersCall}
use Rattle.node_open.specs.View.{heard_of}
use Rattle.node_open.specs.Calls.{Pacing}
use Rattle.node_runs.specs.Running.{MakesOn}
use Rattle.node_open.proofs.CallLemmas.{Tells-by}
use Rattle.node_runs.proofs.EventLemmas.{Tells-void, ready-still}
use Rattle.node_runs.proofs.events.answer.Goals as goal

pub answer-requires-clause-room : goal.answer-requires-clause-room
answer-requires-clause-room c = let room = c.requires.ready.room in omega (arith, room)

pub void-requires-clause-timely : goal.void-requires-clause-timely
void-requires-clause-timely c = (ready-still c.args.node.now c.answer.new.self c.args.at c.in-Err.ensures.1 c.requires.ready).0

pub void-requires-clause-room : goal.void-requires-clause-room
void-requires-clause-room c = (ready-still c.args.node.now c.answer.new.self c.args.at c.in-Err.ensures.1 c.requires.ready).1

pub returns-in-Ok : goal.returns-in-Ok
returns-in-Ok c =
    Tells-by c.args.node.now c.answer.new.self c.args.at (Pacing (λ _. AnswersCall (heard_of c.args.node.now) c.args.ctx c.args.value)) (MakesOn c.args.node.now (AnswerStep c.args.ctx c.args.value))
    (λ p told q x. (inl x.0, x.1)) (rw (to_z-of_z w16 c.args.value c.ranges.value) at c.in-Ok.ensures)

pub returns-in-Err : goal.returns-in-Err
returns-in-Err c =
    Tells-void c.args.node.now c.answer.new.self c.void.new.self c.args.at void.NotWaiting (MakesOn c.args.node.now (AnswerStep c.args.ctx c.args.value)) c.in-Err.ensures.1
    (λ p. (inr (record { none = c.in-Err.ensures.0; made = refl }), refl)) c.void.ensures
