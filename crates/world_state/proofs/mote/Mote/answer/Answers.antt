use Rattle.std.proofs.Common.{refl, inl, inr, subst}
use Rattle.std.specs.Int.{w16}
use Rattle.std.proofs.lemmas.Int.{to_z-of_z}
use Rattle.mate_journal.specs.Journal.{NodeState}
use Rattle.mate_journal.specs.NodeScript.{AnswersCall}
use Rattle.node_calls.specs.Calls.{NobodyWaits}
use Rattle.node_open.specs.Calls.{Pacing}
use Rattle.world_state.proofs.NodeLemmas.{tellable-same, heard-same, tells-behind}
use Rattle.world_state.proofs.mote.Mote.answer.Goals as goal

pub answer-requires-clause-timely : goal.answer-requires-clause-timely
answer-requires-clause-timely c = (tellable-same c.args.self.now.node c.reserve.new.self c.args.at c.in_ok-reserve.ensures.same c.requires.tellable).timely

pub returns-in-Ok : goal.returns-in-Ok
returns-in-Ok c = inr (record {
  tells = tells-behind c.args.self.now.node c.reserve.new.self c.answer.new.self c.args.at (λ d r. Pacing (λ _. AnswersCall r c.args.ctx c.args.value)) c.in_ok-reserve.ensures.same c.in_ok-reserve.ensures.pace
      (rw (to_z-of_z w16 c.args.value c.ranges.value) at c.in-Ok.ensures);
  same = refl;
})

pub returns-in-Err : goal.returns-in-Err
returns-in-Err c = inl (subst (λ (r : NodeState). NobodyWaits r c.args.ctx) (heard-same c.args.self.now.node c.reserve.new.self c.in_ok-reserve.ensures.same) c.in-Err.ensures.0)
