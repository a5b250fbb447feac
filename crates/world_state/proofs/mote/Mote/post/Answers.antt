use Rattle.std.proofs.Common.{refl}
use Rattle.mate_journal.specs.NodeScript.{Occasion}
use Rattle.node_state.specs.Meaning.{machine_in}
use Rattle.node_calls.specs.Posting.{PostGives}
use Rattle.node_open.specs.View.{heard_of}
use Rattle.node_open.specs.Calls.{Pacing}
use Rattle.node_open.proofs.CallLemmas.{Tells-by, Occasion-given}
use Rattle.world_state.proofs.NodeLemmas.{tellable-same, tells-behind}
use Rattle.world_state.proofs.mote.Mote.post.Goals as goal

pub post-requires-clause-timely : goal.post-requires-clause-timely
post-requires-clause-timely c = (tellable-same c.args.self.now.node c.reserve.new.self c.args.at c.in_ok-reserve.ensures.same c.requires.tellable).timely

pub returns : goal.returns
returns c =
    let v = c.args.self.now.node in record {
      tells =
          Tells-by v c.post.new.self c.args.at (Pacing (λ _. PostGives (machine_in v.description) (heard_of v) c.args.handler c.args.payload.now c.post.result))
          (Pacing (λ _. Occasion (machine_in v.description) (heard_of v) c.args.handler c.args.payload.now))
          (λ p told q x. (Occasion-given (machine_in v.description) (heard_of v) c.args.handler c.args.payload.now c.post.result told x.0, x.1))
          (tells-behind v c.reserve.new.self c.post.new.self c.args.at (λ d r. Pacing (λ _. PostGives (machine_in d) r c.args.handler c.args.payload.now c.post.result)) c.in_ok-reserve.ensures.same c.in_ok-reserve.ensures.pace
          c.post.ensures);
      same = refl;
    }
