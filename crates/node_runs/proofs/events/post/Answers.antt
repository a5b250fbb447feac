use Rattle.std.proofs.Common.{arith}
use Rattle.mate_journal.specs.NodeScript.{Post}
use Rattle.node_state.specs.Meaning.{machine_in}
use Rattle.node_calls.specs.Posting.{PostGives}
use Rattle.node_open.specs.View.{heard_of}
use Rattle.node_open.specs.Calls.{Pacing}
use Rattle.node_runs.specs.Running.{MakesOn}
use Rattle.node_open.proofs.CallLemmas.{Tells-by, Occasion-given}
use Rattle.node_runs.proofs.events.post.Goals as goal

pub post-requires-clause-few : goal.post-requires-clause-few
post-requires-clause-few c = let few = c.requires.ready.few in omega (arith, few)

pub post-requires-clause-room : goal.post-requires-clause-room
post-requires-clause-room c = let room = c.requires.ready.room in omega (arith, room)

pub returns : goal.returns
returns c =
    let v = c.args.node.now in
    Tells-by v c.post.new.self c.args.at (Pacing (λ _. PostGives (machine_in v.description) (heard_of v) c.args.handler c.args.payload.now c.post.result)) (MakesOn v (Post c.args.handler c.args.payload.now))
    (λ p told q x. (Occasion-given (machine_in v.description) (heard_of v) c.args.handler c.args.payload.now c.post.result told x.0, x.1)) c.post.ensures
