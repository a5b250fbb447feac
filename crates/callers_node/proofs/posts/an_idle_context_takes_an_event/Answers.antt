use Rattle.node_state.specs.Meaning.{machine_in}
use Rattle.node_open.specs.View.{heard_of}
use Rattle.callers_node.proofs.NodeLemmas.{not_all_busy}
use Rattle.callers_node.proofs.posts.an_idle_context_takes_an_event.Goals as goal

pub returns : goal.returns
returns c = λ p ctx has of idle is.
    let t = c.post.ensures in
    not_all_busy (machine_in c.args.node.now.description) (heard_of c.args.node.now) c.args.handler c.args.payload.now c.post.result t.told ctx
    (t.paces p has).1.0 of idle is
