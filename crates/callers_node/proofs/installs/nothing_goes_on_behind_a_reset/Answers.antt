use Rattle.node_state.specs.Meaning.{machine_in}
use Rattle.node_open.specs.View.{heard_of}
use Rattle.callers_node.proofs.EraLemmas.{none_behind, reset_cuts, stands_idle}
use Rattle.callers_node.proofs.installs.nothing_goes_on_behind_a_reset.Goals as goal

pub returns : goal.returns
returns c = λ p has.
    let t = c.reset.ensures in
    stands_idle (heard_of c.reset.new.self) c.standing.result
    (none_behind c.args.node.now c.reset.new.self c.args.at _ t (reset_cuts (machine_in c.args.node.now.description) (heard_of c.args.node.now) p t.told (t.paces p has).1.0)) c.standing.ensures
