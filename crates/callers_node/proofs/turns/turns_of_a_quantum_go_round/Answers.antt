use Rattle.node_state.specs.Meaning.{machine_in}
use Rattle.node_open.proofs.CallLemmas.{Tells-by}
use Rattle.node_open.specs.View.{heard_of}
use Rattle.callers_node.proofs.TurnLemmas.{by_turns}
use Rattle.callers_node.proofs.turns.turns_of_a_quantum_go_round.Goals as goal

pub returns : goal.returns
returns c = λ a b rest.
    Tells-by c.args.node.now c.settle.new.self c.args.at _ _ (λ p told q x line apart far near.
    let s = x.settles in
    by_turns (machine_in c.args.node.now.description) (heard_of c.args.node.now) p a b rest line apart far near s.turns told q s.are_turns s.made s.then s.empty) c.settle.ensures
