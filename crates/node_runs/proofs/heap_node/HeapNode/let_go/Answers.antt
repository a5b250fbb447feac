use Rattle.std.proofs.Common.{◌≡◌, subst}
use Rattle.node_open.specs.View.{NodeView, HasPace, HasPlaces}
use Rattle.node_open.proofs.CallLemmas.{places-same}
use Rattle.node_runs.proofs.KeptLemmas.{ranges-forgotten}
use Rattle.node_runs.proofs.heap_node.HeapNode.let_go.Goals as goal

pub returns-in-Forgotten-clause-pace : goal.returns-in-Forgotten-clause-pace
returns-in-Forgotten-clause-pace c =
    let e : c.args.self.now ≡ c.deref_mut.result.now = cc in
    λ p h. c.forget.ensures.pace p (subst (λ (v : NodeView). HasPace v p) e h)

pub returns-in-Forgotten-clause-ranges : goal.returns-in-Forgotten-clause-ranges
returns-in-Forgotten-clause-ranges c =
    let e : c.args.self.now ≡ c.deref_mut.result.now = cc in
    ranges-forgotten c.args.self.now c.deref_mut.result.now _ e c.forget.ensures.same

pub invariant_of-self : goal.invariant_of-self
invariant_of-self c =
    let e : c.self.inside.node.value ≡ c.deref_mut.result.now = cc in
    record { places = places-same _ c.forget.new.self (subst HasPlaces e c.self.invariant.places) c.forget.ensures.same }
