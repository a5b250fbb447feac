use Rattle.std.proofs.Common.{◌≡◌, subst}
use Rattle.node_open.specs.View.{NodeView, HasPace, HasPlaces}
use Rattle.node_open.proofs.CallLemmas.{places-same}
use Rattle.node_runs.proofs.KeptLemmas.{ranges-same}
use Rattle.node_runs.proofs.heap_node.HeapNode.reserve.Goals as goal

pub returns-clause-pace : goal.returns-clause-pace
returns-clause-pace c =
    let e : c.args.self.now ≡ c.deref_mut.result.now = cc in
    λ p h. c.reserve.ensures.pace p (subst (λ (v : NodeView). HasPace v p) e h)

pub returns-clause-ranges : goal.returns-clause-ranges
returns-clause-ranges c =
    let e : c.args.self.now ≡ c.deref_mut.result.now = cc in
    ranges-same c.args.self.now c.deref_mut.result.now _ e c.reserve.ensures.same

pub invariant_of-self : goal.invariant_of-self
invariant_of-self c =
    let e : c.self.inside.node.value ≡ c.deref_mut.result.now = cc in
    record { places = places-same c.deref_mut.result.now c.reserve.new.self (subst HasPlaces e c.self.invariant.places) c.reserve.ensures.same }
