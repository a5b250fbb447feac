use Rattle.std.proofs.Common.{sym, subst, ◌∙◌}
use Rattle.node_open.specs.View.{NodeView, HasPace}
use Rattle.node_open.proofs.CallLemmas.{places-same}
use Rattle.node_core.proofs.node.Node.reserve.Goals as goal

pub returns-clause-pace : goal.returns-clause-pace
returns-clause-pace c = λ p pace.
    (let P : NodeView → Type 0 = λ v. HasPace v p in
    c.reserve.ensures.pace p (subst P (sym c.self.view_is) pace))

pub invariant_of-self : goal.invariant_of-self
invariant_of-self c =
    let n = c.self.inside.node in
    let same = c.reserve.ensures.same in
    record { whole = same.gone ∙ c.self.invariant.whole; places = places-same n c.reserve.new.self c.self.invariant.places same }
