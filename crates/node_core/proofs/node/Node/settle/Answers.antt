use Rattle.std.proofs.Common.{◌∙◌}
use Rattle.node_open.proofs.CallLemmas.{places-told}
use Rattle.node_core.proofs.node.Node.settle.Goals as goal

pub invariant_of-self : goal.invariant_of-self
invariant_of-self c =
    let n = c.self.inside.node in
    record { whole = c.settle.ensures.gone ∙ c.self.invariant.whole; places = places-told n c.settle.new.self c.args.at _ c.self.invariant.places c.settle.ensures }
