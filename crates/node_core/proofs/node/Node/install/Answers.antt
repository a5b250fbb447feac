use Rattle.std.proofs.Common.{◌∙◌}
use Rattle.node_open.proofs.CallLemmas.{gone-either, places-either}
use Rattle.node_core.proofs.node.Node.install.Goals as goal

pub invariant_of-self : goal.invariant_of-self
invariant_of-self c =
    let n = c.self.inside.node in
    let new = c.install.new.self in
    record {
      whole = gone-either n new c.args.at c.install.result _ _ c.install.ensures ∙ c.self.invariant.whole;
      places = places-either n new c.args.at c.install.result _ _ c.self.invariant.places c.install.ensures;
    }
