use Rattle.std.proofs.Common.{◌∙◌}
use Rattle.node_open.proofs.CallLemmas.{gone-either, places-either}
use Rattle.node_core.proofs.node.Node.step.Goals as goal

pub invariant_of-self : goal.invariant_of-self
invariant_of-self c =
    let n = c.self.inside.node in
    let new = c.step.new.self in
    record {
      whole = gone-either n new c.args.at c.step.result _ _ c.step.ensures ∙ c.self.invariant.whole;
      places = places-either n new c.args.at c.step.result _ _ c.self.invariant.places c.step.ensures;
    }
