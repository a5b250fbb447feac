use Rattle.std.proofs.Common.{subst, ◌∙◌}
use Rattle.node_state.specs.Meaning.{machine_in}
use Rattle.node_calls.specs.Posting.{PostGives}
use Rattle.node_open.specs.View.{NodeView, heard_of, Tells}
use Rattle.node_open.specs.Calls.{Pacing}
use Rattle.node_open.proofs.CallLemmas.{places-told}
use Rattle.node_core.proofs.node.Node.post.Goals as goal

pub returns : goal.returns
returns c =
    let P : NodeView → Type 0 = λ v. Tells v c.post.new.self c.args.at (Pacing (λ _. PostGives (machine_in v.description) (heard_of v) c.args.handler c.args.payload.now c.post.result)) in
    subst P c.self.view_is c.post.ensures

pub invariant_of-self : goal.invariant_of-self
invariant_of-self c =
    let n = c.self.inside.node in
    record { whole = c.post.ensures.gone ∙ c.self.invariant.whole; places = places-told n c.post.new.self c.args.at _ c.self.invariant.places c.post.ensures }
