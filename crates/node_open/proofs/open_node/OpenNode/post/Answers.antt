-- The entries of the post, as they are seen.
use Rattle.std.proofs.Common.{subst, sym, ◌≡◌, ◌<◌, ◌∙◌, ap, length}
use Rattle.node_state.specs.Meaning.{machine_in}
use Rattle.node_calls.specs.Posting.{PostGives}
use Rattle.vm_shape.specs.declared.description.Description.{Description}
use Rattle.node_state.specs.Starting.{Rests}
use Rattle.node_state.specs.Programs.{HeldPrograms}
use Rattle.node_open.specs.View.{NodeView, heard_of, Tells}
use Rattle.node_open.specs.Calls.{Pacing}
use Rattle.node_open.proofs.PaceLemmas.{seen_as}
use Rattle.node_open.proofs.CallLemmas.{Tells-again}
use Rattle.node_open.proofs.open_node.OpenNode.post.Goals as goal

pub post_in-requires-clause-rests : goal.post_in-requires-clause-rests
post_in-requires-clause-rests c = subst (λ (d : Description). Rests d c.self.inside.parts) (sym c.description.ensures) c.self.invariant.rests

pub post_in-requires-clause-handler : goal.post_in-requires-clause-handler
post_in-requires-clause-handler c =
    let same : c.description.result.now ≡ c.args.self.now.description = c.description.ensures ∙ ap (λ (v : NodeView). v.description) c.self.view_is in
    subst (λ (d : Description). c.args.handler.0 < length d.handlers.items) (sym same) c.requires.handler

pub invariant_of-self : goal.invariant_of-self
invariant_of-self c = record { rests = (rw c.description.ensures at c.post_in.ensures.again).rests }

pub returns : goal.returns
returns c =
    let n = c.self.inside in
    let P : NodeView → Type 0 = λ v. Tells v (seen_as n.machine c.post_in.new.parts) c.args.at (Pacing (λ _. PostGives (machine_in v.description) (heard_of v) c.args.handler c.args.payload.now c.post_in.result)) in
    subst P c.self.view_is (Tells-again n.machine n.parts c.post_in.new.parts c.args.at c.self.invariant.rests c.post_in.ensures.gone (ap (λ (hs : HeldPrograms). hs.room) c.post_in.ensures.handlers) _ (rw c.description.ensures at c.post_in.ensures.again))
