-- The entry, as it is seen.
use Rattle.std.proofs.Common.{◌≡◌, ◌∷◌, [], subst, sym, ap}
use Rattle.mate_journal.specs.Journal.{Void}
use Rattle.vm_shape.specs.declared.description.Description.{Description}
use Rattle.node_state.specs.Starting.{Rests}
use Rattle.node_state.specs.Programs.{HeldPrograms}
use Rattle.node_open.specs.View.{NodeView, Tells}
use Rattle.node_open.specs.Calls.{Pacing}
use Rattle.node_open.proofs.PaceLemmas.{seen_as}
use Rattle.node_open.proofs.CallLemmas.{Tells-again}
use Rattle.node_open.proofs.open_node.OpenNode.void.Goals as goal

pub void_in-requires-clause-rests : goal.void_in-requires-clause-rests
void_in-requires-clause-rests c = subst (λ (d : Description). Rests d c.self.inside.parts) (sym c.description.ensures) c.self.invariant.rests

pub invariant_of-self : goal.invariant_of-self
invariant_of-self c = record { rests = (rw c.description.ensures at c.void_in.ensures.again).rests }

pub returns : goal.returns
returns c =
    let n = c.self.inside in
    let P : NodeView → Type 0 = λ v. Tells v (seen_as n.machine c.void_in.new.parts) c.args.at (Pacing (λ _ told. told ≡ Void c.args.cause ∷ [])) in
    subst P c.self.view_is (Tells-again n.machine n.parts c.void_in.new.parts c.args.at c.self.invariant.rests c.void_in.ensures.gone (ap (λ (hs : HeldPrograms). hs.room) c.void_in.ensures.handlers) _ (rw c.description.ensures at c.void_in.ensures.again))
