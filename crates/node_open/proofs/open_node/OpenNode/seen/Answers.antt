-- The store, as it is seen.
use Rattle.std.proofs.Common.{subst, sym, ap}
use Rattle.mate_journal.specs.NodeScript.{ShowsOnce}
use Rattle.node_state.specs.Meaning.{machine_in}
use Rattle.vm_shape.specs.declared.description.Description.{Description}
use Rattle.node_state.specs.Starting.{Rests}
use Rattle.node_state.specs.Programs.{HeldPrograms}
use Rattle.node_open.specs.View.{NodeView, heard_of, Tells}
use Rattle.node_open.specs.Calls.{Pacing}
use Rattle.node_open.proofs.PaceLemmas.{seen_as}
use Rattle.node_open.proofs.CallLemmas.{Tells-store}
use Rattle.node_open.proofs.open_node.OpenNode.seen.Goals as goal

pub seen_in-requires-clause-rests : goal.seen_in-requires-clause-rests
seen_in-requires-clause-rests c = subst (λ (d : Description). Rests d c.self.inside.parts) (sym c.description.ensures) c.self.invariant.rests

pub invariant_of-self : goal.invariant_of-self
invariant_of-self c = record { rests = (rw c.description.ensures at c.seen_in.ensures.tells).again.rests }

pub returns : goal.returns
returns c =
    let n = c.self.inside in
    let P : NodeView → Type 0 = λ v. Tells v (seen_as n.machine c.seen_in.new.parts) c.args.at (Pacing (ShowsOnce (machine_in v.description) (heard_of v))) in
    subst P c.self.view_is (Tells-store n.machine n.parts c.seen_in.new.parts c.args.at c.self.invariant.rests c.seen_in.ensures.gone (ap (λ (hs : HeldPrograms). hs.room) c.seen_in.ensures.handlers) (rw c.description.ensures at c.seen_in.ensures.tells))
