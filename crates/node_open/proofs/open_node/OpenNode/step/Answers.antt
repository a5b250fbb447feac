-- Where one is ready, at most 15 may start.
use Rattle.std.proofs.Common.{◌≡◌, true, refl, sym, ◌∙◌, ap, subst, arith}
use Rattle.mate_journal.specs.NodeScript.{IsReadyIn}
use Rattle.node_state.specs.At.{at}
use Rattle.node_state.specs.Programs.{HeldPrograms, held_at}
use Rattle.node_state.specs.Meaning.{machine_in}
use Rattle.node_state.specs.Keeps.{reading}
use Rattle.node_state.proofs.MoveLemmas.{none_ready}
use Rattle.node_state.proofs.RoomLemmas.{starts-most}
use Rattle.vm_shape.specs.declared.description.Description.{Description}
use Rattle.node_state.specs.Starting.{Rests}
use Rattle.node_open.specs.View.{NodeView, heard_of, Tells}
use Rattle.node_open.specs.Calls.{HasStepped}
use Rattle.node_open.proofs.PaceLemmas.{seen_as}
use Rattle.node_open.proofs.MadeLemmas.{Tells-turn}
use Rattle.node_open.proofs.open_node.OpenNode.step.Goals as goal

pub take_turn-requires-clause-rests : goal.take_turn-requires-clause-rests
take_turn-requires-clause-rests c = subst (λ (d : Description). Rests d c.self.inside.parts) (sym c.description.ensures) c.self.invariant.rests

pub returns-then-not-is_ready : goal.returns-then-not-is_ready
returns-then-not-is_ready c =
    let n = c.self.inside in
    let P : NodeView → Type 0 = λ v. IsReadyIn (heard_of v) c.args.ctx → ⊥ in (
      subst P c.self.view_is
          (none_ready (held_at n.parts.handlers.programs) (reading n.machine n.parts.log.all) n.parts.contexts c.args.ctx c.self.invariant.rests.order.keeps.fits (sym c.is_ready.ensures ∙ c.if-not-is_ready.true)),
      refl,
    )

pub take_turn-requires-clause-ready : goal.take_turn-requires-clause-ready
take_turn-requires-clause-ready c = sym c.is_ready.ensures ∙ c.if-not-is_ready.false

pub take_turn-requires-clause-room : goal.take_turn-requires-clause-room
take_turn-requires-clause-room c =
    let n = c.self.inside in
    let ready : (at n.parts.contexts c.args.ctx).ready ≡ true = sym c.is_ready.ensures ∙ c.if-not-is_ready.false in
    let few = starts-most (machine_in n.machine) (held_at n.parts.handlers.programs) (reading n.machine n.parts.log.all) n.parts.contexts c.args.ctx c.self.invariant.rests.order.keeps.fits c.requires.context ready in
    let same = ap (λ (v : NodeView). v.log.spare) c.self.view_is in
    let room = c.requires.room in
    omega arith

pub returns : goal.returns
returns c =
    let n = c.self.inside in
    let ready : (at n.parts.contexts c.args.ctx).ready ≡ true = sym c.is_ready.ensures ∙ c.if-not-is_ready.false in
    let P : NodeView → Type 0 = λ v. Tells v (seen_as n.machine c.take_turn.new.parts) c.args.at (HasStepped (machine_in v.description) (heard_of v) c.args.ctx c.args.n c.take_turn.result) in
    subst P c.self.view_is (Tells-turn n.machine n.parts c.take_turn.new.parts c.args.at c.args.ctx c.args.n c.take_turn.result c.self.invariant.rests ready c.take_turn.ensures.gone (ap (λ (hs : HeldPrograms). hs.room) c.take_turn.ensures.handlers) (rw c.description.ensures at c.take_turn.ensures.turn))
