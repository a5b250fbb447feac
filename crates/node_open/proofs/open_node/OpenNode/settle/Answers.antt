-- At most 32 entries are owed.
use Rattle.std.proofs.Common.{◌+◌, ◌*◌, ap, subst, arith, sym}
use Rattle.mate_num.specs.declared.bounds.TheConstants.{CODE_MAX}
use Rattle.vm_shape.proofs.DescriptionLemmas.{bounds_of}
use Rattle.node_state.specs.Programs.{HeldPrograms, held_at}
use Rattle.node_state.specs.Meaning.{machine_in}
use Rattle.node_state.specs.Keeps.{reading}
use Rattle.node_state.proofs.RoomLemmas.{owes-most}
use Rattle.node_calls.specs.Pacing.{SettlesWithin}
use Rattle.vm_shape.specs.declared.description.Description.{Description}
use Rattle.node_state.specs.Starting.{Rests}
use Rattle.node_open.specs.View.{NodeView, heard_of, Tells}
use Rattle.node_open.proofs.PaceLemmas.{seen_as}
use Rattle.node_open.proofs.MadeLemmas.{Tells-settled}
use Rattle.node_open.proofs.open_node.OpenNode.settle.Goals as goal

pub settle-requires-clause-rests : goal.settle-requires-clause-rests
settle-requires-clause-rests c = subst (λ (d : Description). Rests d c.self.inside.parts) (sym c.description.ensures) c.self.invariant.rests

pub settle-requires-clause-room : goal.settle-requires-clause-room
settle-requires-clause-room c =
    let n = c.self.inside in
    let few = owes-most (held_at n.parts.handlers.programs) (reading n.machine n.parts.log.all) n.parts.contexts c.self.invariant.rests.order.keeps.fits in
    let same = ap (λ (v : NodeView). v.log.spare) c.self.view_is in
    let room = c.requires.room in
    omega arith

pub settle-requires-clause-quantum : goal.settle-requires-clause-quantum
settle-requires-clause-quantum c = let low = (bounds_of c.description.result.now).quantum_low in omega arith

pub returns : goal.returns
returns c =
    let n = c.self.inside in
    let P : NodeView → Type 0 = λ v. Tells v (seen_as n.machine c.settle.new.parts) c.args.at (SettlesWithin (machine_in v.description) ((v.description.turns + 1) * CODE_MAX) (heard_of v)) in
    subst P c.self.view_is (Tells-settled n.machine n.parts c.settle.new.parts c.args.at c.self.invariant.rests c.settle.ensures.gone (ap (λ (hs : HeldPrograms). hs.room) c.settle.ensures.handlers) (rw c.description.ensures at c.settle.ensures.settles))
