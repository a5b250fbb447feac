-- The install, or the same node.
use Rattle.std.proofs.Common.{◌<◌, ◌≤◌, length, sym, subst, arith}
use Rattle.std.specs.Prelude.{All}
use Rattle.vm_shape.specs.declared.description.Description.{Description}
use Rattle.node_calls.specs.Installing.{InstallsBytes, IsReadyOn, Refuses}
use Rattle.mate_journal.specs.declared.report.TheConstants.{ENTRIES_MAX}
use Rattle.node_state.specs.Keeps.{IsTimely}
use Rattle.node_state.specs.Starting.{Rests}
use Rattle.node_open.specs.View.{NodeView, HasPlaces, heard_of, Tells}
use Rattle.node_open.specs.Calls.{Pacing}
use Rattle.node_open.proofs.PaceLemmas.{seen_as}
use Rattle.node_open.proofs.CallLemmas.{Tells-paced, Rests-either, Seen-either}
use Rattle.node_open.proofs.open_node.OpenNode.install.Goals as goal

pub install_shared-requires-clause-may : goal.install_shared-requires-clause-may
install_shared-requires-clause-may c = record {
  rests = subst (λ (d : Description). Rests d c.self.inside.parts) (sym c.description-description.ensures) c.self.invariant.rests;
  timely = subst (λ (v : NodeView). IsTimely c.args.at v.log) (sym c.self.view_is) c.requires.timely;
  room = subst (λ (v : NodeView). 4 ≤ v.log.spare) (sym c.self.view_is) c.requires.room;
  few = subst (λ (v : NodeView). length v.log.entries < ENTRIES_MAX) (sym c.self.view_is) c.requires.few;
}

pub install_shared-requires-clause-ready : goal.install_shared-requires-clause-ready
install_shared-requires-clause-ready c =
    let P : Description → Type 0 = λ d. All (IsReadyOn d) c.ready-ready.result.now in
    subst P (sym c.description-description.ensures) c.ready-ready.ensures

pub install_shared-requires-clause-room : goal.install_shared-requires-clause-room
install_shared-requires-clause-room c =
    let room = subst HasPlaces (sym c.self.view_is) c.requires.places in
    let places = c.self.invariant.rests.order.keeps.places in
    omega (arith, room, places)

pub invariant_of-self : goal.invariant_of-self
invariant_of-self c =
    let n = c.self.inside in
    record { rests = Rests-either n.machine n.parts c.install_shared.new.parts c.args.at c.self.invariant.rests c.install_shared.ensures.gone c.install_shared.ensures.room c.install_shared.result _ _ (rw c.description-description.ensures at c.install_shared.ensures.installs) }

pub returns : goal.returns
returns c =
    let n = c.self.inside in
    Seen-either n.machine n.parts c.install_shared.new.parts c.args.self.now c.install_shared.result _
    (λ v. Tells v (seen_as n.machine c.install_shared.new.parts) c.args.at (Pacing (InstallsBytes v.description (heard_of v) c.args.bytes.now)))
    _ (λ v fault. Refuses v.description (heard_of v) c.args.bytes.now fault) c.self.view_is
    (λ made. Tells-paced n.machine n.parts c.install_shared.new.parts c.args.at c.self.invariant.rests c.install_shared.ensures.gone c.install_shared.ensures.room _ made) (λ _ why. why) (rw c.description-description.ensures at c.install_shared.ensures.installs)
