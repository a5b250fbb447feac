-- The install of a capsule that is ready, or the same node.
use Rattle.std.proofs.Common.{◌<◌, ◌≤◌, length, sym, subst}
use Rattle.std.specs.Prelude.{All, Option, MatchOption, Result, ⊤}
use Rattle.vm_shape.specs.declared.description.Description.{Description}
use Rattle.node_calls.specs.Installing.{InstallsBytes, InstallGives, IsReadyOn, Refuses}
use Rattle.node_calls.specs.declared.installing.InstallFault.{InstallFault}
use Rattle.mate_journal.specs.declared.report.TheConstants.{ENTRIES_MAX}
use Rattle.node_state.specs.Keeps.{IsTimely}
use Rattle.node_state.specs.Starting.{Rests}
use Rattle.node_open.specs.View.{NodeView, heard_of, Tells}
use Rattle.node_open.specs.Calls.{InstallsOn, Pacing}
use Rattle.node_open.proofs.PaceLemmas.{seen_as}
use Rattle.node_open.proofs.CallLemmas.{Tells-paced, Rests-either, Rests-option, Seen-either, Seen-option}
use Rattle.node_open.proofs.open_node.OpenNode.install_ready.Goals as goal

pub install_ready-requires-clause-may : goal.install_ready-requires-clause-may
install_ready-requires-clause-may c = record {
  rests = subst (λ (d : Description). Rests d c.self.inside.parts) (sym c.description-description.ensures) c.self.invariant.rests;
  timely = subst (λ (v : NodeView). IsTimely c.args.at v.log) (sym c.self.view_is) c.requires.timely;
  room = subst (λ (v : NodeView). 4 ≤ v.log.spare) (sym c.self.view_is) c.requires.room;
  few = subst (λ (v : NodeView). length v.log.entries < ENTRIES_MAX) (sym c.self.view_is) c.requires.few;
}

pub install_ready-requires-clause-ready : goal.install_ready-requires-clause-ready
install_ready-requires-clause-ready c =
    let P : Description → Type 0 = λ d. All (IsReadyOn d) c.ready-ready.result.now in
    subst P (sym c.description-description.ensures) c.ready-ready.ensures

pub invariant_of-self : goal.invariant_of-self
invariant_of-self c =
    let n = c.self.inside in
    let new = c.install_ready.new.parts in
    record {
      rests = Rests-option n.machine n.parts new c.install_ready.result (InstallGives n.machine n.parts new c.args.bytes.now c.args.at) c.self.invariant.rests
          (λ r made. Rests-either n.machine n.parts new c.args.at c.self.invariant.rests c.install_ready.ensures.gone c.install_ready.ensures.room r _ _ made) (rw c.description-description.ensures at c.install_ready.ensures.installs);
    }

pub returns : goal.returns
returns c =
    let n = c.self.inside in
    let new = c.install_ready.new.parts in
    Seen-option n.machine n.parts new c.args.self.now c.install_ready.result (InstallGives n.machine n.parts new c.args.bytes.now c.args.at) (InstallsOn c.args.self.now (seen_as n.machine new) c.args.bytes.now c.args.at) c.self.view_is
    (λ r made. Seen-either n.machine n.parts new c.args.self.now r _
    (λ v. Tells v (seen_as n.machine new) c.args.at (Pacing (InstallsBytes v.description (heard_of v) c.args.bytes.now)))
    _ (λ v fault. Refuses v.description (heard_of v) c.args.bytes.now fault) c.self.view_is
    (λ told. Tells-paced n.machine n.parts new c.args.at c.self.invariant.rests c.install_ready.ensures.gone c.install_ready.ensures.room _ told) (λ _ why. why) made)
    (rw c.description-description.ensures at c.install_ready.ensures.installs)
