-- The first of the ring, or the first that waits, or nobody.
use Rattle.std.proofs.Common.{subst}
use Rattle.mate_journal.specs.NodeScript.{IsReadyIn}
use Rattle.journal_laws.specs.Progress.{IsNoneLive}
use Rattle.node_calls.proofs.SettleLemmas.{first-ready, none-first}
use Rattle.node_open.specs.View.{NodeView, heard_of}
use Rattle.node_open.specs.Calls.{IsNoneReady, IsWaitingIn}
use Rattle.node_open.proofs.StandingLemmas.{ready-in, nobody-ready, waiting-in, none-live}
use Rattle.node_open.proofs.open_node.OpenNode.standing.Goals as goal

pub returns-in-Some : goal.returns-in-Some
returns-in-Some c =
    let n = c.self.inside in
    let P : NodeView → Type 0 = λ v. IsReadyIn (heard_of v) c.in-Some.ctx in
    subst P c.self.view_is (ready-in n.machine n.parts c.in-Some.ctx c.self.invariant.rests.order.keeps (first-ready n.parts.contexts c.in-Some.ctx c.in-Some.ensures.first))

pub returns-in-Some-first_waiting : goal.returns-in-Some-first_waiting
returns-in-Some-first_waiting c =
    let n = c.self.inside in
    let keeps = c.self.invariant.rests.order.keeps in
    let P : NodeView → Type 0 = λ v. IsNoneReady (heard_of v) × IsWaitingIn (heard_of v) c.in-Some-first_waiting.ctx in
    subst P c.self.view_is (nobody-ready n.machine n.parts keeps (none-first n.parts.contexts.ring c.in_default.ensures.first), waiting-in n.machine n.parts keeps c.in-Some-first_waiting.ctx c.in-Some-first_waiting.ensures)

pub returns-in-None : goal.returns-in-None
returns-in-None c =
    let n = c.self.inside in
    let P : NodeView → Type 0 = λ v. IsNoneLive (heard_of v) in
    subst P c.self.view_is
    (none-live n.machine n.parts c.self.invariant.rests.order.keeps c.self.invariant.rests (none-first n.parts.contexts.ring c.in_default.ensures.first) c.in-None.ensures)
