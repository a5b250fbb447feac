-- The first of the ring, or nobody.
use Rattle.std.proofs.Common.{◌≡◌, [], subst}
use Rattle.std.specs.Prelude.{MatchBool}
use Rattle.journal_laws.specs.Progress.{IsSomeReady}
use Rattle.node_open.specs.View.{NodeView, heard_of}
use Rattle.node_open.specs.Calls.{IsNoneReady}
use Rattle.node_open.proofs.StandingLemmas.{ready-or-not}
use Rattle.node_open.proofs.open_node.OpenNode.is_ready.Goals as goal

pub returns : goal.returns
returns c =
    let n = c.self.inside in
    let P : NodeView → Type 0 = λ v. MatchBool c.is_some.result (IsSomeReady (heard_of v)) (IsNoneReady (heard_of v) × (v.line ≡ [])) in
    subst P c.self.view_is (ready-or-not n.machine n.parts c.self.invariant.rests.order.keeps c.first_ready.result c.first_ready.ensures.first c.is_some.result c.is_some.ensures)
