-- What is installed is what was heard.
use Rattle.std.proofs.Common.{sym, subst}
use Rattle.node_open.specs.View.{NodeView, heard_of}
use Rattle.node_open.specs.Calls.{IsImageOf}
use Rattle.node_open.proofs.StandingLemmas.{image-is}
use Rattle.node_open.proofs.open_node.OpenNode.image.Goals as goal

pub returns-in-Some : goal.returns-in-Some
returns-in-Some c =
    let n = c.self.inside in
    let P : NodeView → Type 0 = λ v. IsImageOf (heard_of v) c.args.handler c.in-Some.held.now.image in
    subst P c.self.view_is (image-is n.machine n.parts c.self.invariant.rests.order.keeps c.args.handler c.in-Some.held.now (sym c.in-Some.ensures))
