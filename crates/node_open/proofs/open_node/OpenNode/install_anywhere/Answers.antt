-- The node's places, once they are made, change nothing of what the install says.
use Rattle.std.proofs.Common.{◌≡◌, ◌≤◌, ap, subst, ◌∙◌, arith}
use Rattle.node_open.specs.View.{NodeView}
use Rattle.node_open.specs.Calls.{InstallsOn}
use Rattle.node_open.proofs.CallLemmas.{Takes-placed}
use Rattle.node_open.proofs.open_node.OpenNode.install_anywhere.Goals as goal

pub returns : goal.returns
returns c =
    let old = c.args.self.now in
    let count = c.make_places.new.self.places in
    let ready : c.install_ready.new.self ≡ old = c.in_default.ensures in
    let was = ap (λ (v : NodeView). v.places) ready in
    let more = c.make_places.ensures.more in
    let placed : c.make_places.new.self ≡ record old { places = count } = c.make_places.ensures.same ∙ ap (λ (v : NodeView). let with_places : NodeView = record v { places = count } in with_places) ready in
    Takes-placed old c.install.new.self count c.args.bytes.now c.args.at c.install.result (omega (arith, was, more))
    (subst (λ (v : NodeView). InstallsOn v c.install.new.self c.args.bytes.now c.args.at c.install.result) placed c.install.ensures)
