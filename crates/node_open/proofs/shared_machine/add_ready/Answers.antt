-- One more is ready, or none.
use Rattle.std.proofs.Common.{Option, subst}
use Rattle.std.specs.Prelude.{IfSome}
use Rattle.node_calls.specs.Installing.{IsReady}
use Rattle.node_calls.specs.declared.ready.ReadyCapsule.{ReadyCapsule}
use Rattle.node_open.proofs.ReadyLemmas.{IsReady-on, AreReady-more}
use Rattle.node_open.proofs.shared_machine.add_ready.Goals as goal

pub returns : goal.returns
returns c =
    let d = c.args.description.now in
    let P : Option ReadyCapsule → Type 0 = λ o. IfSome o (IsReady d c.args.bytes.now) in
    let ready : IsReady d c.args.bytes.now c.in-Some.capsule = subst P c.in-Some.is c.in_ok-capsule.ensures in
    AreReady-more d c.args.ready.now.items c.insert.new.self.items c.place_among-place.result c.in-Some.capsule c.in_ok-insert.ensures.items c.requires (IsReady-on d c.args.bytes.now c.in-Some.capsule ready)
