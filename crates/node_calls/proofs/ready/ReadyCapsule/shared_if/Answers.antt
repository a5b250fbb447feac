-- The bytes are the image, and a copy is the same program.
use Rattle.std.proofs.Common.{ℕ, List, sym, subst}
use Rattle.node_state.specs.declared.handlers.Held.{Held}
use Rattle.node_calls.specs.Installing.{IsInstallable, IsReady}
use Rattle.node_calls.proofs.ready.ReadyCapsule.shared_if.Goals as goal

pub returns-in-Ok : goal.returns-in-Ok
returns-in-Ok c =
    let d = c.args.description.now in
    let r = c.args.self.now in
    let B : List ℕ → Type 0 = λ bs. IsReady d bs r in
    let P : Held → Type 0 = λ x. IsInstallable d c.args.bytes.now (record { handler = r.handler; held = x }) in
    subst P (sym c.in-Ok.ensures) (subst B (c.is_image.ensures c.if-not-is_image.false) c.requires)
