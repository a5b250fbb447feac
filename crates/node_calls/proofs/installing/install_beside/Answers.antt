-- The capsule that is ready is the same one, or has the same code, or another.
use Rattle.std.proofs.Common.{sym, subst}
use Rattle.node_state.specs.declared.handlers.Held.{Held}
use Rattle.node_state.specs.Fits.{IsHeld}
use Rattle.node_calls.proofs.installing.install_beside.Goals as goal

pub install_alike-requires-clause-right : goal.install_alike-requires-clause-right
install_alike-requires-clause-right c =
    let P : Held → Type 0 = λ x. IsHeld c.args.description.now x in
    subst P (sym c.as_held-held.ensures) c.requires.ready.is_held

pub install_alike-requires-clause-alike : goal.install_alike-requires-clause-alike
install_alike-requires-clause-alike c = c.has_code.ensures c.if-has_code.true
