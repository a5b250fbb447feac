-- The capsule at a place is one of them.
use Rattle.std.proofs.Common.{sym, subst}
use Rattle.node_calls.specs.Installing.{IsReadyOn}
use Rattle.node_calls.specs.declared.ready.ReadyCapsule.{ReadyCapsule}
use Rattle.node_calls.proofs.ready.with_code_at.Goals as goal

pub returns-in-Some : goal.returns-in-Some
returns-in-Some c =
    let found = c.in-Some.ensures.lookup in
    subst (λ (r : ReadyCapsule). IsReadyOn c.args.description.now r) (sym found.1) (c.requires c.args.place c.in-Some.capsule.now found.3.0)
