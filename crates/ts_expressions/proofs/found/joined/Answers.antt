use Rattle.std.proofs.Common.{sym, refl, subst, Err}
use Rattle.ts_expressions.specs.Finding.{Found, Joined}
use Rattle.ts_expressions.specs.Boxed.{boxed_tree}
use Rattle.ts_expressions.proofs.FindingLemmas.{joined_made}
use Rattle.ts_expressions.proofs.found.joined.Goals as goal

pub returns-in-Ok : goal.returns-in-Ok
returns-in-Ok c =
    subst (λ (z : Found). Joined c.args.op (boxed_tree c.args.left) z c.made.result) (sym c.in-Ok.is)
    (joined_made c.args.op (boxed_tree c.args.left) (c.in-Ok.right, c.in-Ok.rest) c.two.result c.two.ensures c.made.result c.made.ensures)

pub returns-in-Err : goal.returns-in-Err
returns-in-Err c = subst (λ (z : Found). Joined c.args.op (boxed_tree c.args.left) z (Err c.in-Err.halt)) (sym c.in-Err.is) refl
