use Rattle.std.proofs.Common.{sym, subst, Result, List, Bor}
use Rattle.ts_trees.specs.declared.expr.Expr.{Expr}
use Rattle.ts_trees.specs.declared.halt.Halt.{Halt}
use Rattle.ts_trees.specs.declared.token.Token.{Token}
use Rattle.ts_expressions.specs.Finding.{MadeCall}
use Rattle.ts_expressions.proofs.FindingLemmas.{called_made}
use Rattle.ts_expressions.proofs.found.called.Goals as goal

pub returns : goal.returns
returns c =
    subst (λ (z : Result (List Expr × Bor (List Token)) Halt). MadeCall c.args.function z c.made.result) (sym c.in_ok-args.was)
    (called_made c.args.function (c.in_ok-args.args, c.in_ok-args.rest) c.call.result c.call.ensures c.made.result c.made.ensures)
