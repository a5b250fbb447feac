use Rattle.std.specs.declared.alloc.Global.{Global}
use Rattle.std.specs.declared.boxed.Box.{Box}
use Rattle.ts_expressions.specs.Boxed.{boxed_tree}
use Rattle.ts_trees.specs.declared.expr.Expr.{Expr}
use Rattle.ts_trees.specs.declared.token.TokenKind.TheVariants as kind
use Rattle.ts_trees.specs.Machine.{Operand, sized, give}
use Rattle.ts_expressions.proofs.FindingLemmas.{size_ended}
use Rattle.ts_expressions.proofs.StoppingLemmas.{sign_halts, size_missing}
use Rattle.ts_expressions.proofs.expression.size.Goals as goal

pub returns-in_err-rest-clause-reads : goal.returns-in_err-rest-clause-reads
returns-in_err-rest-clause-reads c =
    sign_halts {X = Box Expr Global} {K = Operand} kind.Open c.args.tokens.now c.args.tokens.now sized (λ d k. give k (boxed_tree d)) (λ l k. size_missing c.args.tokens.now k l)
    c.from_residual.result c.in_err-rest.field-0.0 c.from_residual.ensures.1 c.in_err-rest.ensures

pub returns-clause-reads : goal.returns-clause-reads
returns-clause-reads c = size_ended c.in_ok-rest.ensures c.size_of.result c.size_of.ensures.reads c.size_of.ensures.shorter c.ended.result c.ended.ensures
