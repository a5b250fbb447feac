use Rattle.ts_trees.specs.declared.expr.Expr.{Expr}
use Rattle.ts_trees.specs.declared.token.TokenKind.TheVariants as kind
use Rattle.ts_trees.specs.Seen.{tree_of}
use Rattle.ts_trees.specs.Machine.{Whole, have, expr_due}
use Rattle.ts_trees.specs.Parsing.{Lacks}
use Rattle.ts_statements.specs.Simple.{Target, value_due, value_in, value_set}
use Rattle.ts_statements.proofs.EndedLemmas.{ended_over}
use Rattle.ts_statements.proofs.Halting.{token_misses}
use Rattle.ts_statements.proofs.SimpleLemmas.{value_missing, value_begins, value_open, value_ends}
use Rattle.ts_statements.proofs.simple.value.Goals as goal

pub returns-in_err-rest-clause-reads : goal.returns-in_err-rest-clause-reads
returns-in_err-rest-clause-reads c =
    token_misses {Y = Expr} {L = Target} kind.Eq c.args.tokens.now c.args.tokens.now (λ k. value_due k) (λ e k. value_set k (tree_of e)) (λ k more l. value_missing l k)
    c.from_residual.result c.in_err-rest.field-0.0 c.from_residual.ensures.1 c.in_err-rest.ensures

pub returns-clause-reads : goal.returns-clause-reads
returns-clause-reads c =
    ended_over {X = Expr} {K = Whole} {L = Target} kind.Semi (λ vs. Lacks kind.Or vs) c.args.tokens.now c.in_ok-rest.rest.now (λ k. expr_due k) (λ e k. have (tree_of e) k)
    (λ k. value_due k) (λ e k. value_set k (tree_of e)) (λ k. value_in k) (λ k. value_begins c.in_ok-rest.ensures k)
    (λ e vs ws s k. value_ends s (tree_of e) k) (λ e vs rest o l k. value_open o l (tree_of e) k) c.expr.result c.ended.result c.expr.ensures.reads c.expr.ensures.over c.ended.ensures
