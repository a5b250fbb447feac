use Rattle.std.proofs.Common.{◌∙◌, sym, refl, true}
use Rattle.ts_trees.specs.Seen.{tree_of}
use Rattle.ts_trees.specs.Tree as given
use Rattle.ts_checked.specs.TreeOf.{stmt_tree}
use Rattle.ts_checker.specs.Checks.{checked_expr, checked_stmt}
use Rattle.ts_checker.specs.Seen.{scope_names}
use Rattle.ts_checker.proofs.RefusalLemmas.{refused_part, refused_by}
use Rattle.ts_checker.proofs.stmts.set_variable.Goals as goal

pub returns-in_err-variable : goal.returns-in_err-variable
returns-in_err-variable c =
    refused_by stmt_tree c.in_err-variable.field-0.0 c.from_residual.result (checked_stmt (scope_names c.args.scope.now) (given.set c.args.word.now (tree_of c.args.value.now)))
    (rw (sym c.variable.ensures ∙ c.in_err-variable.was) refl) c.from_residual.ensures.1

pub returns-in_err-expression : goal.returns-in_err-expression
returns-in_err-expression c =
    refused_part stmt_tree c.in_err-expression.field-0.0 c.from_residual-in_err-expression.result (checked_expr (scope_names c.args.scope.now) true (tree_of c.args.value.now)) (checked_stmt (scope_names c.args.scope.now) (given.set c.args.word.now (tree_of c.args.value.now)))
    (λ f refused. rw (sym c.variable.ensures ∙ c.in_ok-variable.was, refused) refl) c.from_residual-in_err-expression.ensures.1 c.in_err-expression.ensures
