use Rattle.std.proofs.Common.{◌∙◌, sym, refl, true}
use Rattle.ts_trees.specs.Seen.{tree_of}
use Rattle.ts_trees.specs.Tree as given
use Rattle.ts_checked.specs.TreeOf.{stmt_tree}
use Rattle.ts_checker.specs.Checks.{checked_expr, checked_stmt}
use Rattle.ts_checker.specs.Seen.{scope_names}
use Rattle.ts_checker.proofs.RefusalLemmas.{refused_part, refused_by}
use Rattle.ts_checker.proofs.stmts.append.Goals as goal

pub returns-in_err-buffer : goal.returns-in_err-buffer
returns-in_err-buffer c =
    refused_by stmt_tree c.in_err-buffer.field-0.0 c.from_residual.result (checked_stmt (scope_names c.args.scope.now) (given.append c.args.word.now (tree_of c.args.value.now)))
    (rw (sym c.buffer.ensures ∙ c.in_err-buffer.was) refl) c.from_residual.ensures.1

pub returns-in_err-expression : goal.returns-in_err-expression
returns-in_err-expression c =
    refused_part stmt_tree c.in_err-expression.field-0.0 c.from_residual-in_err-expression.result (checked_expr (scope_names c.args.scope.now) true (tree_of c.args.value.now)) (checked_stmt (scope_names c.args.scope.now) (given.append c.args.word.now (tree_of c.args.value.now)))
    (λ f refused. rw (sym c.buffer.ensures ∙ c.in_ok-buffer.was, refused) refl) c.from_residual-in_err-expression.ensures.1 c.in_err-expression.ensures
