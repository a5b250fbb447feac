use Rattle.std.proofs.Common.{◌∙◌, sym, refl, true}
use Rattle.ts_trees.specs.Seen.{tree_of}
use Rattle.ts_trees.specs.Tree as given
use Rattle.ts_checked.specs.TreeOf.{stmt_tree}
use Rattle.ts_checker.specs.Checks.{checked_expr, checked_stmt}
use Rattle.ts_checker.specs.Seen.{scope_names}
use Rattle.ts_checker.proofs.RefusalLemmas.{refused_part, refused_by}
use Rattle.ts_checker.proofs.stmts.set_item.Goals as goal

pub returns-in_err-buffer : goal.returns-in_err-buffer
returns-in_err-buffer c =
    refused_by stmt_tree c.in_err-buffer.field-0.0 c.from_residual.result (checked_stmt (scope_names c.args.scope.now) (given.set_item c.args.word.now (tree_of c.args.index.now) (tree_of c.args.value.now)))
    (rw (sym c.buffer.ensures ∙ c.in_err-buffer.was) refl) c.from_residual.ensures.1

pub returns-in_err-index : goal.returns-in_err-index
returns-in_err-index c =
    refused_part stmt_tree c.in_err-index.field-0.0 c.from_residual-in_err-index.result (checked_expr (scope_names c.args.scope.now) true (tree_of c.args.index.now)) (checked_stmt (scope_names c.args.scope.now) (given.set_item c.args.word.now (tree_of c.args.index.now) (tree_of c.args.value.now)))
    (λ f refused. rw (sym c.buffer.ensures ∙ c.in_ok-buffer.was, refused) refl) c.from_residual-in_err-index.ensures.1 c.in_err-index.ensures

pub returns-in_err-value : goal.returns-in_err-value
returns-in_err-value c =
    refused_part stmt_tree c.in_err-value.field-0.0 c.from_residual-in_err-value.result (checked_expr (scope_names c.args.scope.now) true (tree_of c.args.value.now)) (checked_stmt (scope_names c.args.scope.now) (given.set_item c.args.word.now (tree_of c.args.index.now) (tree_of c.args.value.now)))
    (λ f refused. rw (sym c.buffer.ensures ∙ c.in_ok-buffer.was, c.in_ok-index.ensures, refused) refl) c.from_residual-in_err-value.ensures.1 c.in_err-value.ensures
