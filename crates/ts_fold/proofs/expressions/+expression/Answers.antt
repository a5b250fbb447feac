use Rattle.std.proofs.Common.{◌∙◌, List, map, refl, ap, sym}
use Rattle.std.proofs.lemmas.Result.{err_from_is_err_and}
use Rattle.ts_checked.specs.Expression.{Expression, arguments, Shared, Private, Size, MsgSize, SendBuf}
use Rattle.ts_checked.specs.TreeOf.{expr_step, args_step, expr_tree, args_trees}
use Rattle.ts_checked.specs.declared.checked_expr.CExpr.TheFolds.{fold-roll-CExpr}
use Rattle.ts_checked.specs.declared.checked_expr.CExpr.TheOpen.{CExpr-F}
use Rattle.ts_checked.specs.declared.checked_expr.CExpr.TheVariants as expr
use Rattle.ts_checked.proofs.ArgsLemmas.{args_seen}
use Rattle.ts_fold.specs.Folded.{folded_args}
use Rattle.ts_fold.proofs.LoopLemmas.{args_next, args_end, negation_folds, inverse_folds, operation_folds, call_folds, leaf_stays}
use Rattle.ts_fold.proofs.expressions.+expression.Goals as goal

pub arguments-loop-arg-preserved : goal.arguments-loop-arg-preserved
arguments-loop-arg-preserved t c =
    c.loop-arg.invariant ∙ args_next c.as_slice-arg-items.result.now c.loop-arg.arg-index c.arg-item.result
    (args_trees c.loop-arg.folded) (args_trees c.push.new.self) (expr_tree c.in_ok-expression.field-0)
    c.loop-arg-test.true c.arg-item.is c.in_ok-expression.ensures c.in_ok-push.ensures.pushed

pub arguments-returns : goal.arguments-returns
arguments-returns t c =
    sym (ap (λ (es : List Expression). folded_args (arguments es)) (args_seen c.args.args.now ∙ ap (map expr_tree) (sym c.as_slice-arg-items.ensures.value)) ∙ c.loop-arg.invariant
    ∙ args_end c.as_slice-arg-items.result.now c.loop-arg.arg-index (args_trees c.loop-arg.folded) c.loop-arg-test.false)

pub arguments-returns-in_err-expression : goal.arguments-returns-in_err-expression
arguments-returns-in_err-expression t c = let p = err_from_is_err_and c.from_residual.result c.from_residual.ensures.1 in rw p.1 tt

pub arguments-returns-in_err-push : goal.arguments-returns-in_err-push
arguments-returns-in_err-push t c = let p = err_from_is_err_and c.from_residual-in_err-push.result c.from_residual-in_err-push.ensures.1 in rw p.1 tt

-- ---- an expression with no part to fold

pub expression-returns-in-Shared : goal.expression-returns-in-Shared
expression-returns-in-Shared t c =
    leaf_stays c.args.expr.now (expr.Shared c.in-Shared.variable) (Shared c.in-Shared.variable)
    (ap expr_tree (sym (expr.rolls-Shared c.in-Shared.variable)) ∙ fold-roll-CExpr Expression (List Expression) expr_step args_step (CExpr-F.Shared c.in-Shared.variable)) c.in-Shared.is refl

pub expression-returns-in-Private : goal.expression-returns-in-Private
expression-returns-in-Private t c =
    leaf_stays c.args.expr.now (expr.Private c.in-Private.private) (Private c.in-Private.private)
    (ap expr_tree (sym (expr.rolls-Private c.in-Private.private)) ∙ fold-roll-CExpr Expression (List Expression) expr_step args_step (CExpr-F.Private c.in-Private.private)) c.in-Private.is refl

pub expression-returns-in-Size : goal.expression-returns-in-Size
expression-returns-in-Size t c =
    leaf_stays c.args.expr.now (expr.Size c.in-Size.buffer) (Size c.in-Size.buffer)
    (ap expr_tree (sym (expr.rolls-Size c.in-Size.buffer)) ∙ fold-roll-CExpr Expression (List Expression) expr_step args_step (CExpr-F.Size c.in-Size.buffer)) c.in-Size.is refl

pub expression-returns-in-MsgSize : goal.expression-returns-in-MsgSize
expression-returns-in-MsgSize t c =
    leaf_stays c.args.expr.now expr.MsgSize MsgSize
    (ap expr_tree (sym expr.rolls-MsgSize) ∙ fold-roll-CExpr Expression (List Expression) expr_step args_step CExpr-F.MsgSize) c.in-MsgSize.is refl

pub expression-returns-in-SendBuf : goal.expression-returns-in-SendBuf
expression-returns-in-SendBuf t c =
    leaf_stays c.args.expr.now (expr.SendBuf c.in-SendBuf.fun c.in-SendBuf.buffer) (SendBuf c.in-SendBuf.fun c.in-SendBuf.buffer)
    (ap expr_tree (sym (expr.rolls-SendBuf c.in-SendBuf.fun c.in-SendBuf.buffer)) ∙ fold-roll-CExpr Expression (List Expression) expr_step args_step (CExpr-F.SendBuf c.in-SendBuf.fun c.in-SendBuf.buffer)) c.in-SendBuf.is refl

-- ---- an operation, and a call

pub expression-returns-in_ok-expression-in-Neg : goal.expression-returns-in_ok-expression-in-Neg
expression-returns-in_ok-expression-in-Neg t c =
    negation_folds c.negation.result c.in-Neg.of c.deref-in-Neg.result.now c.in_ok-expression-in-Neg.field-0 c.in-Neg.is c.deref-in-Neg.ensures c.in_ok-expression-in-Neg.ensures c.negation.ensures

pub expression-returns-in_ok-expression-in-Not : goal.expression-returns-in_ok-expression-in-Not
expression-returns-in_ok-expression-in-Not t c =
    inverse_folds c.inverse.result c.in-Not.of c.deref-in-Not.result.now c.in_ok-expression-in-Not.field-0 c.in-Not.is c.deref-in-Not.ensures c.in_ok-expression-in-Not.ensures c.inverse.ensures

pub expression-returns-in_ok-right-in-Two : goal.expression-returns-in_ok-right-in-Two
expression-returns-in_ok-right-in-Two t c =
    operation_folds c.operation.result c.in-Two.op c.in-Two.left c.in-Two.right c.deref-in-Two.result.now c.deref-in-Two-2.result.now c.in_ok-left-in-Two.left c.in_ok-right-in-Two.right
    c.in-Two.is c.deref-in-Two.ensures c.deref-in-Two-2.ensures c.in_ok-left-in-Two.ensures c.in_ok-right-in-Two.ensures c.operation.ensures

pub expression-returns-in_ok-arguments-in-Call : goal.expression-returns-in_ok-arguments-in-Call
expression-returns-in_ok-arguments-in-Call t c = call_folds c.in-Call.fun c.in-Call.args c.in_ok-arguments-in-Call.field-0 c.in-Call.is c.in_ok-arguments-in-Call.ensures

-- ---- where memory is refused

pub expression-returns-in_err-index-in-Item : goal.expression-returns-in_err-index-in-Item
expression-returns-in_err-index-in-Item t c = let p = err_from_is_err_and c.from_residual.result c.from_residual.ensures.1 in rw p.1 tt

pub expression-returns-in_err-index-in-MsgItem : goal.expression-returns-in_err-index-in-MsgItem
expression-returns-in_err-index-in-MsgItem t c = let p = err_from_is_err_and c.from_residual-in_err-index-in-MsgItem.result c.from_residual-in_err-index-in-MsgItem.ensures.1 in rw p.1 tt

pub expression-returns-in_err-arguments-in-Call : goal.expression-returns-in_err-arguments-in-Call
expression-returns-in_err-arguments-in-Call t c = let p = err_from_is_err_and c.from_residual-in_err-arguments-in-Call.result c.from_residual-in_err-arguments-in-Call.ensures.1 in rw p.1 tt

pub expression-returns-in_err-expression-in-Neg : goal.expression-returns-in_err-expression-in-Neg
expression-returns-in_err-expression-in-Neg t c = let p = err_from_is_err_and c.from_residual-in_err-expression-in-Neg.result c.from_residual-in_err-expression-in-Neg.ensures.1 in rw p.1 tt

pub expression-returns-in_err-expression-in-Not : goal.expression-returns-in_err-expression-in-Not
expression-returns-in_err-expression-in-Not t c = let p = err_from_is_err_and c.from_residual-in_err-expression-in-Not.result c.from_residual-in_err-expression-in-Not.ensures.1 in rw p.1 tt

pub expression-returns-in_err-left-in-Two : goal.expression-returns-in_err-left-in-Two
expression-returns-in_err-left-in-Two t c = let p = err_from_is_err_and c.from_residual-in_err-left-in-Two.result c.from_residual-in_err-left-in-Two.ensures.1 in rw p.1 tt

pub expression-returns-in_err-right-in-Two : goal.expression-returns-in_err-right-in-Two
expression-returns-in_err-right-in-Two t c = let p = err_from_is_err_and c.from_residual-in_err-right-in-Two.result c.from_residual-in_err-right-in-Two.ensures.1 in rw p.1 tt
