use Rattle.std.proofs.Common.{◌≡◌, ◌∙◌, ap, sym, subst, refl, Bool, List, Result, Ok}
use Rattle.ts_trees.specs.Tree as given
use Rattle.ts_trees.specs.Tree.{Tree}
use Rattle.ts_checked.specs.Expression.{Item}
use Rattle.ts_checked.specs.declared.checked_expr.CExpr.{CExpr}
use Rattle.ts_trees.proofs.SeenLemmas.{tree_variable, tree_item, tree_size, tree_message_item, tree_call, tree_negative, tree_inverse, tree_paren}
use Rattle.ts_trees.specs.Seen.{tree_of, trees_of}
use Rattle.ts_checked.specs.TreeOf.{expr_tree, args_trees}
use Rattle.ts_trees.specs.declared.expr.Expr.{Expr}
use Rattle.ts_checker.specs.declared.fault.CheckFault.{CheckFault}
use Rattle.mate_num.specs.Results.{◌>>=◌}
use Rattle.ts_checker.specs.Answer.{GivesChecked}
use Rattle.ts_checker.specs.Names.{ScriptNames}
use Rattle.ts_checker.specs.Checks.{Called, calls, sends, as_expression, sent, checked_expr, checked_args, checked_call}
use Rattle.ts_checker.specs.Seen.{scope_names, arguments_of, boxed_expression, call_of}
use Rattle.ts_checker.proofs.CallLemmas.{call_unfound, call_barred, call_sends, call_counted, call_miscounted}
use Rattle.ts_checker.proofs.RefusalLemmas.{refused_part, refused_by, left_refused, right_refused}
use Rattle.ts_checker.proofs.LoopLemmas.{args_next, args_refused, args_end}
use Rattle.ts_checker.proofs.PassedLemmas.{message_size_passes, item_passes, message_item_passes, negative_passes, inverse_passes, two_pass}
use Rattle.ts_checker.proofs.exprs.+expression.Goals as goal

pub arguments-loop-arg-preserved : goal.arguments-loop-arg-preserved
arguments-loop-arg-preserved t c =
    c.loop-arg.invariant ∙ args_next (scope_names c.args.scope.now) c.args.calls c.args.args.now c.loop-arg.arg-index c.arg-item.result
    (args_trees c.loop-arg.checked) (args_trees c.push.new.self) (expr_tree c.in_ok-expression.field-0)
    c.loop-arg-test.true c.arg-item.is c.in_ok-expression.ensures c.in_ok-push.ensures.pushed

pub arguments-returns-in_err-expression : goal.arguments-returns-in_err-expression
arguments-returns-in_err-expression t c =
    let n = scope_names c.args.scope.now in
    refused_part arguments_of c.in_err-expression.field-0.0 c.from_residual.result (checked_expr n c.args.calls (tree_of c.arg-item.result)) (checked_args n c.args.calls (trees_of c.args.args.now))
    (λ f refused. c.loop-arg.invariant ∙ args_refused n c.args.calls c.args.args.now c.loop-arg.arg-index c.arg-item.result
    (args_trees c.loop-arg.checked) f c.loop-arg-test.true c.arg-item.is refused)
    c.from_residual.ensures.1 c.in_err-expression.ensures

pub arguments-returns : goal.arguments-returns
arguments-returns t c =
    c.loop-arg.invariant ∙ args_end (scope_names c.args.scope.now) c.args.calls c.args.args.now c.loop-arg.arg-index (args_trees c.loop-arg.checked) c.loop-arg-test.false

pub call-returns-then-len-arg_count : goal.call-returns-then-len-arg_count
call-returns-then-len-arg_count t c =
    call_miscounted (scope_names c.args.scope.now) c.args.calls c.args.word.now c.args.args.now _ (c.in_ok-fun.fun, c.in_ok-fun.kind)
    (sym c.function.ensures ∙ c.in_ok-fun.was) c.if-not-calls.false (sym c.sends.ensures ∙ c.if-sends.false)
    (λ e. c.if-len-arg_count.true (c.len.ensures ∙ e ∙ sym c.arg_count.ensures))

pub call-returns-in_err-arguments : goal.call-returns-in_err-arguments
call-returns-in_err-arguments t c =
    let checks = λ (es : List Expr). checked_args (scope_names c.args.scope.now) c.args.calls (trees_of es) in
    let whole : Result Called CheckFault = checked_call (scope_names c.args.scope.now) c.args.calls c.args.word.now (trees_of c.args.args.now) (checks c.args.args.now) in
    let counted : whole ≡ (checks c.args.args.now >>= (λ checked. Ok (calls c.in_ok-fun.fun checked))) =
    call_counted (scope_names c.args.scope.now) c.args.calls c.args.word.now c.args.args.now (checks c.args.args.now) (c.in_ok-fun.fun, c.in_ok-fun.kind)
    (sym c.function.ensures ∙ c.in_ok-fun.was) c.if-not-calls.false (sym c.sends.ensures ∙ c.if-sends.false)
    (sym c.len.ensures ∙ c.if-len-arg_count.false ∙ c.arg_count.ensures) in
    refused_part call_of c.in_err-arguments.field-0.0 c.from_residual-in_err-arguments.result (checks c.as_slice-2.result.now) whole
    (λ f refused. counted ∙ ap (λ r. r >>= (λ checked. Ok (calls c.in_ok-fun.fun checked))) (ap checks (sym c.as_slice-2.ensures) ∙ refused))
    c.from_residual-in_err-arguments.ensures.1 c.in_err-arguments.ensures

pub call-returns : goal.call-returns
call-returns t c =
    let checks = λ (es : List Expr). checked_args (scope_names c.args.scope.now) c.args.calls (trees_of es) in
    let checked : checks c.as_slice-2.result.now ≡ Ok (arguments_of c.in_ok-arguments.field-0) = c.in_ok-arguments.ensures in
    call_counted (scope_names c.args.scope.now) c.args.calls c.args.word.now c.args.args.now (checks c.args.args.now) (c.in_ok-fun.fun, c.in_ok-fun.kind)
    (sym c.function.ensures ∙ c.in_ok-fun.was) c.if-not-calls.false (sym c.sends.ensures ∙ c.if-sends.false)
    (sym c.len.ensures ∙ c.if-len-arg_count.false ∙ c.arg_count.ensures)
    ∙ ap (λ r. r >>= (λ checked. Ok (calls c.in_ok-fun.fun checked))) (ap checks (sym c.as_slice-2.ensures) ∙ checked)

pub operand-returns-in_err-checked : goal.operand-returns-in_err-checked
operand-returns-in_err-checked t c =
    let n = scope_names c.args.scope.now in
    refused_part boxed_expression c.in_err-checked.field-0.0 c.from_residual.result (checked_expr n c.args.calls (tree_of c.args.expr.now))
    (checked_expr n c.args.calls (tree_of c.args.expr.now)) (λ f refused. refused) c.from_residual.ensures.1 c.in_err-checked.ensures

pub item-returns-in_err-operand : goal.item-returns-in_err-operand
item-returns-in_err-operand t c =
    let n = scope_names c.args.scope.now in
    refused_part expr_tree c.in_err-operand.field-0.0 c.from_residual-in_err-operand.result (checked_expr n c.args.calls (tree_of c.args.index.now))
    (checked_expr n c.args.calls (given.item c.args.word.now (tree_of c.args.index.now)))
    (λ f refused. rw (sym c.buffer.ensures ∙ c.in_ok-buffer.was, refused) refl) c.from_residual-in_err-operand.ensures.1 c.in_err-operand.ensures

pub message_item-returns-in_err-operand : goal.message_item-returns-in_err-operand
message_item-returns-in_err-operand t c =
    let n = scope_names c.args.scope.now in
    refused_part expr_tree c.in_err-operand.field-0.0 c.from_residual.result (checked_expr n c.args.calls (tree_of c.args.index.now))
    (checked_expr n c.args.calls (given.message_item (tree_of c.args.index.now))) (λ f refused. rw refused refl) c.from_residual.ensures.1 c.in_err-operand.ensures

pub negative-returns-in_err-operand : goal.negative-returns-in_err-operand
negative-returns-in_err-operand t c =
    let n = scope_names c.args.scope.now in
    refused_part expr_tree c.in_err-operand.field-0.0 c.from_residual.result (checked_expr n c.args.calls (tree_of c.args.of.now))
    (checked_expr n c.args.calls (given.negative (tree_of c.args.of.now))) (λ f refused. rw refused refl) c.from_residual.ensures.1 c.in_err-operand.ensures

pub inverse-returns-in_err-operand : goal.inverse-returns-in_err-operand
inverse-returns-in_err-operand t c =
    let n = scope_names c.args.scope.now in
    refused_part expr_tree c.in_err-operand.field-0.0 c.from_residual.result (checked_expr n c.args.calls (tree_of c.args.of.now))
    (checked_expr n c.args.calls (given.inverse (tree_of c.args.of.now))) (λ f refused. rw refused refl) c.from_residual.ensures.1 c.in_err-operand.ensures

pub call_in-returns-in_err-call : goal.call_in-returns-in_err-call
call_in-returns-in_err-call t c =
    let n = scope_names c.args.scope.now in
    let trees = trees_of c.args.args.now in
    refused_part expr_tree c.in_err-call.field-0.0 c.from_residual.result (checked_call n c.args.calls c.args.word.now trees (checked_args n c.args.calls trees))
    (checked_expr n c.args.calls (given.call c.args.word.now trees)) (λ f refused. rw refused refl) c.from_residual.ensures.1 c.in_err-call.ensures

-- an answer for one expression is that for the tree that it is
gives_for : (n : ScriptNames) (allowed : Bool) (result : Result CExpr CheckFault) {a b : Tree} → a ≡ b → GivesChecked expr_tree result (checked_expr n allowed b) → GivesChecked expr_tree result (checked_expr n allowed a)
gives_for n allowed result is h = subst (λ x. GivesChecked expr_tree result (checked_expr n allowed x)) (sym is) h

pub expression-returns-in-Var : goal.expression-returns-in-Var
expression-returns-in-Var t c =
    gives_for (scope_names c.args.scope.now) c.args.calls c.variable.result (ap tree_of c.in-Var.is ∙ tree_variable c.in-Var.word) c.variable.ensures

pub expression-returns-in-Item : goal.expression-returns-in-Item
expression-returns-in-Item t c =
    gives_for (scope_names c.args.scope.now) c.args.calls c.item.result (ap tree_of c.in-Item.is ∙ tree_item c.in-Item.word c.in-Item.index ∙ ap (λ e. given.item c.in-Item.word (tree_of e)) (sym c.deref.ensures)) c.item.ensures

pub expression-returns-in-Size : goal.expression-returns-in-Size
expression-returns-in-Size t c =
    gives_for (scope_names c.args.scope.now) c.args.calls c.size.result (ap tree_of c.in-Size.is ∙ tree_size c.in-Size.word) c.size.ensures

pub expression-returns-in-MsgItem : goal.expression-returns-in-MsgItem
expression-returns-in-MsgItem t c =
    gives_for (scope_names c.args.scope.now) c.args.calls c.message_item.result (ap tree_of c.in-MsgItem.is ∙ tree_message_item c.in-MsgItem.index ∙ ap (λ e. given.message_item (tree_of e)) (sym c.deref-in-MsgItem.ensures)) c.message_item.ensures

pub expression-returns-in-Call : goal.expression-returns-in-Call
expression-returns-in-Call t c =
    gives_for (scope_names c.args.scope.now) c.args.calls c.call_in.result (ap tree_of c.in-Call.is ∙ tree_call c.in-Call.word c.in-Call.args) c.call_in.ensures

pub expression-returns-in-Neg : goal.expression-returns-in-Neg
expression-returns-in-Neg t c =
    gives_for (scope_names c.args.scope.now) c.args.calls c.negative.result (ap tree_of c.in-Neg.is ∙ tree_negative c.in-Neg.of ∙ ap (λ e. given.negative (tree_of e)) (sym c.deref-in-Neg.ensures)) c.negative.ensures

pub expression-returns-in-Not : goal.expression-returns-in-Not
expression-returns-in-Not t c =
    gives_for (scope_names c.args.scope.now) c.args.calls c.inverse.result (ap tree_of c.in-Not.is ∙ tree_inverse c.in-Not.of ∙ ap (λ e. given.inverse (tree_of e)) (sym c.deref-in-Not.ensures)) c.inverse.ensures

pub expression-returns-in-Paren : goal.expression-returns-in-Paren
expression-returns-in-Paren t c =
    gives_for (scope_names c.args.scope.now) c.args.calls c.expression.result (ap tree_of c.in-Paren.is ∙ tree_paren c.in-Paren.of ∙ ap (λ e. given.paren (tree_of e)) (sym c.deref-in-Paren.ensures)) c.expression.ensures

pub expression-returns-in_err-left-in-Two : goal.expression-returns-in_err-left-in-Two
expression-returns-in_err-left-in-Two t c =
    let n = scope_names c.args.scope.now in
    refused_part expr_tree c.in_err-left-in-Two.field-0.0 c.from_residual.result (checked_expr n c.args.calls (tree_of c.deref-in-Two.result.now)) (checked_expr n c.args.calls (tree_of c.args.expr.now))
    (left_refused n c.args.calls c.in-Two.op c.in-Two.left c.in-Two.right c.deref-in-Two.result.now c.in-Two.is c.deref-in-Two.ensures) c.from_residual.ensures.1 c.in_err-left-in-Two.ensures

pub expression-returns-in_err-right-in-Two : goal.expression-returns-in_err-right-in-Two
expression-returns-in_err-right-in-Two t c =
    let n = scope_names c.args.scope.now in
    refused_part expr_tree c.in_err-right-in-Two.field-0.0 c.from_residual-in_err-right-in-Two.result (checked_expr n c.args.calls (tree_of c.deref-in-Two-2.result.now)) (checked_expr n c.args.calls (tree_of c.args.expr.now))
    (right_refused n c.args.calls c.in-Two.op c.in-Two.left c.in-Two.right c.deref-in-Two.result.now c.deref-in-Two-2.result.now _ c.in-Two.is c.deref-in-Two.ensures c.deref-in-Two-2.ensures
    c.in_ok-left-in-Two.ensures) c.from_residual-in_err-right-in-Two.ensures.1 c.in_err-right-in-Two.ensures

pub item-returns-in_err-buffer : goal.item-returns-in_err-buffer
item-returns-in_err-buffer t c =
    let e = checked_expr (scope_names c.args.scope.now) c.args.calls (tree_of c.args.index.now) in
    refused_by expr_tree c.in_err-buffer.field-0.0 c.from_residual.result (checked_expr (scope_names c.args.scope.now) c.args.calls (given.item c.args.word.now (tree_of c.args.index.now)))
    (ap (λ r. r >>= (λ p. e >>= (λ i. Ok (Item p i)))) (sym c.buffer.ensures ∙ c.in_err-buffer.was)) c.from_residual.ensures.1

pub call-returns-in_err-fun : goal.call-returns-in_err-fun
call-returns-in_err-fun t c =
    refused_by call_of c.in_err-fun.field-0.0 c.from_residual.result
    (checked_call (scope_names c.args.scope.now) c.args.calls c.args.word.now (trees_of c.args.args.now) (checked_args (scope_names c.args.scope.now) c.args.calls (trees_of c.args.args.now)))
    (call_unfound (scope_names c.args.scope.now) c.args.calls c.args.word.now c.args.args.now _ c.in_err-fun.field-0.0 (sym c.function.ensures ∙ c.in_err-fun.was)) c.from_residual.ensures.1

pub call-returns-then-not-calls : goal.call-returns-then-not-calls
call-returns-then-not-calls t c =
    call_barred (scope_names c.args.scope.now) c.args.calls c.args.word.now c.args.args.now _ (c.in_ok-fun.fun, c.in_ok-fun.kind)
    (sym c.function.ensures ∙ c.in_ok-fun.was) c.if-not-calls.true

pub call-returns-in_err-sent : goal.call-returns-in_err-sent
call-returns-in_err-sent t c =
    refused_by call_of c.in_err-sent.field-0.0 c.from_residual-in_err-sent.result
    (checked_call (scope_names c.args.scope.now) c.args.calls c.args.word.now (trees_of c.args.args.now) (checked_args (scope_names c.args.scope.now) c.args.calls (trees_of c.args.args.now)))
    (call_sends (scope_names c.args.scope.now) c.args.calls c.args.word.now c.args.args.now _ (c.in_ok-fun.fun, c.in_ok-fun.kind)
    (sym c.function.ensures ∙ c.in_ok-fun.was) c.if-not-calls.false (sym c.sends.ensures ∙ c.if-sends.true)
    ∙ ap (λ r. r >>= (λ p. Ok (sends c.in_ok-fun.fun p))) (ap (λ (es : List Expr). sent (scope_names c.args.scope.now) c.args.word.now.place (trees_of es)) (sym c.as_slice.ensures) ∙ sym c.sent.ensures ∙ c.in_err-sent.was)) c.from_residual-in_err-sent.ensures.1

pub call-returns-then-sends : goal.call-returns-then-sends
call-returns-then-sends t c =
    call_sends (scope_names c.args.scope.now) c.args.calls c.args.word.now c.args.args.now _ (c.in_ok-fun.fun, c.in_ok-fun.kind)
    (sym c.function.ensures ∙ c.in_ok-fun.was) c.if-not-calls.false (sym c.sends.ensures ∙ c.if-sends.true)
    ∙ ap (λ r. r >>= (λ p. Ok (sends c.in_ok-fun.fun p))) (ap (λ (es : List Expr). sent (scope_names c.args.scope.now) c.args.word.now.place (trees_of es)) (sym c.as_slice.ensures) ∙ sym c.sent.ensures ∙ c.in_ok-sent.was)

-- ---- where all parts pass

pub expression-returns-in-MsgSize : goal.expression-returns-in-MsgSize
expression-returns-in-MsgSize t c = message_size_passes (scope_names c.args.scope.now) c.args.calls c.in-MsgSize.is

pub expression-returns-in_ok-right-in-Two : goal.expression-returns-in_ok-right-in-Two
expression-returns-in_ok-right-in-Two t c =
    two_pass (scope_names c.args.scope.now) c.args.calls c.in-Two.op c.in-Two.left c.in-Two.right c.deref-in-Two.result.now c.deref-in-Two-2.result.now
    c.in_ok-left-in-Two.left c.in_ok-right-in-Two.right c.in-Two.is c.deref-in-Two.ensures c.deref-in-Two-2.ensures c.in_ok-left-in-Two.ensures c.in_ok-right-in-Two.ensures

pub item-returns : goal.item-returns
item-returns t c =
    item_passes (scope_names c.args.scope.now) c.args.calls c.args.word.now (tree_of c.args.index.now) c.in_ok-buffer.buffer c.in_ok-operand.field-0
    (sym c.buffer.ensures ∙ c.in_ok-buffer.was) c.in_ok-operand.ensures

pub message_item-returns : goal.message_item-returns
message_item-returns t c = message_item_passes (scope_names c.args.scope.now) c.args.calls (tree_of c.args.index.now) c.in_ok-operand.field-0 c.in_ok-operand.ensures

pub negative-returns : goal.negative-returns
negative-returns t c = negative_passes (scope_names c.args.scope.now) c.args.calls (tree_of c.args.of.now) c.in_ok-operand.field-0 c.in_ok-operand.ensures

pub inverse-returns : goal.inverse-returns
inverse-returns t c = inverse_passes (scope_names c.args.scope.now) c.args.calls (tree_of c.args.of.now) c.in_ok-operand.field-0 c.in_ok-operand.ensures

pub call_in-returns : goal.call_in-returns
call_in-returns t c = ap (λ r. r >>= (λ x. Ok (as_expression x))) c.in_ok-call.ensures ∙ ap Ok (sym c.into_expr.ensures)
