use Rattle.std.proofs.Common.{◌∙◌, List, ◌+◌, ap, sym, drop, refl}
use Rattle.ts_trees.specs.declared.expr.Expr.{Expr}
use Rattle.ts_trees.specs.Seen.{tree_of, trees_of}
use Rattle.ts_trees.proofs.SeenLemmas.{tree_number, tree_variable, tree_item, tree_size, tree_message_item, tree_message_size, tree_call, tree_negative, tree_inverse, tree_two, tree_paren}
use Rattle.ts_proc_names.specs.NameFaults.{◌<|>◌, word_fault, expr_fault, args_fault}
use Rattle.ts_proc_names.proofs.PartLemmas.{refused_first, passed_first, passed_as, tree_passes, expr_passes, args_pass, args_from, args_next, args_end}
use Rattle.ts_proc_names.proofs.reserved.+expression.Goals as goal

pub arguments-loop-arg-init : goal.arguments-loop-arg-init
arguments-loop-arg-init t c = refl

pub arguments-returns-in_err-expression : goal.arguments-returns-in_err-expression
arguments-returns-in_err-expression t c =
    let rest : List Expr = drop (c.loop-arg.arg-index + 1) c.args.args.now in
    passed_as c.from_residual.result (args_fault (trees_of c.args.args.now)) (expr_fault (tree_of c.arg-item.result) <|> args_fault (trees_of rest))
    (c.loop-arg.invariant ∙ args_from c.args.args.now c.loop-arg.arg-index c.arg-item.result c.loop-arg-test.true c.arg-item.is)
    (refused_first c.in_err-expression.field-0.0 c.from_residual.result (expr_fault (tree_of c.arg-item.result)) (args_fault (trees_of rest)) c.from_residual.ensures.1 c.in_err-expression.ensures)

pub arguments-loop-arg-preserved : goal.arguments-loop-arg-preserved
arguments-loop-arg-preserved t c =
    c.loop-arg.invariant ∙ args_next c.args.args.now c.loop-arg.arg-index c.arg-item.result c.loop-arg-test.true c.arg-item.is c.in_ok-expression.ensures

pub arguments-returns : goal.arguments-returns
arguments-returns t c = sym (c.loop-arg.invariant ∙ args_end c.args.args.now c.loop-arg.arg-index c.loop-arg-test.false)

pub expression-returns-in-Num : goal.expression-returns-in-Num
expression-returns-in-Num t c =
    sym (ap expr_fault (ap tree_of c.in-Num.is ∙ tree_number c.in-Num.field-0))

pub expression-returns-in-Var : goal.expression-returns-in-Var
expression-returns-in-Var t c =
    let s = c.in-Var in
    let r = c.word in
    tree_passes r.result (ap tree_of s.is ∙ tree_variable s.name) r.ensures

pub expression-returns-in_err-word-in-Item : goal.expression-returns-in_err-word-in-Item
expression-returns-in_err-word-in-Item t c =
    let s = c.in-Item in
    let r = c.from_residual in
    let e = c.in_err-word-in-Item in
    tree_passes r.result (ap tree_of s.is ∙ tree_item s.name s.index)
    (refused_first e.field-0.0 r.result (word_fault s.name) (expr_fault (tree_of s.index.value)) r.ensures.1 e.ensures)

pub expression-returns-in_ok-word-in-Item : goal.expression-returns-in_ok-word-in-Item
expression-returns-in_ok-word-in-Item t c =
    let s = c.in-Item in
    let r = c.expression in
    tree_passes r.result (ap tree_of s.is ∙ tree_item s.name s.index)
    (passed_first r.result (word_fault s.name) (expr_fault (tree_of s.index.value)) c.in_ok-word-in-Item.ensures
    (expr_passes r.result c.deref.ensures r.ensures))

pub expression-returns-in-Size : goal.expression-returns-in-Size
expression-returns-in-Size t c =
    let s = c.in-Size in
    let r = c.word-in-Size in
    tree_passes r.result (ap tree_of s.is ∙ tree_size s.name) r.ensures

pub expression-returns-in-MsgItem : goal.expression-returns-in-MsgItem
expression-returns-in-MsgItem t c =
    let s = c.in-MsgItem in
    let r = c.expression-in-MsgItem in
    tree_passes r.result (ap tree_of s.is ∙ tree_message_item s.index)
    (expr_passes r.result c.deref-in-MsgItem.ensures r.ensures)

pub expression-returns-in-Neg : goal.expression-returns-in-Neg
expression-returns-in-Neg t c =
    let s = c.in-Neg in
    let r = c.expression-in-Neg in
    tree_passes r.result (ap tree_of s.is ∙ tree_negative s.of)
    (expr_passes r.result c.deref-in-Neg.ensures r.ensures)

pub expression-returns-in-Not : goal.expression-returns-in-Not
expression-returns-in-Not t c =
    let s = c.in-Not in
    let r = c.expression-in-Not in
    tree_passes r.result (ap tree_of s.is ∙ tree_inverse s.of)
    (expr_passes r.result c.deref-in-Not.ensures r.ensures)

pub expression-returns-in-Paren : goal.expression-returns-in-Paren
expression-returns-in-Paren t c =
    let s = c.in-Paren in
    let r = c.expression-in-Paren in
    tree_passes r.result (ap tree_of s.is ∙ tree_paren s.of)
    (expr_passes r.result c.deref-in-Paren.ensures r.ensures)

pub expression-returns-in-MsgSize : goal.expression-returns-in-MsgSize
expression-returns-in-MsgSize t c =
    sym (ap expr_fault (ap tree_of c.in-MsgSize.is ∙ tree_message_size))

pub expression-returns-in_err-word-in-Call : goal.expression-returns-in_err-word-in-Call
expression-returns-in_err-word-in-Call t c =
    let s = c.in-Call in
    let r = c.from_residual-in_err-word-in-Call in
    let e = c.in_err-word-in-Call in
    tree_passes r.result (ap tree_of s.is ∙ tree_call s.name s.args)
    (refused_first e.field-0.0 r.result (word_fault s.name) (args_fault (trees_of s.args)) r.ensures.1 e.ensures)

pub expression-returns-in_ok-word-in-Call : goal.expression-returns-in_ok-word-in-Call
expression-returns-in_ok-word-in-Call t c =
    let s = c.in-Call in
    let r = c.arguments in
    tree_passes r.result (ap tree_of s.is ∙ tree_call s.name s.args)
    (passed_first r.result (word_fault s.name) (args_fault (trees_of s.args)) c.in_ok-word-in-Call.ensures
    (args_pass r.result c.as_slice.ensures r.ensures))

pub expression-returns-in_err-expression-in-Two : goal.expression-returns-in_err-expression-in-Two
expression-returns-in_err-expression-in-Two t c =
    let s = c.in-Two in
    let r = c.from_residual-in_err-expression-in-Two in
    let e = c.in_err-expression-in-Two in
    tree_passes r.result (ap tree_of s.is ∙ tree_two s.field-0 s.left s.right)
    (passed_as r.result (expr_fault (tree_of s.left.value) <|> expr_fault (tree_of s.right.value)) (expr_fault (tree_of c.deref-in-Two.result.now) <|> expr_fault (tree_of s.right.value)) (ap (λ (x : Expr). expr_fault (tree_of x) <|> expr_fault (tree_of s.right.value)) (sym c.deref-in-Two.ensures))
    (refused_first e.field-0.0 r.result (expr_fault (tree_of c.deref-in-Two.result.now)) (expr_fault (tree_of s.right.value)) r.ensures.1 e.ensures))

pub expression-returns-in_ok-expression-in-Two : goal.expression-returns-in_ok-expression-in-Two
expression-returns-in_ok-expression-in-Two t c =
    let s = c.in-Two in
    let r = c.expression-in-Two-2 in
    tree_passes r.result (ap tree_of s.is ∙ tree_two s.field-0 s.left s.right)
    (passed_first r.result (expr_fault (tree_of s.left.value)) (expr_fault (tree_of s.right.value)) (c.in_ok-expression-in-Two.ensures ∙ ap (λ (x : Expr). expr_fault (tree_of x)) c.deref-in-Two.ensures)
    (expr_passes r.result c.deref-in-Two-2.ensures r.ensures))
