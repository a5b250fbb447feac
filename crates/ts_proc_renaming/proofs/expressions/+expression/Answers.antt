use Rattle.std.proofs.Common.{◌∙◌, ap, refl}
use Rattle.ts_trees.specs.declared.expr.Expr.TheVariants.{Num, Var, Item, Size, MsgItem, MsgSize, Call, Neg, Not, Two, Paren}
use Rattle.ts_trees.specs.Seen.{tree_of}
use Rattle.ts_trees.proofs.SeenLemmas.{tree_number, tree_variable, tree_item, tree_size, tree_message_item, tree_message_size, tree_call, tree_negative, tree_inverse, tree_two, tree_paren}
use Rattle.ts_proc_renaming.specs.Hidden.{hiding_of}
use Rattle.ts_proc_renaming.proofs.RenamingLemmas.{renamed_node, renamed_next, renamed_all}
use Rattle.ts_proc_renaming.proofs.WrittenLemmas.{failed}
use Rattle.ts_proc_renaming.proofs.expressions.+expression.Goals as goal

pub expression-returns-in-Num : goal.expression-returns-in-Num
expression-returns-in-Num t c =
    renamed_node (hiding_of c.args.hidden.now) c.args.expr.now (Num c.in-Num.number) _ (ap tree_of c.in-Num.is ∙ tree_number c.in-Num.number)
    (tree_number c.in-Num.number)

pub expression-returns-in-Var : goal.expression-returns-in-Var
expression-returns-in-Var t c =
    renamed_node (hiding_of c.args.hidden.now) c.args.expr.now (Var c.word.result) _ (ap tree_of c.in-Var.is ∙ tree_variable c.in-Var.name)
    (tree_variable c.word.result ∙ rw c.word.ensures refl)

pub expression-returns-in_ok-index-in-Item : goal.expression-returns-in_ok-index-in-Item
expression-returns-in_ok-index-in-Item t c =
    renamed_node (hiding_of c.args.hidden.now) c.args.expr.now (Item c.word-in-Item.result c.in_ok-index-in-Item.index) _ (ap tree_of c.in-Item.is ∙ tree_item c.in-Item.name c.in-Item.index)
    (tree_item c.word-in-Item.result c.in_ok-index-in-Item.index ∙ rw (c.word-in-Item.ensures, c.in_ok-index-in-Item.ensures) refl)

pub expression-returns-in-Size : goal.expression-returns-in-Size
expression-returns-in-Size t c =
    renamed_node (hiding_of c.args.hidden.now) c.args.expr.now (Size c.word-in-Size.result) _ (ap tree_of c.in-Size.is ∙ tree_size c.in-Size.name)
    (tree_size c.word-in-Size.result ∙ rw c.word-in-Size.ensures refl)

pub expression-returns-in_ok-boxed-in-MsgItem : goal.expression-returns-in_ok-boxed-in-MsgItem
expression-returns-in_ok-boxed-in-MsgItem t c =
    renamed_node (hiding_of c.args.hidden.now) c.args.expr.now (MsgItem c.in_ok-boxed-in-MsgItem.field-0) _ (ap tree_of c.in-MsgItem.is ∙ tree_message_item c.in-MsgItem.index)
    (tree_message_item c.in_ok-boxed-in-MsgItem.field-0 ∙ rw c.in_ok-boxed-in-MsgItem.ensures refl)

pub expression-returns-in-MsgSize : goal.expression-returns-in-MsgSize
expression-returns-in-MsgSize t c =
    renamed_node (hiding_of c.args.hidden.now) c.args.expr.now MsgSize _ (ap tree_of c.in-MsgSize.is ∙ tree_message_size)
    tree_message_size

pub expression-returns-in_ok-args-in-Call : goal.expression-returns-in_ok-args-in-Call
expression-returns-in_ok-args-in-Call t c =
    renamed_node (hiding_of c.args.hidden.now) c.args.expr.now (Call c.same.result c.in_ok-args-in-Call.args) _ (ap tree_of c.in-Call.is ∙ tree_call c.in-Call.name c.in-Call.args)
    (tree_call c.same.result c.in_ok-args-in-Call.args ∙ rw (c.same.ensures, c.in_ok-args-in-Call.ensures, c.as_slice.ensures) refl)

pub expression-returns-in_ok-boxed-in-Neg : goal.expression-returns-in_ok-boxed-in-Neg
expression-returns-in_ok-boxed-in-Neg t c =
    renamed_node (hiding_of c.args.hidden.now) c.args.expr.now (Neg c.in_ok-boxed-in-Neg.field-0) _ (ap tree_of c.in-Neg.is ∙ tree_negative c.in-Neg.of)
    (tree_negative c.in_ok-boxed-in-Neg.field-0 ∙ rw c.in_ok-boxed-in-Neg.ensures refl)

pub expression-returns-in_ok-boxed-in-Not : goal.expression-returns-in_ok-boxed-in-Not
expression-returns-in_ok-boxed-in-Not t c =
    renamed_node (hiding_of c.args.hidden.now) c.args.expr.now (Not c.in_ok-boxed-in-Not.field-0) _ (ap tree_of c.in-Not.is ∙ tree_inverse c.in-Not.of)
    (tree_inverse c.in_ok-boxed-in-Not.field-0 ∙ rw c.in_ok-boxed-in-Not.ensures refl)

pub expression-returns-in_ok-right-in-Two : goal.expression-returns-in_ok-right-in-Two
expression-returns-in_ok-right-in-Two t c =
    renamed_node (hiding_of c.args.hidden.now) c.args.expr.now (Two c.in-Two.op c.in_ok-left-in-Two.left c.in_ok-right-in-Two.right) _ (ap tree_of c.in-Two.is ∙ tree_two c.in-Two.op c.in-Two.left c.in-Two.right)
    (tree_two c.in-Two.op c.in_ok-left-in-Two.left c.in_ok-right-in-Two.right ∙ rw (c.in_ok-left-in-Two.ensures, c.in_ok-right-in-Two.ensures) refl)

pub expression-returns-in_ok-boxed-in-Paren : goal.expression-returns-in_ok-boxed-in-Paren
expression-returns-in_ok-boxed-in-Paren t c =
    renamed_node (hiding_of c.args.hidden.now) c.args.expr.now (Paren c.in_ok-boxed-in-Paren.field-0) _ (ap tree_of c.in-Paren.is ∙ tree_paren c.in-Paren.of)
    (tree_paren c.in_ok-boxed-in-Paren.field-0 ∙ rw c.in_ok-boxed-in-Paren.ensures refl)

pub arguments-loop-arg-preserved : goal.arguments-loop-arg-preserved
arguments-loop-arg-preserved t c =
    renamed_next (hiding_of c.args.hidden.now) c.args.args.now c.loop-arg.renamed c.push.new.self c.loop-arg.arg-index c.arg-item.result c.in_ok-expression.field-0
    c.loop-arg-test.true c.arg-item.is c.in_ok-expression.ensures c.in_ok-push.ensures c.loop-arg.invariant

pub arguments-returns : goal.arguments-returns
arguments-returns t c = renamed_all (hiding_of c.args.hidden.now) c.args.args.now c.loop-arg.renamed c.loop-arg.arg-index c.loop-arg-test.false c.loop-arg.invariant

pub expression-returns-in_err-index-in-Item : goal.expression-returns-in_err-index-in-Item
expression-returns-in_err-index-in-Item t c = rw (failed c.from_residual.result c.in_err-index-in-Item.field-0.0 c.from_residual.ensures.1) tt

pub expression-returns-in_err-boxed-in-MsgItem : goal.expression-returns-in_err-boxed-in-MsgItem
expression-returns-in_err-boxed-in-MsgItem t c = rw (failed c.from_residual-in_err-boxed-in-MsgItem.result c.in_err-boxed-in-MsgItem.field-0.0 c.from_residual-in_err-boxed-in-MsgItem.ensures.1) tt

pub expression-returns-in_err-args-in-Call : goal.expression-returns-in_err-args-in-Call
expression-returns-in_err-args-in-Call t c = rw (failed c.from_residual-in_err-args-in-Call.result c.in_err-args-in-Call.field-0.0 c.from_residual-in_err-args-in-Call.ensures.1) tt

pub expression-returns-in_err-boxed-in-Neg : goal.expression-returns-in_err-boxed-in-Neg
expression-returns-in_err-boxed-in-Neg t c = rw (failed c.from_residual-in_err-boxed-in-Neg.result c.in_err-boxed-in-Neg.field-0.0 c.from_residual-in_err-boxed-in-Neg.ensures.1) tt

pub expression-returns-in_err-boxed-in-Not : goal.expression-returns-in_err-boxed-in-Not
expression-returns-in_err-boxed-in-Not t c = rw (failed c.from_residual-in_err-boxed-in-Not.result c.in_err-boxed-in-Not.field-0.0 c.from_residual-in_err-boxed-in-Not.ensures.1) tt

pub expression-returns-in_err-left-in-Two : goal.expression-returns-in_err-left-in-Two
expression-returns-in_err-left-in-Two t c = rw (failed c.from_residual-in_err-left-in-Two.result c.in_err-left-in-Two.field-0.0 c.from_residual-in_err-left-in-Two.ensures.1) tt

pub expression-returns-in_err-right-in-Two : goal.expression-returns-in_err-right-in-Two
expression-returns-in_err-right-in-Two t c = rw (failed c.from_residual-in_err-right-in-Two.result c.in_err-right-in-Two.field-0.0 c.from_residual-in_err-right-in-Two.ensures.1) tt

pub expression-returns-in_err-boxed-in-Paren : goal.expression-returns-in_err-boxed-in-Paren
expression-returns-in_err-boxed-in-Paren t c = rw (failed c.from_residual-in_err-boxed-in-Paren.result c.in_err-boxed-in-Paren.field-0.0 c.from_residual-in_err-boxed-in-Paren.ensures.1) tt

pub boxed-returns-in_err-part : goal.boxed-returns-in_err-part
boxed-returns-in_err-part t c = rw (failed c.from_residual.result c.in_err-part.field-0.0 c.from_residual.ensures.1) tt

pub arguments-returns-in_err-expression : goal.arguments-returns-in_err-expression
arguments-returns-in_err-expression t c = rw (failed c.from_residual.result c.in_err-expression.field-0.0 c.from_residual.ensures.1) tt

pub arguments-returns-in_err-push : goal.arguments-returns-in_err-push
arguments-returns-in_err-push t c = rw (failed c.from_residual-in_err-push.result c.in_err-push.field-0.0 c.from_residual-in_err-push.ensures.1) tt
