use Rattle.std.proofs.Common.{refl, ap, sym, ◌∙◌}
use Rattle.std.proofs.lemmas.List.{drop_all}
use Rattle.ts_checked.proofs.ListLemmas.{drop_item}
use Rattle.ts_trees.specs.declared.token.TokenKind.TheVariants as kind
use Rattle.ts_trees.specs.Spelling.{spelled, sign, args_spelled}
use Rattle.ts_trees.specs.Seen.{tree_of, trees_of}
use Rattle.ts_syntax.specs.Naming.{named_expr, named_args}
use Rattle.ts_syntax.proofs.PrintLemmas.{◌⋙◌, tokens_by, behind_box, args_start, args_end, args_next}
use Rattle.ts_trees.proofs.SeenLemmas.{tree_number, tree_variable, tree_item, tree_size, tree_message_item, tree_message_size, tree_call, tree_negative, tree_inverse, tree_two, tree_paren}
use Rattle.ts_syntax.proofs.printer.Printer.+print_expr.Goals as goal

pub expr-returns-in-Num : goal.expr-returns-in-Num
expr-returns-in-Num g t c = tokens_by (ap (λ e. spelled (named_expr (g.N.Naming.named c.args.naming.now) e)) (ap tree_of c.in-Num.is ∙ tree_number _)) c.number.ensures

pub expr-returns-in-Var : goal.expr-returns-in-Var
expr-returns-in-Var g t c = tokens_by (ap (λ e. spelled (named_expr (g.N.Naming.named c.args.naming.now) e)) (ap tree_of c.in-Var.is ∙ tree_variable _)) c.named.ensures

pub expr-returns-in-Item : goal.expr-returns-in-Item
expr-returns-in-Item g t c =
    tokens_by (ap (λ e. spelled (named_expr (g.N.Naming.named c.args.naming.now) e)) (ap tree_of c.in-Item.is ∙ tree_item _ _))
    (c.named-in-Item.ensures ⋙ c.token.ensures kind.OpenBox refl ⋙ behind_box _ c.deref.ensures c.expr.ensures ⋙ c.token-in-Item.ensures kind.CloseBox refl)

pub expr-returns-in-Size : goal.expr-returns-in-Size
expr-returns-in-Size g t c =
    tokens_by (ap (λ e. spelled (named_expr (g.N.Naming.named c.args.naming.now) e)) (ap tree_of c.in-Size.is ∙ tree_size _))
    (c.token-in-Size.ensures kind.Size refl ⋙ c.parens.ensures)

pub expr-returns-in-MsgItem : goal.expr-returns-in-MsgItem
expr-returns-in-MsgItem g t c =
    tokens_by (ap (λ e. spelled (named_expr (g.N.Naming.named c.args.naming.now) e)) (ap tree_of c.in-MsgItem.is ∙ tree_message_item _))
    (c.token-in-MsgItem.ensures kind.Msg refl ⋙ c.token-in-MsgItem-2.ensures kind.OpenBox refl ⋙ behind_box _ c.deref-in-MsgItem.ensures c.expr-in-MsgItem.ensures
    ⋙ c.token-in-MsgItem-3.ensures kind.CloseBox refl)

pub expr-returns-in-MsgSize : goal.expr-returns-in-MsgSize
expr-returns-in-MsgSize g t c =
    tokens_by (ap (λ e. spelled (named_expr (g.N.Naming.named c.args.naming.now) e)) (ap tree_of c.in-MsgSize.is ∙ tree_message_size))
    (c.token-in-MsgSize.ensures kind.Size refl ⋙ c.token-in-MsgSize-2.ensures kind.Open refl ⋙ c.token-in-MsgSize-3.ensures kind.Msg refl ⋙ c.token-in-MsgSize-4.ensures kind.Close refl)

pub expr-returns-in-Call : goal.expr-returns-in-Call
expr-returns-in-Call g t c =
    tokens_by (ap (λ e. spelled (named_expr (g.N.Naming.named c.args.naming.now) e)) (ap tree_of c.in-Call.is ∙ tree_call _ _))
    (c.name.ensures ⋙ c.token-in-Call.ensures kind.Open refl ⋙ c.args-in-Call.ensures ⋙ c.token-in-Call-2.ensures kind.Close refl)

pub expr-returns-in-Neg : goal.expr-returns-in-Neg
expr-returns-in-Neg g t c =
    tokens_by (ap (λ e. spelled (named_expr (g.N.Naming.named c.args.naming.now) e)) (ap tree_of c.in-Neg.is ∙ tree_negative _))
    (c.token-in-Neg.ensures kind.Minus refl ⋙ behind_box _ c.deref-in-Neg.ensures c.expr-in-Neg.ensures)

pub expr-returns-in-Not : goal.expr-returns-in-Not
expr-returns-in-Not g t c =
    tokens_by (ap (λ e. spelled (named_expr (g.N.Naming.named c.args.naming.now) e)) (ap tree_of c.in-Not.is ∙ tree_inverse _))
    (c.token-in-Not.ensures kind.Not refl ⋙ behind_box _ c.deref-in-Not.ensures c.expr-in-Not.ensures)

pub expr-returns-in-Two : goal.expr-returns-in-Two
expr-returns-in-Two g t c =
    tokens_by (ap (λ e. spelled (named_expr (g.N.Naming.named c.args.naming.now) e)) (ap tree_of c.in-Two.is ∙ tree_two _ _ _))
    (behind_box _ c.deref-in-Two.ensures c.expr-in-Two.ensures
    ⋙ (c.token-in-Two.ensures (sign c.in-Two.op) c.sign_text.ensures ⋙ behind_box _ c.deref-in-Two-2.ensures c.expr-in-Two-2.ensures))

pub expr-returns-in-Paren : goal.expr-returns-in-Paren
expr-returns-in-Paren g t c =
    tokens_by (ap (λ e. spelled (named_expr (g.N.Naming.named c.args.naming.now) e)) (ap tree_of c.in-Paren.is ∙ tree_paren _))
    (c.token-in-Paren.ensures kind.Open refl ⋙ behind_box _ c.deref-in-Paren.ensures c.expr-in-Paren.ensures ⋙ c.token-in-Paren-2.ensures kind.Close refl)

pub args-loop-arg-init : goal.args-loop-arg-init
args-loop-arg-init g t c = args_start _ _ _ _ _

pub args-loop-arg-preserved : goal.args-loop-arg-preserved
args-loop-arg-preserved g t c =
    args_next _ c.loop-arg.first (drop_item _ _ _ c.loop-arg-test.true c.arg-item.is) c.loop-arg.invariant c.comma.ensures c.expr.ensures

pub args-returns : goal.args-returns
args-returns g t c =
    tokens_by (ap (λ es. args_spelled (named_args (g.N.Naming.named c.args.naming.now) (trees_of es))) (sym c.as_slice-arg-items.ensures))
    (args_end _ c.loop-arg.first (drop_all _ _ c.loop-arg-test.false) c.loop-arg.invariant)
