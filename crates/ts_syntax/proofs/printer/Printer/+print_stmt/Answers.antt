use Rattle.std.proofs.Common.{refl, ap, sym, ◌∙◌}
use Rattle.std.proofs.lemmas.List.{drop_all}
use Rattle.ts_checked.proofs.ListLemmas.{drop_item}
use Rattle.ts_trees.specs.declared.token.TokenKind.TheVariants as kind
use Rattle.ts_trees.specs.declared.stmt.Stmt.TheVariants as does
use Rattle.ts_trees.specs.Spelling.{act_spelled, acts_spelled}
use Rattle.ts_trees.specs.Seen.{act_of, acts_of}
use Rattle.ts_syntax.specs.Naming.{named_act, named_acts}
use Rattle.ts_syntax.proofs.PrintLemmas.{◌⋙◌, tokens_by, acts_start, acts_end, acts_next, for_spelled, if_then_spelled, if_else_spelled}
use Rattle.ts_trees.proofs.SeenLemmas.{act_set, act_set_item, act_append, act_take_last, act_clear, act_call_alone, act_while_do, act_run_procedure}
use Rattle.ts_syntax.proofs.printer.Printer.+print_stmt.Goals as goal

pub stmt-returns-in-Set : goal.stmt-returns-in-Set
stmt-returns-in-Set g t c =
    tokens_by (ap (λ a. act_spelled (named_act (g.N.Naming.named c.args.naming.now) a)) (ap act_of c.in-Set.is ∙ act_set _ _))
    (c.named.ensures ⋙ c.assigned.ensures)

pub stmt-returns-in-SetItem : goal.stmt-returns-in-SetItem
stmt-returns-in-SetItem g t c =
    tokens_by (ap (λ a. act_spelled (named_act (g.N.Naming.named c.args.naming.now) a)) (ap act_of c.in-SetItem.is ∙ act_set_item _ _ _))
    (c.named-in-SetItem.ensures ⋙ c.token.ensures kind.OpenBox refl ⋙ (c.expr.ensures ⋙ (c.token-in-SetItem.ensures kind.CloseBox refl ⋙ c.assigned-in-SetItem.ensures)))

pub stmt-returns-in-Append : goal.stmt-returns-in-Append
stmt-returns-in-Append g t c =
    tokens_by (ap (λ a. act_spelled (named_act (g.N.Naming.named c.args.naming.now) a)) (ap act_of c.in-Append.is ∙ act_append _ _))
    (c.named-in-Append.ensures ⋙ c.boxes.ensures ⋙ c.assigned-in-Append.ensures)

pub stmt-returns-in-Take : goal.stmt-returns-in-Take
stmt-returns-in-Take g t c =
    tokens_by (ap (λ a. act_spelled (named_act (g.N.Naming.named c.args.naming.now) a)) (ap act_of c.in-Take.is ∙ act_take_last _ _))
    (c.named-in-Take.ensures ⋙ c.token-in-Take.ensures kind.Eq refl ⋙ c.named-in-Take-2.ensures ⋙ c.boxes-in-Take.ensures ⋙ c.token-in-Take-2.ensures kind.Semi refl)

pub stmt-returns-in-Clear : goal.stmt-returns-in-Clear
stmt-returns-in-Clear g t c =
    tokens_by (ap (λ a. act_spelled (named_act (g.N.Naming.named c.args.naming.now) a)) (ap act_of c.in-Clear.is ∙ act_clear _))
    (c.token-in-Clear.ensures kind.Clear refl ⋙ c.parens.ensures ⋙ c.token-in-Clear-2.ensures kind.Semi refl)

pub stmt-returns-in-Do : goal.stmt-returns-in-Do
stmt-returns-in-Do g t c =
    tokens_by (ap (λ a. act_spelled (named_act (g.N.Naming.named c.args.naming.now) a)) (ap act_of c.in-Do.is ∙ act_call_alone _ _))
    c.call_alone.ensures

pub stmt-returns-in-None : goal.stmt-returns-in-None
stmt-returns-in-None g t c =
    tokens_by (ap (λ s. act_spelled (named_act (g.N.Naming.named c.args.naming.now) (act_of s)))
    (c.in-If.is ∙ ap (λ o. does.If c.in-If.test c.in-If.block o) c.in-None.is) ∙ if_then_spelled _ _ _)
    (c.if_head.ensures ⋙ (c.block.ensures ⋙ c.end_if.ensures))

pub stmt-returns-in-Some : goal.stmt-returns-in-Some
stmt-returns-in-Some g t c =
    tokens_by (ap (λ s. act_spelled (named_act (g.N.Naming.named c.args.naming.now) (act_of s)))
    (c.in-If.is ∙ ap (λ o. does.If c.in-If.test c.in-If.block o) c.in-Some.is) ∙ if_else_spelled _ _ _ _)
    (c.if_head.ensures ⋙ (c.block.ensures ⋙ (c.otherwise.ensures ⋙ (c.block-in-Some.ensures ⋙ c.end_if-in-Some.ensures))))

pub stmt-returns-in-For : goal.stmt-returns-in-For
stmt-returns-in-For g t c =
    tokens_by (ap (λ s. act_spelled (named_act (g.N.Naming.named c.args.naming.now) (act_of s))) c.in-For.is ∙ for_spelled _ _ _ _)
    (c.for_head.ensures ⋙ (c.block-in-For.ensures ⋙ c.next.ensures))

pub stmt-returns-in-While : goal.stmt-returns-in-While
stmt-returns-in-While g t c =
    tokens_by (ap (λ a. act_spelled (named_act (g.N.Naming.named c.args.naming.now) a)) (ap act_of c.in-While.is ∙ act_while_do _ _))
    (c.while_head.ensures ⋙ (c.block-in-While.ensures ⋙ c.end_while.ensures))

pub stmt-returns-in-Run : goal.stmt-returns-in-Run
stmt-returns-in-Run g t c =
    tokens_by (ap (λ a. act_spelled (named_act (g.N.Naming.named c.args.naming.now) a)) (ap act_of c.in-Run.is ∙ act_run_procedure _ _))
    (c.token-in-Run.ensures kind.Do refl ⋙ c.call_alone-in-Run.ensures)

pub block-loop-stmt-init : goal.block-loop-stmt-init
block-loop-stmt-init g t c = acts_start _ _ _ _ _

pub block-loop-stmt-preserved : goal.block-loop-stmt-preserved
block-loop-stmt-preserved g t c = acts_next _ (drop_item _ _ _ c.loop-stmt-test.true c.stmt-item.is) c.loop-stmt.invariant c.stmt.ensures

pub block-returns : goal.block-returns
block-returns g t c =
    tokens_by (ap (λ es. acts_spelled (named_acts (g.N.Naming.named c.args.naming.now) (acts_of es))) (sym c.as_slice-stmt-items.ensures))
    (acts_end _ (drop_all _ _ c.loop-stmt-test.false) c.loop-stmt.invariant)
