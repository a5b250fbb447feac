use Rattle.std.proofs.Common.{◌≡◌, ◌∙◌, ap, sym, subst, true, refl, Result}
use Rattle.ts_trees.specs.Seen.{tree_of, act_of, acts_of}
use Rattle.ts_trees.specs.Tree as given
use Rattle.ts_trees.specs.Tree.{Act}
use Rattle.ts_checked.specs.declared.checked_stmt.CStmt.{CStmt}
use Rattle.ts_trees.proofs.SeenLemmas.{act_set, act_set_item, act_append, act_take_last, act_clear, act_call_alone, act_for_next, act_while_do, act_run_procedure}
use Rattle.ts_checker.specs.declared.fault.CheckFault.{CheckFault}
use Rattle.ts_checker.specs.Answer.{GivesChecked, RefusesScript}
use Rattle.ts_checker.specs.Names.{ScriptNames}
use Rattle.ts_checked.specs.TreeOf.{stmt_tree, block_tree, block_trees}
use Rattle.ts_checker.specs.Checks.{checked_expr, checked_head, checked_stmt, checked_block}
use Rattle.ts_checker.specs.Seen.{scope_names}
use Rattle.ts_checker.proofs.LoopLemmas.{stmts_next, stmts_refused, stmts_end}
use Rattle.ts_checker.proofs.RefusalLemmas.{refused_part, refused_by, if_test_refused, if_body_refused}
use Rattle.ts_checker.proofs.PassedLemmas.{while_passes, for_passes}
use Rattle.ts_checker.proofs.stmts.+block.Goals as goal

pub block-loop-stmt-preserved : goal.block-loop-stmt-preserved
block-loop-stmt-preserved t c =
    c.loop-stmt.invariant ∙ stmts_next (scope_names c.args.scope.now) c.as_slice-stmt-items.result.now c.loop-stmt.stmt-index c.stmt-item.result
    (block_trees c.loop-stmt.checked) (block_trees c.push.new.self) (stmt_tree c.in_ok-statement.field-0)
    c.loop-stmt-test.true c.stmt-item.is c.in_ok-statement.ensures c.in_ok-push.ensures.pushed

pub block-returns-in_err-statement : goal.block-returns-in_err-statement
block-returns-in_err-statement t c =
    let n = scope_names c.args.scope.now in
    refused_part block_tree c.in_err-statement.field-0.0 c.from_residual-in_err-statement.result (checked_stmt n (act_of c.stmt-item.result)) (checked_block n (acts_of c.args.stmts.now))
    (λ f refused. ap (λ ss. checked_block n (acts_of ss)) (sym c.as_slice-stmt-items.ensures)
    ∙ c.loop-stmt.invariant ∙ stmts_refused n c.as_slice-stmt-items.result.now c.loop-stmt.stmt-index c.stmt-item.result
    (block_trees c.loop-stmt.checked) f c.loop-stmt-test.true c.stmt-item.is refused)
    c.from_residual-in_err-statement.ensures.1 c.in_err-statement.ensures

pub block-returns : goal.block-returns
block-returns t c =
    ap (λ ss. checked_block (scope_names c.args.scope.now) (acts_of ss)) (sym c.as_slice-stmt-items.ensures)
    ∙ c.loop-stmt.invariant ∙ stmts_end (scope_names c.args.scope.now) c.as_slice-stmt-items.result.now c.loop-stmt.stmt-index (block_trees c.loop-stmt.checked) c.loop-stmt-test.false

-- an answer for one statement is that for the act that it is
gives_for : (n : ScriptNames) (result : Result CStmt CheckFault) {a b : Act} → a ≡ b → GivesChecked stmt_tree result (checked_stmt n b) → GivesChecked stmt_tree result (checked_stmt n a)
gives_for n result is h = subst (λ x. GivesChecked stmt_tree result (checked_stmt n x)) (sym is) h

pub statement-returns-in-Set : goal.statement-returns-in-Set
statement-returns-in-Set t c =
    gives_for (scope_names c.args.scope.now) c.set_variable.result (ap act_of c.in-Set.is ∙ act_set c.in-Set.word c.in-Set.value) c.set_variable.ensures

pub statement-returns-in-SetItem : goal.statement-returns-in-SetItem
statement-returns-in-SetItem t c =
    gives_for (scope_names c.args.scope.now) c.set_item.result (ap act_of c.in-SetItem.is ∙ act_set_item c.in-SetItem.word c.in-SetItem.index c.in-SetItem.value) c.set_item.ensures

pub statement-returns-in-Append : goal.statement-returns-in-Append
statement-returns-in-Append t c =
    gives_for (scope_names c.args.scope.now) c.append.result (ap act_of c.in-Append.is ∙ act_append c.in-Append.word c.in-Append.value) c.append.ensures

pub statement-returns-in-Take : goal.statement-returns-in-Take
statement-returns-in-Take t c =
    gives_for (scope_names c.args.scope.now) c.take_last.result (ap act_of c.in-Take.is ∙ act_take_last c.in-Take.word c.in-Take.from) c.take_last.ensures

pub statement-returns-in-Clear : goal.statement-returns-in-Clear
statement-returns-in-Clear t c =
    gives_for (scope_names c.args.scope.now) c.clear.result (ap act_of c.in-Clear.is ∙ act_clear c.in-Clear.word) c.clear.ensures

pub statement-returns-in-Do : goal.statement-returns-in-Do
statement-returns-in-Do t c =
    gives_for (scope_names c.args.scope.now) c.call_alone.result (ap act_of c.in-Do.is ∙ act_call_alone c.in-Do.word c.in-Do.args) c.call_alone.ensures

pub statement-returns-in-For : goal.statement-returns-in-For
statement-returns-in-For t c =
    gives_for (scope_names c.args.scope.now) c.for_next.result (ap act_of c.in-For.is ∙ act_for_next c.in-For.head c.in-For.body c.in-For.next) c.for_next.ensures

pub statement-returns-in-While : goal.statement-returns-in-While
statement-returns-in-While t c =
    gives_for (scope_names c.args.scope.now) c.while_do.result (ap act_of c.in-While.is ∙ act_while_do c.in-While.test c.in-While.body) c.while_do.ensures

pub statement-returns-in_err-test-in-If : goal.statement-returns-in_err-test-in-If
statement-returns-in_err-test-in-If t c =
    let n = scope_names c.args.scope.now in
    refused_part stmt_tree c.in_err-test-in-If.field-0.0 c.from_residual.result (checked_expr n true (tree_of c.in-If.test)) (checked_stmt n (act_of c.args.stmt.now))
    (if_test_refused n c.in-If.test c.in-If.body c.in-If.other c.in-If.is) c.from_residual.ensures.1 c.in_err-test-in-If.ensures

pub statement-returns-in_err-body-in-If : goal.statement-returns-in_err-body-in-If
statement-returns-in_err-body-in-If t c =
    let n = scope_names c.args.scope.now in
    refused_part stmt_tree c.in_err-body-in-If.field-0.0 c.from_residual-in_err-body-in-If.result (checked_block n (acts_of c.in-If.body)) (checked_stmt n (act_of c.args.stmt.now))
    (if_body_refused n c.in-If.test c.in-If.body c.in-If.other _ c.in-If.is c.in_ok-test-in-If.ensures) c.from_residual-in_err-body-in-If.ensures.1 c.in_err-body-in-If.ensures

pub for_next-returns-in_err-checked : goal.for_next-returns-in_err-checked
for_next-returns-in_err-checked t c =
    let n = scope_names c.args.scope.now in
    let h = c.args.head.now in
    refused_part stmt_tree c.in_err-checked.field-0.0 c.from_residual.result (checked_head n h.var (tree_of h.from) (tree_of h.to) h.step)
    (checked_stmt n (given.for_next h.var (tree_of h.from) (tree_of h.to) h.step (acts_of c.args.body.now) c.args.next.now))
    (λ f refused. rw refused refl) c.from_residual.ensures.1 c.in_err-checked.ensures

pub for_next-returns-in_err-body : goal.for_next-returns-in_err-body
for_next-returns-in_err-body t c =
    let n = scope_names c.args.scope.now in
    let h = c.args.head.now in
    refused_part stmt_tree c.in_err-body.field-0.0 c.from_residual-in_err-body.result (checked_block n (acts_of c.args.body.now))
    (checked_stmt n (given.for_next h.var (tree_of h.from) (tree_of h.to) h.step (acts_of c.args.body.now) c.args.next.now))
    (λ f refused. rw (c.in_ok-checked.ensures, refused) refl) c.from_residual-in_err-body.ensures.1 c.in_err-body.ensures

pub while_do-returns-in_err-test : goal.while_do-returns-in_err-test
while_do-returns-in_err-test t c =
    let n = scope_names c.args.scope.now in
    refused_part stmt_tree c.in_err-test.field-0.0 c.from_residual.result (checked_expr n true (tree_of c.args.test.now))
    (checked_stmt n (given.while_do (tree_of c.args.test.now) (acts_of c.args.body.now)))
    (λ f refused. rw refused refl) c.from_residual.ensures.1 c.in_err-test.ensures

pub while_do-returns-in_err-block : goal.while_do-returns-in_err-block
while_do-returns-in_err-block t c =
    let n = scope_names c.args.scope.now in
    refused_part stmt_tree c.in_err-block.field-0.0 c.from_residual-in_err-block.result (checked_block n (acts_of c.args.body.now))
    (checked_stmt n (given.while_do (tree_of c.args.test.now) (acts_of c.args.body.now)))
    (λ f refused. rw (c.in_ok-test.ensures, refused) refl) c.from_residual-in_err-block.ensures.1 c.in_err-block.ensures

pub for_next-returns-in_err-closes : goal.for_next-returns-in_err-closes
for_next-returns-in_err-closes t c =
    let h = c.args.head.now in
    refused_by stmt_tree c.in_err-closes.field-0.0 c.from_residual-in_err-closes.result
    (checked_stmt (scope_names c.args.scope.now) (given.for_next h.var (tree_of h.from) (tree_of h.to) h.step (acts_of c.args.body.now) c.args.next.now))
    (rw (c.in_ok-checked.ensures, c.in_ok-body.ensures, sym c.closes.ensures ∙ c.in_err-closes.was) refl) c.from_residual-in_err-closes.ensures.1

pub statement-returns-in-Run : goal.statement-returns-in-Run
statement-returns-in-Run t c =
    let P : CheckFault → Type 0 = λ f. RefusesScript f (checked_stmt (scope_names c.args.scope.now) (act_of c.args.stmt.now)) in
    subst P (sym c.no_procedure.ensures) (ap (checked_stmt (scope_names c.args.scope.now)) (ap act_of c.in-Run.is ∙ act_run_procedure c.in-Run.word c.in-Run.field-1))

-- ---- where all parts pass

pub for_next-returns : goal.for_next-returns
for_next-returns t c =
    let h = c.args.head.now in
    for_passes (scope_names c.args.scope.now) h.var (tree_of h.from) (tree_of h.to) h.step (acts_of c.args.body.now) c.args.next.now c.in_ok-checked.checked c.in_ok-body.body
    c.in_ok-checked.ensures c.in_ok-body.ensures (sym c.closes.ensures ∙ c.in_ok-closes.was)

pub while_do-returns : goal.while_do-returns
while_do-returns t c =
    while_passes (scope_names c.args.scope.now) (tree_of c.args.test.now) (acts_of c.args.body.now) c.in_ok-test.test c.in_ok-block.field-0 c.in_ok-test.ensures c.in_ok-block.ensures
