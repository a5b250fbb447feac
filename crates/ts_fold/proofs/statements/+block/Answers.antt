use Rattle.std.proofs.Common.{rules, ◌≡◌, ◌∙◌, ◌∷◌, [], ◌++◌, List, Some, true, false, map, refl, ap, sym, subst}
use Rattle.std.specs.Prelude.{OnOk}
use Rattle.std.proofs.lemmas.Result.{err_from_is_err_and}
use Rattle.ts_checked.specs.Expression.{Expression, arguments}
use Rattle.ts_checked.specs.Statement.{Statement, Block, block, Set, SetItem, Append, Take, Clear, Do, DoSend, IfElse, For, While}
use Rattle.ts_checked.specs.Statement as tree
use Rattle.ts_checked.specs.TreeOf.{expr_tree, args_trees, stmt_step, block_step, stmt_tree, block_trees, block_tree}
use Rattle.ts_checked.specs.declared.checked_expr.CExpr.{CExpr}
use Rattle.ts_checked.specs.declared.checked_stmt.CBlock.{CBlock}
use Rattle.ts_checked.specs.declared.checked_stmt.CStmt.{the_lemmas}
use Rattle.ts_checked.specs.declared.checked_stmt.CStmt.TheVariants as stmt
use Rattle.ts_checked.specs.declared.checked_stmt.CStmt.TheFolds.{fold-roll-CStmt}
use Rattle.ts_checked.specs.declared.checked_stmt.CStmt.TheOpen.{CStmt-F}
use Rattle.ts_checked.specs.declared.checked_stmt.CVar.{CVar}
use Rattle.mate_num.specs.declared.id.BufId.{BufId}
use Rattle.mate_num.specs.declared.id.FunId.{FunId}
use Rattle.ts_checked.proofs.BlockLemmas.{block_seen}
use Rattle.ts_fold.specs.Folded.{folded_stmt, folded_stmts}
use Rattle.ts_fold.proofs.LoopLemmas.{stmts_next, stmts_end, decides, if_true, if_false, if_stays, if_else_stays, while_false, for_stays, stays, on_ok}
use Rattle.ts_fold.proofs.statements.+block.Goals as goal

pub statements-loop-stmt-preserved : goal.statements-loop-stmt-preserved
statements-loop-stmt-preserved t c =
    c.loop-stmt.invariant ∙ stmts_next c.as_slice-stmt-items.result.now c.loop-stmt.stmt-index c.stmt-item.result
    (block_trees c.loop-stmt.into) (block_trees c.statement.new.into)
    c.loop-stmt-test.true c.stmt-item.is c.in_ok-statement.ensures

pub statements-returns : goal.statements-returns
statements-returns t c =
    sym (ap (λ (ss : List Statement). block_trees c.args.into.now ++ folded_stmts (block ss)) (block_seen c.args.body.now ∙ ap (map stmt_tree) (sym c.as_slice-stmt-items.ensures.value)) ∙ c.loop-stmt.invariant
    ∙ stmts_end c.as_slice-stmt-items.result.now c.loop-stmt.stmt-index (block_trees c.loop-stmt.into) c.loop-stmt-test.false)

-- the tree of an `if` with its `else`
made : (e : CExpr) (a b : CBlock) → stmt_tree (stmt.If e a (Some b)) ≡ IfElse (expr_tree e) (block_tree a) (block_tree b)
made e a b =
    ap stmt_tree (sym (stmt.rolls-If e a (Some b))) ∙ fold-roll-CStmt Statement (List Statement) stmt_step block_step (CStmt-F.If e a (Some b))

pub statement-returns-in-If-default-default-Some : goal.statement-returns-in-If-default-default-Some
statement-returns-in-If-default-default-Some t c =
    let e : Expression = expr_tree c.in-If-default-default-Some.test in
    let a : Block = block_tree c.in-If-default-default-Some.body in
    let b : Block = block_tree c.in-If-default-default-Some.other in
    let seen : stmt_tree c.args.stmt.now ≡ IfElse e a b = search (rules, the_lemmas) in
    let old : List Statement = block_trees c.args.into.now in
    let new : List Statement = block_trees c.push-in-None.new.self in
    let test : CExpr = c.in_ok-test-in-If-default-default-Some.test in
    let body : CBlock = c.in_ok-body-in-None.body in
    let other : CBlock = c.in_ok-other-in-None.other in
    let folded_other : block_trees other ≡ folded_stmts b =
    first_of (cc (c.in-If-default-default-Some.other-is, c.in_ok-other-in-None.ensures), search (rules, the_lemmas)) in
    on_ok c.push-in-None.result (new ≡ old ++ stmt_tree (stmt.If test body (Some other)) ∷ []) (new ≡ old ++ folded_stmt (stmt_tree c.args.stmt.now))
    (λ pushed. if_else_stays e (expr_tree test) a b (block_trees body) (block_trees other) old new
    c.in_ok-test-in-If-default-default-Some.ensures c.in_ok-body-in-None.ensures folded_other
    (sym c.in-None.ensures) (pushed ∙ ap (λ (x : Statement). old ++ x ∷ []) (made test body other))
    ∙ ap (λ (x : Statement). old ++ folded_stmt x) (sym seen))
    c.push-in-None.ensures.pushed

-- ---- a statement that a function of its own folds

pub statement-returns-in-Set : goal.statement-returns-in-Set
statement-returns-in-Set t c =
    let seen : stmt_tree c.args.stmt.now ≡ Set c.in-Set.variable (expr_tree c.in-Set.value) =
    ap stmt_tree (c.in-Set.is ∙ sym (stmt.rolls-Set c.in-Set.variable c.in-Set.value)) ∙ fold-roll-CStmt Statement (List Statement) stmt_step block_step (CStmt-F.Set c.in-Set.variable c.in-Set.value) in
    let P : Statement → Type 0 = λ x. OnOk c.set_variable.result (block_trees c.set_variable.new.into ≡ block_trees c.args.into.now ++ folded_stmt x) in
    subst P (sym seen) c.set_variable.ensures

pub statement-returns-in-SetItem : goal.statement-returns-in-SetItem
statement-returns-in-SetItem t c =
    let seen : stmt_tree c.args.stmt.now ≡ SetItem c.in-SetItem.buffer (expr_tree c.in-SetItem.index) (expr_tree c.in-SetItem.value) =
    ap stmt_tree (c.in-SetItem.is ∙ sym (stmt.rolls-SetItem c.in-SetItem.buffer c.in-SetItem.index c.in-SetItem.value)) ∙ fold-roll-CStmt Statement (List Statement) stmt_step block_step (CStmt-F.SetItem c.in-SetItem.buffer c.in-SetItem.index c.in-SetItem.value) in
    let P : Statement → Type 0 = λ x. OnOk c.set_item.result (block_trees c.set_item.new.into ≡ block_trees c.args.into.now ++ folded_stmt x) in
    subst P (sym seen) c.set_item.ensures

pub statement-returns-in-Append : goal.statement-returns-in-Append
statement-returns-in-Append t c =
    let seen : stmt_tree c.args.stmt.now ≡ Append c.in-Append.buffer (expr_tree c.in-Append.value) =
    ap stmt_tree (c.in-Append.is ∙ sym (stmt.rolls-Append c.in-Append.buffer c.in-Append.value)) ∙ fold-roll-CStmt Statement (List Statement) stmt_step block_step (CStmt-F.Append c.in-Append.buffer c.in-Append.value) in
    let P : Statement → Type 0 = λ x. OnOk c.append.result (block_trees c.append.new.into ≡ block_trees c.args.into.now ++ folded_stmt x) in
    subst P (sym seen) c.append.ensures

pub statement-returns-in-Do : goal.statement-returns-in-Do
statement-returns-in-Do t c =
    let seen : stmt_tree c.args.stmt.now ≡ Do c.in-Do.fun (arguments (args_trees c.in-Do.args)) =
    ap stmt_tree (c.in-Do.is ∙ sym (stmt.rolls-Do c.in-Do.fun c.in-Do.args)) ∙ fold-roll-CStmt Statement (List Statement) stmt_step block_step (CStmt-F.Do c.in-Do.fun c.in-Do.args) in
    let P : Statement → Type 0 = λ x. OnOk c.call_alone.result (block_trees c.call_alone.new.into ≡ block_trees c.args.into.now ++ folded_stmt x) in
    subst P (sym seen) c.call_alone.ensures

pub statement-returns-in-If-default-default-None : goal.statement-returns-in-If-default-default-None
statement-returns-in-If-default-default-None t c =
    let seen : stmt_tree c.args.stmt.now ≡ tree.If (expr_tree c.in-If-default-default-None.test) (block_tree c.in-If-default-default-None.body) = search (rules, the_lemmas) in
    let P : Statement → Type 0 = λ x. OnOk c.if_then.result (block_trees c.if_then.new.into ≡ block_trees c.args.into.now ++ folded_stmt x) in
    subst P (sym seen) c.if_then.ensures

pub statement-returns-in-For : goal.statement-returns-in-For
statement-returns-in-For t c =
    let seen : stmt_tree c.args.stmt.now ≡ For c.in-For.head.var (expr_tree c.in-For.head.from) (expr_tree c.in-For.head.to) c.in-For.head.step (block_tree c.in-For.body) =
    ap stmt_tree (c.in-For.is ∙ sym (stmt.rolls-For c.in-For.head c.in-For.body)) ∙ fold-roll-CStmt Statement (List Statement) stmt_step block_step (CStmt-F.For c.in-For.head c.in-For.body) in
    let P : Statement → Type 0 = λ x. OnOk c.for_next.result (block_trees c.for_next.new.into ≡ block_trees c.args.into.now ++ folded_stmt x) in
    subst P (sym seen) c.for_next.ensures

pub statement-returns : goal.statement-returns
statement-returns t c =
    let seen : stmt_tree c.args.stmt.now ≡ While (expr_tree c.in-While.test) (block_tree c.in-While.body) =
    ap stmt_tree (c.in-While.is ∙ sym (stmt.rolls-While c.in-While.test c.in-While.body)) ∙ fold-roll-CStmt Statement (List Statement) stmt_step block_step (CStmt-F.While c.in-While.test c.in-While.body) in
    let P : Statement → Type 0 = λ x. OnOk c.while_do.result (block_trees c.while_do.new.into ≡ block_trees c.args.into.now ++ folded_stmt x) in
    subst P (sym seen) c.while_do.ensures

-- ---- a statement with no part to fold

pub statement-returns-in-Take : goal.statement-returns-in-Take
statement-returns-in-Take t c =
    let x : CVar = c.in-Take.variable in
    let p : BufId = c.in-Take.buffer in
    stays c.push.result (block_trees c.args.into.now) (block_trees c.push.new.self) c.args.stmt.now (stmt.Take x p) (Take x p)
    (ap stmt_tree (sym (stmt.rolls-Take x p)) ∙ fold-roll-CStmt Statement (List Statement) stmt_step block_step (CStmt-F.Take x p)) c.in-Take.is refl c.push.ensures.pushed

pub statement-returns-in-Clear : goal.statement-returns-in-Clear
statement-returns-in-Clear t c =
    let p : BufId = c.in-Clear.buffer in
    stays c.push-in-Clear.result (block_trees c.args.into.now) (block_trees c.push-in-Clear.new.self) c.args.stmt.now (stmt.Clear p) (Clear p)
    (ap stmt_tree (sym (stmt.rolls-Clear p)) ∙ fold-roll-CStmt Statement (List Statement) stmt_step block_step (CStmt-F.Clear p)) c.in-Clear.is refl c.push-in-Clear.ensures.pushed

pub statement-returns-in-SendBuf : goal.statement-returns-in-SendBuf
statement-returns-in-SendBuf t c =
    let f : FunId = c.in-SendBuf.fun in
    let p : BufId = c.in-SendBuf.buffer in
    stays c.push-in-SendBuf.result (block_trees c.args.into.now) (block_trees c.push-in-SendBuf.new.self) c.args.stmt.now (stmt.SendBuf f p) (DoSend f p)
    (ap stmt_tree (sym (stmt.rolls-SendBuf f p)) ∙ fold-roll-CStmt Statement (List Statement) stmt_step block_step (CStmt-F.SendBuf f p)) c.in-SendBuf.is refl c.push-in-SendBuf.ensures.pushed

-- ---- an `if` and a `while` whose tests are decided or stay, and a `for`

pub if_then-returns-in-Some-true : goal.if_then-returns-in-Some-true
if_then-returns-in-Some-true t c =
    if_true c.statements.result (block_trees c.args.into.now) (block_trees c.statements.new.into) (expr_tree c.args.test.now) (block_tree c.args.body.now)
    (decides (expr_tree c.args.test.now) (expr_tree c.in_ok-test.test) c.decision.result c.in-Some-true.field-0 true c.in_ok-test.ensures c.decision.ensures c.in-Some-true.is c.in-Some-true.field-0-test) c.statements.ensures

pub if_then-returns-in-Some-false : goal.if_then-returns-in-Some-false
if_then-returns-in-Some-false t c =
    if_false (block_trees c.args.into.now) (expr_tree c.args.test.now) (block_tree c.args.body.now)
    (decides (expr_tree c.args.test.now) (expr_tree c.in_ok-test.test) c.decision.result c.in-Some-false.field-0 false c.in_ok-test.ensures c.decision.ensures c.in-Some-false.is c.in-Some-false.field-0-test)

pub if_then-returns : goal.if_then-returns
if_then-returns t c =
    if_stays c.push.result (block_trees c.args.into.now) (block_trees c.push.new.self) (expr_tree c.args.test.now) (block_tree c.args.body.now)
    c.in_ok-test.test c.in_ok-block-in-None.field-0 c.in_ok-test.ensures c.in_ok-block-in-None.ensures (sym c.in-None.ensures) c.push.ensures.pushed

pub while_do-returns-in-Some-false : goal.while_do-returns-in-Some-false
while_do-returns-in-Some-false t c =
    while_false (block_trees c.args.into.now) (expr_tree c.args.test.now) (block_tree c.args.body.now)
    (decides (expr_tree c.args.test.now) (expr_tree c.in_ok-test.test) c.decision.result c.in-Some-false.field-0 false c.in_ok-test.ensures c.decision.ensures c.in-Some-false.is c.in-Some-false.field-0-test)

pub for_next-returns : goal.for_next-returns
for_next-returns t c =
    for_stays c.push.result (block_trees c.args.into.now) (block_trees c.push.new.self) c.args.head.now (block_tree c.args.body.now) c.in_ok-head.head c.in_ok-block.field-0
    c.in_ok-head.ensures.var c.in_ok-head.ensures.from c.in_ok-head.ensures.to c.in_ok-head.ensures.step c.in_ok-block.ensures c.push.ensures.pushed

-- ---- where memory is refused

pub block-returns-in_err-folded : goal.block-returns-in_err-folded
block-returns-in_err-folded t c = let p = err_from_is_err_and c.from_residual.result c.from_residual.ensures.1 in rw p.1 tt

pub block-returns-in_err-statements : goal.block-returns-in_err-statements
block-returns-in_err-statements t c = let p = err_from_is_err_and c.from_residual-in_err-statements.result c.from_residual-in_err-statements.ensures.1 in rw p.1 tt

pub statements-returns-in_err-statement : goal.statements-returns-in_err-statement
statements-returns-in_err-statement t c = let p = err_from_is_err_and c.from_residual.result c.from_residual.ensures.1 in rw p.1 tt

pub if_then-returns-in_err-test : goal.if_then-returns-in_err-test
if_then-returns-in_err-test t c = let p = err_from_is_err_and c.from_residual.result c.from_residual.ensures.1 in rw p.1 tt

pub if_then-returns-in_err-block-in-None : goal.if_then-returns-in_err-block-in-None
if_then-returns-in_err-block-in-None t c = let p = err_from_is_err_and c.from_residual-in_err-block-in-None.result c.from_residual-in_err-block-in-None.ensures.1 in rw p.1 tt

pub for_next-returns-in_err-head : goal.for_next-returns-in_err-head
for_next-returns-in_err-head t c = let p = err_from_is_err_and c.from_residual.result c.from_residual.ensures.1 in rw p.1 tt

pub for_next-returns-in_err-block : goal.for_next-returns-in_err-block
for_next-returns-in_err-block t c = let p = err_from_is_err_and c.from_residual-in_err-block.result c.from_residual-in_err-block.ensures.1 in rw p.1 tt

pub while_do-returns-in_err-test : goal.while_do-returns-in_err-test
while_do-returns-in_err-test t c = let p = err_from_is_err_and c.from_residual.result c.from_residual.ensures.1 in rw p.1 tt

pub while_do-returns-in_err-block-in-Some-true : goal.while_do-returns-in_err-block-in-Some-true
while_do-returns-in_err-block-in-Some-true t c = let p = err_from_is_err_and c.from_residual-in_err-block-in-Some-true.result c.from_residual-in_err-block-in-Some-true.ensures.1 in rw p.1 tt

pub statement-returns-in_err-test-in-If-default-default-Some : goal.statement-returns-in_err-test-in-If-default-default-Some
statement-returns-in_err-test-in-If-default-default-Some t c = let p = err_from_is_err_and c.from_residual.result c.from_residual.ensures.1 in rw p.1 tt

pub statement-returns-in_err-body-in-None : goal.statement-returns-in_err-body-in-None
statement-returns-in_err-body-in-None t c = let p = err_from_is_err_and c.from_residual-in_err-body-in-None.result c.from_residual-in_err-body-in-None.ensures.1 in rw p.1 tt

pub statement-returns-in_err-other-in-None : goal.statement-returns-in_err-other-in-None
statement-returns-in_err-other-in-None t c = let p = err_from_is_err_and c.from_residual-in_err-other-in-None.result c.from_residual-in_err-other-in-None.ensures.1 in rw p.1 tt
