use Rattle.std.proofs.Common.{◌∙◌, List, ℕ, ap, sym, take, drop, ◌+◌, refl}
use Rattle.ts_trees.specs.declared.stmt.Stmt.{Stmt}
use Rattle.ts_trees.specs.Seen.{tree_of, trees_of, act_of, acts_of}
use Rattle.ts_trees.proofs.SeenLemmas.{act_set, act_set_item, act_append, act_take_last, act_clear, act_call_alone, act_for_next, act_while_do, act_run_procedure}
use Rattle.ts_proc_names.specs.Heads.{heads_of}
use Rattle.ts_proc_names.specs.NameFaults.{◌<|>◌, word_fault, expr_fault, args_fault, act_fault, acts_fault}
use Rattle.ts_proc_names.proofs.PartLemmas.{refused_first, passed_first, passed_as, act_passes, args_pass, acts_from, acts_next, acts_end}
use Rattle.ts_proc_names.proofs.calls.+block.Goals as goal

pub block-loop-stmt-init : goal.block-loop-stmt-init
block-loop-stmt-init t c = refl

pub block-returns-in_err-statement : goal.block-returns-in_err-statement
block-returns-in_err-statement t c =
    let known : List (List ℕ × ℕ) = take c.args.count (heads_of c.args.heads.now.procs.now) in
    let stmts : List Stmt = c.as_slice-stmt-items.result.now in
    let i : ℕ = c.loop-stmt.stmt-index in
    passed_as c.from_residual.result (acts_fault known (acts_of c.args.stmts.now)) (act_fault known (act_of c.stmt-item.result) <|> acts_fault known (acts_of (drop (i + 1) stmts)))
    (ap (λ (ss : List Stmt). acts_fault known (acts_of ss)) (sym c.as_slice-stmt-items.ensures)
    ∙ c.loop-stmt.invariant ∙ acts_from known stmts i c.stmt-item.result c.loop-stmt-test.true c.stmt-item.is)
    (refused_first c.in_err-statement.field-0.0 c.from_residual.result (act_fault known (act_of c.stmt-item.result)) (acts_fault known (acts_of (drop (i + 1) stmts)))
    c.from_residual.ensures.1 c.in_err-statement.ensures)

pub block-loop-stmt-preserved : goal.block-loop-stmt-preserved
block-loop-stmt-preserved t c =
    c.loop-stmt.invariant ∙ acts_next (take c.args.count (heads_of c.args.heads.now.procs.now)) c.as_slice-stmt-items.result.now c.loop-stmt.stmt-index c.stmt-item.result
    c.loop-stmt-test.true c.stmt-item.is c.in_ok-statement.ensures

pub block-returns : goal.block-returns
block-returns t c =
    sym (ap (λ (ss : List Stmt). acts_fault (take c.args.count (heads_of c.args.heads.now.procs.now)) (acts_of ss)) (sym c.as_slice-stmt-items.ensures)
    ∙ c.loop-stmt.invariant ∙ acts_end (take c.args.count (heads_of c.args.heads.now.procs.now)) c.as_slice-stmt-items.result.now c.loop-stmt.stmt-index c.loop-stmt-test.false)

pub statement-returns-in_err-word-in-Set : goal.statement-returns-in_err-word-in-Set
statement-returns-in_err-word-in-Set t c =
    let known : List (List ℕ × ℕ) = take c.args.count (heads_of c.args.heads.now.procs.now) in
    let s = c.in-Set in
    let r = c.from_residual in
    let e = c.in_err-word-in-Set in
    act_passes known r.result (ap act_of s.is ∙ act_set s.name s.value)
    (refused_first e.field-0.0 r.result (word_fault s.name) (expr_fault (tree_of s.value)) r.ensures.1 e.ensures)

pub statement-returns-in_ok-word-in-Set : goal.statement-returns-in_ok-word-in-Set
statement-returns-in_ok-word-in-Set t c =
    let known : List (List ℕ × ℕ) = take c.args.count (heads_of c.args.heads.now.procs.now) in
    let s = c.in-Set in
    let r = c.expression in
    act_passes known r.result (ap act_of s.is ∙ act_set s.name s.value)
    (passed_first r.result (word_fault s.name) (expr_fault (tree_of s.value)) c.in_ok-word-in-Set.ensures
    r.ensures)

pub statement-returns-in_err-word-in-SetItem : goal.statement-returns-in_err-word-in-SetItem
statement-returns-in_err-word-in-SetItem t c =
    let known : List (List ℕ × ℕ) = take c.args.count (heads_of c.args.heads.now.procs.now) in
    let s = c.in-SetItem in
    let r = c.from_residual-in_err-word-in-SetItem in
    let e = c.in_err-word-in-SetItem in
    let rest = expr_fault (tree_of s.index) <|> expr_fault (tree_of s.value) in
    act_passes known r.result (ap act_of s.is ∙ act_set_item s.name s.index s.value)
    (refused_first e.field-0.0 r.result (word_fault s.name) rest r.ensures.1 e.ensures)

pub statement-returns-in_err-expression-in-SetItem : goal.statement-returns-in_err-expression-in-SetItem
statement-returns-in_err-expression-in-SetItem t c =
    let known : List (List ℕ × ℕ) = take c.args.count (heads_of c.args.heads.now.procs.now) in
    let s = c.in-SetItem in
    let r = c.from_residual-in_err-expression-in-SetItem in
    let e = c.in_err-expression-in-SetItem in
    let rest = expr_fault (tree_of s.index) <|> expr_fault (tree_of s.value) in
    act_passes known r.result (ap act_of s.is ∙ act_set_item s.name s.index s.value)
    (passed_first r.result (word_fault s.name) rest c.in_ok-word-in-SetItem.ensures
    (refused_first e.field-0.0 r.result (expr_fault (tree_of s.index)) (expr_fault (tree_of s.value)) r.ensures.1 e.ensures))

pub statement-returns-in_ok-expression-in-SetItem : goal.statement-returns-in_ok-expression-in-SetItem
statement-returns-in_ok-expression-in-SetItem t c =
    let known : List (List ℕ × ℕ) = take c.args.count (heads_of c.args.heads.now.procs.now) in
    let s = c.in-SetItem in
    let r = c.expression-in-SetItem-2 in
    let rest = expr_fault (tree_of s.index) <|> expr_fault (tree_of s.value) in
    act_passes known r.result (ap act_of s.is ∙ act_set_item s.name s.index s.value)
    (passed_first r.result (word_fault s.name) rest c.in_ok-word-in-SetItem.ensures
    (passed_first r.result (expr_fault (tree_of s.index)) (expr_fault (tree_of s.value)) c.in_ok-expression-in-SetItem.ensures
    r.ensures))

pub statement-returns-in_err-word-in-Append : goal.statement-returns-in_err-word-in-Append
statement-returns-in_err-word-in-Append t c =
    let known : List (List ℕ × ℕ) = take c.args.count (heads_of c.args.heads.now.procs.now) in
    let s = c.in-Append in
    let r = c.from_residual-in_err-word-in-Append in
    let e = c.in_err-word-in-Append in
    act_passes known r.result (ap act_of s.is ∙ act_append s.name s.value)
    (refused_first e.field-0.0 r.result (word_fault s.name) (expr_fault (tree_of s.value)) r.ensures.1 e.ensures)

pub statement-returns-in_ok-word-in-Append : goal.statement-returns-in_ok-word-in-Append
statement-returns-in_ok-word-in-Append t c =
    let known : List (List ℕ × ℕ) = take c.args.count (heads_of c.args.heads.now.procs.now) in
    let s = c.in-Append in
    let r = c.expression-in-Append in
    act_passes known r.result (ap act_of s.is ∙ act_append s.name s.value)
    (passed_first r.result (word_fault s.name) (expr_fault (tree_of s.value)) c.in_ok-word-in-Append.ensures
    r.ensures)

pub statement-returns-in_err-word-in-Take : goal.statement-returns-in_err-word-in-Take
statement-returns-in_err-word-in-Take t c =
    let known : List (List ℕ × ℕ) = take c.args.count (heads_of c.args.heads.now.procs.now) in
    let s = c.in-Take in
    let r = c.from_residual-in_err-word-in-Take in
    let e = c.in_err-word-in-Take in
    act_passes known r.result (ap act_of s.is ∙ act_take_last s.name s.from)
    (refused_first e.field-0.0 r.result (word_fault s.name) (word_fault s.from) r.ensures.1 e.ensures)

pub statement-returns-in_ok-word-in-Take : goal.statement-returns-in_ok-word-in-Take
statement-returns-in_ok-word-in-Take t c =
    let known : List (List ℕ × ℕ) = take c.args.count (heads_of c.args.heads.now.procs.now) in
    let s = c.in-Take in
    let r = c.word-in-Take-2 in
    act_passes known r.result (ap act_of s.is ∙ act_take_last s.name s.from)
    (passed_first r.result (word_fault s.name) (word_fault s.from) c.in_ok-word-in-Take.ensures
    r.ensures)

pub statement-returns-in-Clear : goal.statement-returns-in-Clear
statement-returns-in-Clear t c =
    let known : List (List ℕ × ℕ) = take c.args.count (heads_of c.args.heads.now.procs.now) in
    let s = c.in-Clear in
    let r = c.word-in-Clear in
    act_passes known r.result (ap act_of s.is ∙ act_clear s.name)
    r.ensures

pub statement-returns-in_err-word-in-Do : goal.statement-returns-in_err-word-in-Do
statement-returns-in_err-word-in-Do t c =
    let known : List (List ℕ × ℕ) = take c.args.count (heads_of c.args.heads.now.procs.now) in
    let s = c.in-Do in
    let r = c.from_residual-in_err-word-in-Do in
    let e = c.in_err-word-in-Do in
    act_passes known r.result (ap act_of s.is ∙ act_call_alone s.name s.args)
    (refused_first e.field-0.0 r.result (word_fault s.name) (args_fault (trees_of s.args)) r.ensures.1 e.ensures)

pub statement-returns-in_ok-word-in-Do : goal.statement-returns-in_ok-word-in-Do
statement-returns-in_ok-word-in-Do t c =
    let known : List (List ℕ × ℕ) = take c.args.count (heads_of c.args.heads.now.procs.now) in
    let s = c.in-Do in
    let r = c.arguments in
    act_passes known r.result (ap act_of s.is ∙ act_call_alone s.name s.args)
    (passed_first r.result (word_fault s.name) (args_fault (trees_of s.args)) c.in_ok-word-in-Do.ensures
    (args_pass r.result c.as_slice.ensures r.ensures))

pub statement-returns-in_err-word-in-For : goal.statement-returns-in_err-word-in-For
statement-returns-in_err-word-in-For t c =
    let known : List (List ℕ × ℕ) = take c.args.count (heads_of c.args.heads.now.procs.now) in
    let s = c.in-For in
    let r = c.from_residual-in_err-word-in-For in
    let e = c.in_err-word-in-For in
    let body = acts_fault known (acts_of s.body) <|> word_fault s.next in
    let to = expr_fault (tree_of s.head.to) <|> body in
    let from = expr_fault (tree_of s.head.from) <|> to in
    act_passes known r.result (ap act_of s.is ∙ act_for_next s.head s.body s.next)
    (refused_first e.field-0.0 r.result (word_fault s.head.var) from r.ensures.1 e.ensures)

pub statement-returns-in_err-expression-in-For : goal.statement-returns-in_err-expression-in-For
statement-returns-in_err-expression-in-For t c =
    let known : List (List ℕ × ℕ) = take c.args.count (heads_of c.args.heads.now.procs.now) in
    let s = c.in-For in
    let r = c.from_residual-in_err-expression-in-For in
    let e = c.in_err-expression-in-For in
    let body = acts_fault known (acts_of s.body) <|> word_fault s.next in
    let to = expr_fault (tree_of s.head.to) <|> body in
    let from = expr_fault (tree_of s.head.from) <|> to in
    act_passes known r.result (ap act_of s.is ∙ act_for_next s.head s.body s.next)
    (passed_first r.result (word_fault s.head.var) from c.in_ok-word-in-For.ensures
    (refused_first e.field-0.0 r.result (expr_fault (tree_of s.head.from)) to r.ensures.1 e.ensures))

pub statement-returns-in_err-expression-in-For-2 : goal.statement-returns-in_err-expression-in-For-2
statement-returns-in_err-expression-in-For-2 t c =
    let known : List (List ℕ × ℕ) = take c.args.count (heads_of c.args.heads.now.procs.now) in
    let s = c.in-For in
    let r = c.from_residual-in_err-expression-in-For-2 in
    let e = c.in_err-expression-in-For-2 in
    let body = acts_fault known (acts_of s.body) <|> word_fault s.next in
    let to = expr_fault (tree_of s.head.to) <|> body in
    let from = expr_fault (tree_of s.head.from) <|> to in
    act_passes known r.result (ap act_of s.is ∙ act_for_next s.head s.body s.next)
    (passed_first r.result (word_fault s.head.var) from c.in_ok-word-in-For.ensures
    (passed_first r.result (expr_fault (tree_of s.head.from)) to c.in_ok-expression-in-For.ensures
    (refused_first e.field-0.0 r.result (expr_fault (tree_of s.head.to)) body r.ensures.1 e.ensures)))

pub statement-returns-in_err-block-in-For : goal.statement-returns-in_err-block-in-For
statement-returns-in_err-block-in-For t c =
    let known : List (List ℕ × ℕ) = take c.args.count (heads_of c.args.heads.now.procs.now) in
    let s = c.in-For in
    let r = c.from_residual-in_err-block-in-For in
    let e = c.in_err-block-in-For in
    let body = acts_fault known (acts_of s.body) <|> word_fault s.next in
    let to = expr_fault (tree_of s.head.to) <|> body in
    let from = expr_fault (tree_of s.head.from) <|> to in
    act_passes known r.result (ap act_of s.is ∙ act_for_next s.head s.body s.next)
    (passed_first r.result (word_fault s.head.var) from c.in_ok-word-in-For.ensures
    (passed_first r.result (expr_fault (tree_of s.head.from)) to c.in_ok-expression-in-For.ensures
    (passed_first r.result (expr_fault (tree_of s.head.to)) body c.in_ok-expression-in-For-2.ensures
    (refused_first e.field-0.0 r.result (acts_fault known (acts_of s.body)) (word_fault s.next) r.ensures.1 e.ensures))))

pub statement-returns-in_ok-block-in-For : goal.statement-returns-in_ok-block-in-For
statement-returns-in_ok-block-in-For t c =
    let known : List (List ℕ × ℕ) = take c.args.count (heads_of c.args.heads.now.procs.now) in
    let s = c.in-For in
    let r = c.word-in-For-2 in
    let body = acts_fault known (acts_of s.body) <|> word_fault s.next in
    let to = expr_fault (tree_of s.head.to) <|> body in
    let from = expr_fault (tree_of s.head.from) <|> to in
    act_passes known r.result (ap act_of s.is ∙ act_for_next s.head s.body s.next)
    (passed_first r.result (word_fault s.head.var) from c.in_ok-word-in-For.ensures
    (passed_first r.result (expr_fault (tree_of s.head.from)) to c.in_ok-expression-in-For.ensures
    (passed_first r.result (expr_fault (tree_of s.head.to)) body c.in_ok-expression-in-For-2.ensures
    (passed_first r.result (acts_fault known (acts_of s.body)) (word_fault s.next) c.in_ok-block-in-For.ensures
    r.ensures))))

pub statement-returns-in_err-expression-in-While : goal.statement-returns-in_err-expression-in-While
statement-returns-in_err-expression-in-While t c =
    let known : List (List ℕ × ℕ) = take c.args.count (heads_of c.args.heads.now.procs.now) in
    let s = c.in-While in
    let r = c.from_residual-in_err-expression-in-While in
    let e = c.in_err-expression-in-While in
    act_passes known r.result (ap act_of s.is ∙ act_while_do s.test s.body)
    (refused_first e.field-0.0 r.result (expr_fault (tree_of s.test)) (acts_fault known (acts_of s.body)) r.ensures.1 e.ensures)

pub statement-returns-in_ok-expression-in-While : goal.statement-returns-in_ok-expression-in-While
statement-returns-in_ok-expression-in-While t c =
    let known : List (List ℕ × ℕ) = take c.args.count (heads_of c.args.heads.now.procs.now) in
    let s = c.in-While in
    let r = c.block-in-While in
    act_passes known r.result (ap act_of s.is ∙ act_while_do s.test s.body)
    (passed_first r.result (expr_fault (tree_of s.test)) (acts_fault known (acts_of s.body)) c.in_ok-expression-in-While.ensures
    r.ensures)

pub statement-returns-in-Run : goal.statement-returns-in-Run
statement-returns-in-Run t c =
    act_passes (take c.args.count (heads_of c.args.heads.now.procs.now)) c.call.result (ap act_of c.in-Run.is ∙ act_run_procedure c.in-Run.name c.in-Run.args) c.call.ensures
