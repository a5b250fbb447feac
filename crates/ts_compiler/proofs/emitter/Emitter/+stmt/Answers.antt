use Rattle.std.proofs.Common.{rules, FitsSigned, ◌≡◌, ℕ, ◌+◌, ◌≤◌, List, [], ◌∷◌, ◌++◌, map, drop, ap, sym, ◌∙◌, subst, arith}
use Rattle.std.specs.Int.{w16}
use Rattle.std.proofs.lemmas.Int.{to_z-of_z}
use Rattle.mate_code.specs.declared.instr.Instr.{Instr}
use Rattle.mate_code.specs.Instr.{size_of}
use Rattle.ts_checked.specs.Expression.{Expression, arguments}
use Rattle.ts_checked.specs.Statement.{Statement, Block, block, Set, SetItem, Append, Take, Clear, Do, DoSend, If, IfElse, For, While}
use Rattle.ts_checked.specs.TreeOf.{expr_tree, args_trees, stmt_tree, block_tree, block_trees}
use Rattle.ts_checked.specs.declared.checked_stmt.CStmt.{CStmt, the_lemmas}
use Rattle.ts_semantics.specs.Translation.{size_of_instrs, number_code, expr_code, stmt_code, block_code}
use Rattle.ts_compiler.specs.Parts.{HasRoom, WritesInstrs}
use Rattle.ts_compiler.proofs.PartLemmas.{◌⟫◌, BlockFrom, block_room, block_step, block_end, rest_more, rest_none, guarded_small, guarded_test, guarded_jump, guarded_body, guarded_writes, other_small, other_jump, other_body, other_writes, else_room_first, else_room_second, else_writes, while_room_first, while_room_second, while_writes, for_head_room, for_small, for_jump, for_body_room, for_step, for_back, for_writes, room_stmt, writes_stmt, room_last, writes_last}
use Rattle.ts_compiler.proofs.TreeLemmas.{tree-Set, tree-SetItem, tree-Append, tree-Take, tree-Clear, tree-Do, tree-DoSend, tree-For, tree-While}
use Rattle.ts_compiler.proofs.emitter.Emitter.+stmt.Goals as goal

-- ---- a test, and a part that runs where it is true

pub guarded-expr-requires : goal.guarded-expr-requires
guarded-expr-requires t c = guarded_test (expr_tree c.args.test.now) (block_tree c.args.body.now) c.args.behind c.requires.room

pub guarded-small_block_size-requires : goal.guarded-small_block_size-requires
guarded-small_block_size-requires t c = guarded_small (expr_tree c.args.test.now) (block_tree c.args.body.now) c.args.behind c.requires.room

pub guarded-push-requires : goal.guarded-push-requires
guarded-push-requires t c = guarded_jump (expr_tree c.args.test.now) (block_tree c.args.body.now) c.args.behind c.requires.room _ c.expr.ensures

pub guarded-block-requires : goal.guarded-block-requires
guarded-block-requires t c =
    (search (rules, the_lemmas), guarded_body (expr_tree c.args.test.now) (block_tree c.args.body.now) c.args.behind c.requires.room _ c.expr.ensures c.push.ensures)

pub guarded-returns : goal.guarded-returns
guarded-returns t c =
    guarded_writes (expr_tree c.args.test.now) (block_tree c.args.body.now) c.args.behind _ c.expr.ensures (omega arith) c.push.ensures c.block.ensures

-- ---- a part that is passed by

pub otherwise-small_block_size-requires : goal.otherwise-small_block_size-requires
otherwise-small_block_size-requires t c = other_small (block_tree c.args.other.now) c.requires

-- ---- loops

pub while_loop-guarded-requires : goal.while_loop-guarded-requires
while_loop-guarded-requires t c = (search (rules, the_lemmas), (while_room_first (expr_tree c.args.test.now) (block_tree c.args.body.now) c.requires, omega arith))

pub while_loop-push-requires : goal.while_loop-push-requires
while_loop-push-requires t c = while_room_second (expr_tree c.args.test.now) (block_tree c.args.body.now) c.next-begin.result c.guarded.ensures c.requires

pub while_loop-returns : goal.while_loop-returns
while_loop-returns t c =
    while_writes (expr_tree c.args.test.now) (block_tree c.args.body.now) c.next-begin.result c.next-begin.ensures.place c.guarded.ensures c.push.ensures

pub for_loop-for_head-test-requires : goal.for_loop-for_head-test-requires
for_loop-for_head-test-requires t c = let head = c.args.head.now in for_head_room head.var (expr_tree head.from) (expr_tree head.to) head.step (block_tree c.args.body.now) c.requires

pub for_loop-small_block_size-requires : goal.for_loop-small_block_size-requires
for_loop-small_block_size-requires t c = let head = c.args.head.now in for_small head.var (expr_tree head.from) (expr_tree head.to) head.step (block_tree c.args.body.now) c.requires

pub for_loop-push-requires : goal.for_loop-push-requires
for_loop-push-requires t c =
    let head = c.args.head.now in
    let fits : FitsSigned w16 head.step = search rules in
    for_jump head.var (expr_tree head.from) (expr_tree head.to) head.step (block_tree c.args.body.now) c.requires c.number_instr-step.result (simp to_z-of_z at c.number_instr-step.ensures) c.for_head-test.ensures.code _

pub for_loop-block-requires : goal.for_loop-block-requires
for_loop-block-requires t c =
    let head = c.args.head.now in
    let fits : FitsSigned w16 head.step = search rules in
    (search (rules, the_lemmas), for_body_room head.var (expr_tree head.from) (expr_tree head.to) head.step (block_tree c.args.body.now) c.requires c.number_instr-step.result (simp to_z-of_z at c.number_instr-step.ensures) c.for_head-test.ensures.code _ c.push.ensures)

pub for_loop-step-requires : goal.for_loop-step-requires
for_loop-step-requires t c =
    let head = c.args.head.now in
    let fits : FitsSigned w16 head.step = search rules in
    for_step head.var (expr_tree head.from) (expr_tree head.to) head.step (block_tree c.args.body.now) c.requires c.number_instr-step.result (simp to_z-of_z at c.number_instr-step.ensures) c.for_head-test.ensures.code _ c.push.ensures c.block.ensures

pub for_loop-push-requires-2 : goal.for_loop-push-requires-2
for_loop-push-requires-2 t c =
    let head = c.args.head.now in
    let fits : FitsSigned w16 head.step = search rules in
    for_back head.var (expr_tree head.from) (expr_tree head.to) head.step (block_tree c.args.body.now) c.requires c.number_instr-step.result (simp to_z-of_z at c.number_instr-step.ensures) c.for_head-test.ensures.code _ _ c.push.ensures c.block.ensures c.step.ensures

pub for_loop-returns : goal.for_loop-returns
for_loop-returns t c =
    let head = c.args.head.now in
    let fits : FitsSigned w16 head.step = search rules in
    let size : c.number_size-size.result ≡ size_of (number_code head.step) = simp to_z-of_z at c.number_size-size.ensures.size in
    for_writes head.var (expr_tree head.from) (expr_tree head.to) head.step (block_tree c.args.body.now) c.requires c.number_instr-step.result (simp to_z-of_z at c.number_instr-step.ensures) c.for_head-test.ensures.code _ _
    (omega arith) c.for_head-test.ensures.test c.push.ensures c.block.ensures c.step.ensures c.push-2.ensures

-- ---- blocks

pub block-stmt-requires : goal.block-stmt-requires
block-stmt-requires t c =
    let xs : List CStmt = c.as_slice-stmt-items.result.now in
    let seen : block_trees c.args.block.now ≡ map stmt_tree c.args.block.now.items.items = search (rules, the_lemmas) in
    let all : block_trees c.args.block.now ≡ map stmt_tree xs = seen ∙ ap (map stmt_tree) (sym c.as_slice-stmt-items.ensures.value) in
    let F : List Statement → Type 0 = λ ys. BlockFrom c.args.self.now c.loop-stmt.self (map stmt_tree xs) ys in
    let R : List Statement → Type 0 = λ ys. HasRoom c.args.self.now (block_code (size_of_instrs c.args.self.now) (block ys)) in (
      search (rules, the_lemmas),
      block_room (stmt_tree c.stmt-item.result) (map stmt_tree (drop (c.loop-stmt.stmt-index + 1) xs))
          (subst F (rest_more stmt_tree xs c.loop-stmt.stmt-index c.stmt-item.result c.stmt-item.is c.loop-stmt-test.true) c.loop-stmt.invariant) (subst R all c.requires),
    )

pub block-loop-stmt-preserved : goal.block-loop-stmt-preserved
block-loop-stmt-preserved t c =
    let xs : List CStmt = c.as_slice-stmt-items.result.now in
    let F : List Statement → Type 0 = λ ys. BlockFrom c.args.self.now c.loop-stmt.self (map stmt_tree xs) ys in
    block_step (stmt_tree c.stmt-item.result) (map stmt_tree (drop (c.loop-stmt.stmt-index + 1) xs))
    (subst F (rest_more stmt_tree xs c.loop-stmt.stmt-index c.stmt-item.result c.stmt-item.is c.loop-stmt-test.true) c.loop-stmt.invariant) c.stmt.ensures

pub block-returns : goal.block-returns
block-returns t c =
    let xs : List CStmt = c.as_slice-stmt-items.result.now in
    let seen : block_trees c.args.block.now ≡ map stmt_tree c.args.block.now.items.items = search (rules, the_lemmas) in
    let all : block_trees c.args.block.now ≡ map stmt_tree xs = seen ∙ ap (map stmt_tree) (sym c.as_slice-stmt-items.ensures.value) in
    let F : List Statement → Type 0 = λ ys. BlockFrom c.args.self.now c.loop-stmt.self (map stmt_tree xs) ys in
    let W : List Statement → Type 0 = λ ys. WritesInstrs c.args.self.now (block_code (size_of_instrs c.args.self.now) (block ys)) c.loop-stmt.self in
    subst W (sym all) (block_end (subst F (rest_none stmt_tree xs c.loop-stmt.stmt-index c.loop-stmt-test.false) c.loop-stmt.invariant))

-- ---- an `if` with an `else`

pub stmt-guarded-requires : goal.stmt-guarded-requires
stmt-guarded-requires t c =
    let e : Expression = expr_tree c.in-If.test in
    let a : Block = block_tree c.in-If.body in
    let b : Block = block_tree c.in-Some.other in
    let R : Statement → Type 0 = λ x. HasRoom c.args.self.now (stmt_code (size_of_instrs c.args.self.now) x) in
    let seen : stmt_tree c.args.stmt.now ≡ IfElse e a b = search (rules, the_lemmas) in
    (search (rules, the_lemmas), (else_room_first e a b (subst R seen c.requires), omega arith))

pub stmt-otherwise-requires : goal.stmt-otherwise-requires
stmt-otherwise-requires t c =
    let e : Expression = expr_tree c.in-If.test in
    let a : Block = block_tree c.in-If.body in
    let b : Block = block_tree c.in-Some.other in
    let R : Statement → Type 0 = λ x. HasRoom c.args.self.now (stmt_code (size_of_instrs c.args.self.now) x) in
    let seen : stmt_tree c.args.stmt.now ≡ IfElse e a b = search (rules, the_lemmas) in
    (search (rules, the_lemmas), else_room_second e a b c.guarded.ensures (subst R seen c.requires))

pub stmt-returns-in-Some : goal.stmt-returns-in-Some
stmt-returns-in-Some t c =
    let e : Expression = expr_tree c.in-If.test in
    let a : Block = block_tree c.in-If.body in
    let b : Block = block_tree c.in-Some.other in
    let W : Statement → Type 0 = λ x. WritesInstrs c.args.self.now (stmt_code (size_of_instrs c.args.self.now) x) c.otherwise.new.self in
    let seen : stmt_tree c.args.stmt.now ≡ IfElse e a b = search (rules, the_lemmas) in
    subst W (sym seen) (else_writes e a b c.guarded.ensures c.otherwise.ensures)

-- ---- a statement that one call writes

pub stmt-expr_then-requires : goal.stmt-expr_then-requires
stmt-expr_then-requires t c = let seen : stmt_tree c.args.stmt.now ≡ Set c.in-Set.variable (expr_tree c.in-Set.value) = ap stmt_tree c.in-Set.is ∙ tree-Set c.in-Set.variable c.in-Set.value in room_last (expr_code (expr_tree c.in-Set.value)) c.set_instr.ensures (room_stmt seen c.requires)

pub stmt-returns-in-Set : goal.stmt-returns-in-Set
stmt-returns-in-Set t c = let seen : stmt_tree c.args.stmt.now ≡ Set c.in-Set.variable (expr_tree c.in-Set.value) = ap stmt_tree c.in-Set.is ∙ tree-Set c.in-Set.variable c.in-Set.value in writes_stmt seen (writes_last (expr_code (expr_tree c.in-Set.value)) c.set_instr.ensures c.expr_then.ensures)

pub stmt-set_item-requires : goal.stmt-set_item-requires
stmt-set_item-requires t c = let seen : stmt_tree c.args.stmt.now ≡ SetItem c.in-SetItem.buffer (expr_tree c.in-SetItem.index) (expr_tree c.in-SetItem.value) = ap stmt_tree c.in-SetItem.is ∙ tree-SetItem c.in-SetItem.buffer c.in-SetItem.index c.in-SetItem.value in room_stmt seen c.requires

pub stmt-returns-in-SetItem : goal.stmt-returns-in-SetItem
stmt-returns-in-SetItem t c = let seen : stmt_tree c.args.stmt.now ≡ SetItem c.in-SetItem.buffer (expr_tree c.in-SetItem.index) (expr_tree c.in-SetItem.value) = ap stmt_tree c.in-SetItem.is ∙ tree-SetItem c.in-SetItem.buffer c.in-SetItem.index c.in-SetItem.value in writes_stmt seen c.set_item.ensures

pub stmt-expr_then-requires-in-Append : goal.stmt-expr_then-requires-in-Append
stmt-expr_then-requires-in-Append t c = let seen : stmt_tree c.args.stmt.now ≡ Append c.in-Append.buffer (expr_tree c.in-Append.value) = ap stmt_tree c.in-Append.is ∙ tree-Append c.in-Append.buffer c.in-Append.value in room_stmt seen c.requires

pub stmt-returns-in-Append : goal.stmt-returns-in-Append
stmt-returns-in-Append t c = let seen : stmt_tree c.args.stmt.now ≡ Append c.in-Append.buffer (expr_tree c.in-Append.value) = ap stmt_tree c.in-Append.is ∙ tree-Append c.in-Append.buffer c.in-Append.value in writes_stmt seen c.expr_then-in-Append.ensures

pub stmt-take-requires : goal.stmt-take-requires
stmt-take-requires t c = let seen : stmt_tree c.args.stmt.now ≡ Take c.in-Take.variable c.in-Take.buffer = ap stmt_tree c.in-Take.is ∙ tree-Take c.in-Take.variable c.in-Take.buffer in room_stmt seen c.requires

pub stmt-returns-in-Take : goal.stmt-returns-in-Take
stmt-returns-in-Take t c = let seen : stmt_tree c.args.stmt.now ≡ Take c.in-Take.variable c.in-Take.buffer = ap stmt_tree c.in-Take.is ∙ tree-Take c.in-Take.variable c.in-Take.buffer in writes_stmt seen c.take.ensures

pub stmt-push-requires : goal.stmt-push-requires
stmt-push-requires t c = let seen : stmt_tree c.args.stmt.now ≡ Clear c.in-Clear.buffer = ap stmt_tree c.in-Clear.is ∙ tree-Clear c.in-Clear.buffer in room_stmt seen c.requires

pub stmt-returns-in-Clear : goal.stmt-returns-in-Clear
stmt-returns-in-Clear t c = let seen : stmt_tree c.args.stmt.now ≡ Clear c.in-Clear.buffer = ap stmt_tree c.in-Clear.is ∙ tree-Clear c.in-Clear.buffer in writes_stmt seen c.push.ensures

pub stmt-call_alone-requires : goal.stmt-call_alone-requires
stmt-call_alone-requires t c = let seen : stmt_tree c.args.stmt.now ≡ Do c.in-Do.fun (arguments (args_trees c.in-Do.args)) = ap stmt_tree c.in-Do.is ∙ tree-Do c.in-Do.fun c.in-Do.args in room_stmt seen c.requires

pub stmt-returns-in-Do : goal.stmt-returns-in-Do
stmt-returns-in-Do t c = let seen : stmt_tree c.args.stmt.now ≡ Do c.in-Do.fun (arguments (args_trees c.in-Do.args)) = ap stmt_tree c.in-Do.is ∙ tree-Do c.in-Do.fun c.in-Do.args in writes_stmt seen c.call_alone.ensures

pub stmt-both-requires : goal.stmt-both-requires
stmt-both-requires t c = let seen : stmt_tree c.args.stmt.now ≡ DoSend c.in-SendBuf.fun c.in-SendBuf.buffer = ap stmt_tree c.in-SendBuf.is ∙ tree-DoSend c.in-SendBuf.fun c.in-SendBuf.buffer in room_stmt seen c.requires

pub stmt-returns-in-SendBuf : goal.stmt-returns-in-SendBuf
stmt-returns-in-SendBuf t c = let seen : stmt_tree c.args.stmt.now ≡ DoSend c.in-SendBuf.fun c.in-SendBuf.buffer = ap stmt_tree c.in-SendBuf.is ∙ tree-DoSend c.in-SendBuf.fun c.in-SendBuf.buffer in writes_stmt seen c.both.ensures

pub stmt-if_then-requires : goal.stmt-if_then-requires
stmt-if_then-requires t c = let seen : stmt_tree c.args.stmt.now ≡ If (expr_tree c.in-If.test) (block_tree c.in-If.body) = search (rules, the_lemmas) in (search (rules, the_lemmas), room_stmt seen c.requires)

pub stmt-returns-in-None : goal.stmt-returns-in-None
stmt-returns-in-None t c = let seen : stmt_tree c.args.stmt.now ≡ If (expr_tree c.in-If.test) (block_tree c.in-If.body) = search (rules, the_lemmas) in writes_stmt seen c.if_then.ensures

pub stmt-for_loop-requires : goal.stmt-for_loop-requires
stmt-for_loop-requires t c = let seen : stmt_tree c.args.stmt.now ≡ For c.in-For.head.var (expr_tree c.in-For.head.from) (expr_tree c.in-For.head.to) c.in-For.head.step (block_tree c.in-For.body) = ap stmt_tree c.in-For.is ∙ tree-For c.in-For.head c.in-For.body in (search (rules, the_lemmas), room_stmt seen c.requires)

pub stmt-returns-in-For : goal.stmt-returns-in-For
stmt-returns-in-For t c = let seen : stmt_tree c.args.stmt.now ≡ For c.in-For.head.var (expr_tree c.in-For.head.from) (expr_tree c.in-For.head.to) c.in-For.head.step (block_tree c.in-For.body) = ap stmt_tree c.in-For.is ∙ tree-For c.in-For.head c.in-For.body in writes_stmt seen c.for_loop.ensures

pub stmt-while_loop-requires : goal.stmt-while_loop-requires
stmt-while_loop-requires t c = let seen : stmt_tree c.args.stmt.now ≡ While (expr_tree c.in-While.test) (block_tree c.in-While.body) = ap stmt_tree c.in-While.is ∙ tree-While c.in-While.test c.in-While.body in (search (rules, the_lemmas), room_stmt seen c.requires)

pub stmt-returns-in-While : goal.stmt-returns-in-While
stmt-returns-in-While t c = let seen : stmt_tree c.args.stmt.now ≡ While (expr_tree c.in-While.test) (block_tree c.in-While.body) = ap stmt_tree c.in-While.is ∙ tree-While c.in-While.test c.in-While.body in writes_stmt seen c.while_loop.ensures
