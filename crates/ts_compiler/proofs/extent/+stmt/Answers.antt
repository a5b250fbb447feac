use Rattle.std.proofs.Common.{rules, ◌≡◌, ℕ, ◌+◌, List, [], map, drop, ap, sym, ◌∙◌, subst}
use Rattle.std.specs.Prelude.{max}
use Rattle.mate_code.specs.declared.instr.Instr.TheVariants as instr
use Rattle.mate_code.specs.Instr.{size_of}
use Rattle.ts_checked.specs.Expression.{Expression, Arguments, arguments}
use Rattle.ts_checked.specs.Statement.{Statement, Block, block, Set, SetItem, Append, Take, Clear, Do, DoSend, If, IfElse, For, While}
use Rattle.ts_checked.specs.TreeOf.{expr_tree, args_trees, stmt_tree, block_tree, block_trees}
use Rattle.ts_checked.specs.declared.checked_stmt.CStmt.{CStmt, the_lemmas}
use Rattle.ts_semantics.specs.Translation.{size_of_instrs, number_code, args_code, expr_size, expr_need, stmt_size, stmt_need, block_size, block_need}
use Rattle.ts_compiler.specs.Parts.{capped}
use Rattle.ts_compiler.proofs.PartLemmas.{bytes_of-push, rest_more, rest_none}
use Rattle.ts_compiler.proofs.ExtentLemmas.{BlockMeasured, block_next, block_sizes, block_needs, capped-with, capped-above, capped-then, capped-max, else_bytes, for_bytes, while_bytes, for_needs}
use Rattle.ts_compiler.proofs.TreeLemmas.{tree-Set, tree-SetItem, tree-Append, tree-Take, tree-Clear, tree-Do, tree-DoSend, tree-For, tree-While}
use Rattle.ts_compiler.proofs.extent.+stmt.Goals as goal

-- the bytes and the need of a statement
abbrev bytes : Statement → ℕ
bytes x = capped (stmt_size x)

abbrev room : Statement → ℕ
room x = capped (stmt_need x)

pub stmt_extent-returns-in-Set : goal.stmt_extent-returns-in-Set
stmt_extent-returns-in-Set t c =
    let e : Expression = expr_tree c.in-Set.value in
    let seen : stmt_tree c.args.stmt.now ≡ Set c.in-Set.field-0 e = ap stmt_tree c.in-Set.is ∙ tree-Set c.in-Set.field-0 c.in-Set.value in
    record {
      size = capped-with (expr_size e) 2 c.expr_extent.result.size c.with.result.size c.expr_extent.ensures.size c.with.ensures.size ∙ ap bytes (sym seen);
      need = c.with.ensures.need ∙ c.expr_extent.ensures.need ∙ ap room (sym seen);
    }

pub stmt_extent-returns-in-SetItem : goal.stmt_extent-returns-in-SetItem
stmt_extent-returns-in-SetItem t c =
    let i : Expression = expr_tree c.in-SetItem.index in
    let e : Expression = expr_tree c.in-SetItem.value in
    let seen : stmt_tree c.args.stmt.now ≡ SetItem c.in-SetItem.field-0 i e = ap stmt_tree c.in-SetItem.is ∙ tree-SetItem c.in-SetItem.field-0 c.in-SetItem.index c.in-SetItem.value in
    let value = c.expr_extent-in-SetItem.ensures in
    let above = c.above-value.ensures in
    let index = c.expr_extent-in-SetItem-2.ensures in
    record {
      size = capped-with (expr_size i + expr_size e) 2 c.then.result.size c.with-in-SetItem.result.size
          (capped-then (expr_size i) (expr_size e) c.expr_extent-in-SetItem-2.result.size c.above-value.result.size c.then.result.size
          index.size (above.size ∙ value.size) c.then.ensures.size) c.with-in-SetItem.ensures.size ∙ ap bytes (sym seen);
      need = c.with-in-SetItem.ensures.need
          ∙ capped-max (expr_need i) (1 + expr_need e) c.expr_extent-in-SetItem-2.result.need c.above-value.result.need c.then.result.need
          index.need (capped-above (expr_need e) 1 c.expr_extent-in-SetItem.result.need c.above-value.result.need value.need above.need) c.then.ensures.need
          ∙ ap room (sym seen);
    }

pub stmt_extent-returns-in-Append : goal.stmt_extent-returns-in-Append
stmt_extent-returns-in-Append t c =
    let e : Expression = expr_tree c.in-Append.value in
    let seen : stmt_tree c.args.stmt.now ≡ Append c.in-Append.field-0 e = ap stmt_tree c.in-Append.is ∙ tree-Append c.in-Append.field-0 c.in-Append.value in
    record {
      size = capped-with (expr_size e) 2 c.expr_extent-in-Append.result.size c.with-in-Append.result.size c.expr_extent-in-Append.ensures.size c.with-in-Append.ensures.size ∙ ap bytes (sym seen);
      need = c.with-in-Append.ensures.need ∙ c.expr_extent-in-Append.ensures.need ∙ ap room (sym seen);
    }

pub stmt_extent-returns-in-Take : goal.stmt_extent-returns-in-Take
stmt_extent-returns-in-Take t c =
    let seen : stmt_tree c.args.stmt.now ≡ Take c.in-Take.field-0 c.in-Take.field-1 = ap stmt_tree c.in-Take.is ∙ tree-Take c.in-Take.field-0 c.in-Take.field-1 in
    record { size = c.one.ensures.size ∙ ap bytes (sym seen); need = c.one.ensures.need ∙ ap room (sym seen) }

pub stmt_extent-returns-in-Clear : goal.stmt_extent-returns-in-Clear
stmt_extent-returns-in-Clear t c =
    let seen : stmt_tree c.args.stmt.now ≡ Clear c.in-Clear.field-0 = ap stmt_tree c.in-Clear.is ∙ tree-Clear c.in-Clear.field-0 in
    record {
      size = capped-with 0 2 c.nothing.result.size c.with-in-Clear.result.size c.nothing.ensures.size c.with-in-Clear.ensures.size ∙ ap bytes (sym seen);
      need = c.with-in-Clear.ensures.need ∙ c.nothing.ensures.need ∙ ap room (sym seen);
    }

pub stmt_extent-returns-in-Do : goal.stmt_extent-returns-in-Do
stmt_extent-returns-in-Do t c =
    let given : Arguments = arguments (args_trees c.in-Do.args) in
    let seen : stmt_tree c.args.stmt.now ≡ Do c.in-Do.field-0 given = ap stmt_tree c.in-Do.is ∙ tree-Do c.in-Do.field-0 c.in-Do.args in
    record {
      size = capped-with (size_of_instrs (args_code given) + 1) 1 c.call_extent.result.size c.with-in-Do.result.size c.call_extent.ensures.size c.with-in-Do.ensures.size
          ∙ ap (λ (n : ℕ). capped (n + 1)) (sym (bytes_of-push (args_code given) (instr.Fun c.in-Do.field-0))) ∙ ap bytes (sym seen);
      need = c.with-in-Do.ensures.need ∙ c.call_extent.ensures.need ∙ ap room (sym seen);
    }

pub stmt_extent-returns-in-SendBuf : goal.stmt_extent-returns-in-SendBuf
stmt_extent-returns-in-SendBuf t c =
    let seen : stmt_tree c.args.stmt.now ≡ DoSend c.in-SendBuf.field-0 c.in-SendBuf.field-1 = ap stmt_tree c.in-SendBuf.is ∙ tree-DoSend c.in-SendBuf.field-0 c.in-SendBuf.field-1 in
    record { size = c.one-in-SendBuf.ensures.size ∙ ap bytes (sym seen); need = c.one-in-SendBuf.ensures.need ∙ ap room (sym seen) }

pub stmt_extent-returns-in-If-default-default-None : goal.stmt_extent-returns-in-If-default-default-None
stmt_extent-returns-in-If-default-default-None t c =
    let e : Expression = expr_tree c.in-If-default-default-None.test in
    let a : Block = block_tree c.in-If-default-default-None.body in
    let seen : stmt_tree c.args.stmt.now ≡ If e a = search (rules, the_lemmas) in
    let test = c.expr_extent-in-If-default-default-None in
    let with_jump = c.with-in-If-default-default-None in
    let both = c.then-in-If-default-default-None in
    record {
      size = capped-then (expr_size e + 3) (block_size a) with_jump.result.size c.block_extent.result.size both.result.size
          (capped-with (expr_size e) 3 test.result.size with_jump.result.size test.ensures.size with_jump.ensures.size) c.block_extent.ensures.size both.ensures.size ∙ ap bytes (sym seen);
      need = capped-max (expr_need e) (block_need a) with_jump.result.need c.block_extent.result.need both.result.need
          (with_jump.ensures.need ∙ test.ensures.need) c.block_extent.ensures.need both.ensures.need ∙ ap room (sym seen);
    }

pub stmt_extent-returns-in-If-default-default-Some : goal.stmt_extent-returns-in-If-default-default-Some
stmt_extent-returns-in-If-default-default-Some t c =
    let e : Expression = expr_tree c.in-If-default-default-Some.test in
    let a : Block = block_tree c.in-If-default-default-Some.body in
    let b : Block = block_tree c.in-If-default-default-Some.other in
    let seen : stmt_tree c.args.stmt.now ≡ IfElse e a b = search (rules, the_lemmas) in
    let first = c.block_extent-in-If-default-default-Some in
    let second = c.block_extent-in-If-default-default-Some-2 in
    let second_size : second.result.size ≡ capped (block_size b) = search (rules, the_lemmas) in
    let second_need : second.result.need ≡ capped (block_need b) = search (rules, the_lemmas) in
    let test = c.expr_extent-in-If-default-default-Some in
    let with_jumps = c.with-in-If-default-default-Some in
    let both = c.then-in-If-default-default-Some in
    let body = c.then-body in
    record {
      size = capped-then (expr_size e + 6) (block_size a + block_size b) with_jumps.result.size body.result.size both.result.size
          (capped-with (expr_size e) 6 test.result.size with_jumps.result.size test.ensures.size with_jumps.ensures.size)
          (capped-then (block_size a) (block_size b) first.result.size second.result.size body.result.size first.ensures.size second_size body.ensures.size) both.ensures.size
          ∙ ap capped (else_bytes (expr_size e) (block_size a) (block_size b)) ∙ ap bytes (sym seen);
      need = capped-max (expr_need e) (max (block_need a) (block_need b)) with_jumps.result.need body.result.need both.result.need
          (with_jumps.ensures.need ∙ test.ensures.need)
          (capped-max (block_need a) (block_need b) first.result.need second.result.need body.result.need first.ensures.need second_need body.ensures.need) both.ensures.need
          ∙ ap room (sym seen);
    }

pub stmt_extent-returns-in-For : goal.stmt_extent-returns-in-For
stmt_extent-returns-in-For t c =
    let head = c.in-For.head in
    let from : Expression = expr_tree head.from in
    let to : Expression = expr_tree head.to in
    let a : Block = block_tree c.in-For.body in
    let step : ℕ = size_of (number_code head.step) in
    let seen : stmt_tree c.args.stmt.now ≡ For head.var from to head.step a = ap stmt_tree c.in-For.is ∙ tree-For c.in-For.head c.in-For.body in
    let begin = c.head_extent in
    let body = c.block_extent-in-For in
    let both = c.then-in-For in
    record {
      size = capped-then (expr_size from + expr_size to + step + 16) (block_size a) begin.result.size body.result.size both.result.size begin.ensures.size body.ensures.size both.ensures.size
          ∙ ap capped (for_bytes (expr_size from) (expr_size to) step (block_size a)) ∙ ap bytes (sym seen);
      need = capped-max (max (expr_need from) (max (1 + expr_need to) 2)) (block_need a) begin.result.need body.result.need both.result.need begin.ensures.need body.ensures.need both.ensures.need
          ∙ ap capped (for_needs (expr_need from) (expr_need to) (block_need a)) ∙ ap room (sym seen);
    }

pub stmt_extent-returns-in-While : goal.stmt_extent-returns-in-While
stmt_extent-returns-in-While t c =
    let e : Expression = expr_tree c.in-While.test in
    let a : Block = block_tree c.in-While.body in
    let seen : stmt_tree c.args.stmt.now ≡ While e a = ap stmt_tree c.in-While.is ∙ tree-While c.in-While.test c.in-While.body in
    let test = c.expr_extent-in-While in
    let with_jumps = c.with-in-While in
    let body = c.block_extent-in-While in
    let both = c.then-in-While in
    record {
      size = capped-then (expr_size e + 6) (block_size a) with_jumps.result.size body.result.size both.result.size
          (capped-with (expr_size e) 6 test.result.size with_jumps.result.size test.ensures.size with_jumps.ensures.size) body.ensures.size both.ensures.size
          ∙ ap capped (while_bytes (expr_size e) (block_size a)) ∙ ap bytes (sym seen);
      need = capped-max (expr_need e) (block_need a) with_jumps.result.need body.result.need both.result.need
          (with_jumps.ensures.need ∙ test.ensures.need) body.ensures.need both.ensures.need ∙ ap room (sym seen);
    }

pub block_extent-loop-stmt-preserved : goal.block_extent-loop-stmt-preserved
block_extent-loop-stmt-preserved t c =
    let xs : List CStmt = c.as_slice-stmt-items.result.now in
    let F : List Statement → Type 0 = λ ys. BlockMeasured c.loop-stmt.extent.size c.loop-stmt.extent.need (map stmt_tree xs) ys in
    block_next (stmt_tree c.stmt-item.result) (map stmt_tree (drop (c.loop-stmt.stmt-index + 1) xs)) c.then-extent.result.size c.then-extent.result.need
    (subst F (rest_more stmt_tree xs c.loop-stmt.stmt-index c.stmt-item.result c.stmt-item.is c.loop-stmt-test.true) c.loop-stmt.invariant)
    (c.then-extent.ensures.size ∙ ap (λ (n : ℕ). capped (c.loop-stmt.extent.size + n)) c.stmt_extent.ensures.size)
    (c.then-extent.ensures.need ∙ ap (λ (n : ℕ). max c.loop-stmt.extent.need n) c.stmt_extent.ensures.need)

pub block_extent-returns : goal.block_extent-returns
block_extent-returns t c =
    let xs : List CStmt = c.as_slice-stmt-items.result.now in
    let seen : block_trees c.args.block.now ≡ map stmt_tree c.args.block.now.items.items = search (rules, the_lemmas) in
    let all : block_trees c.args.block.now ≡ map stmt_tree xs = seen ∙ ap (map stmt_tree) (sym c.as_slice-stmt-items.ensures.value) in
    let F : List Statement → Type 0 = λ ys. BlockMeasured c.loop-stmt.extent.size c.loop-stmt.extent.need (map stmt_tree xs) ys in
    let done : BlockMeasured c.loop-stmt.extent.size c.loop-stmt.extent.need (map stmt_tree xs) [] = subst F (rest_none stmt_tree xs c.loop-stmt.stmt-index c.loop-stmt-test.false) c.loop-stmt.invariant in
    record {
      size = block_sizes done ∙ ap (λ (ys : List Statement). capped (block_size (block ys))) (sym all);
      need = block_needs done ∙ ap (λ (ys : List Statement). capped (block_need (block ys))) (sym all);
    }
