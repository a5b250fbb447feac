use Rattle.std.proofs.Common.{rules, ◌≡◌, ◌∙◌, List, ap, sym, refl, arith, take, ℕ}
use Rattle.ts_trees.specs.declared.stmt.Stmt.{Stmt, the_lemmas}
use Rattle.ts_trees.specs.Seen.{tree_of, act_of, acts_of, acts}
use Rattle.ts_trees.specs.Tree.{Act, if_else, for_next, while_do}
use Rattle.ts_trees.proofs.SeenLemmas.{act_for_next, act_while_do, act_run_procedure}
use Rattle.ts_proc_renaming.specs.Renaming.{renamed, renamed_expr}
use Rattle.ts_proc_expansion.specs.Expansion.{Callee, expanded_act, expanded_acts}
use Rattle.ts_proc_expansion.specs.Extents.{extent_of as extent_of_acts}
use Rattle.ts_proc_expansion.specs.Plan.{bodies_of}
use Rattle.ts_proc_expansion.proofs.ExtentLemmas.{inside_measured, if_else_measured, joined_from, joined_end}
use Rattle.ts_proc_expansion.proofs.extent.+block.Goals as goal

pub block_extent-loop-stmt-preserved : goal.block_extent-loop-stmt-preserved
block_extent-loop-stmt-preserved t c =
    record {
      capped = omega (arith, c.then-extent.ensures.count);
      whole = λ h. c.loop-stmt.invariant.whole h ∙ joined_from (take c.args.count (bodies_of c.args.heads.now.procs.now)) h c.as_slice-stmt-items.result.now c.loop-stmt.stmt-index
          c.stmt-item.result c.loop-stmt.extent c.extent_of.result c.then-extent.result c.loop-stmt-test.true c.stmt-item.is (c.extent_of.ensures h)
          c.then-extent.ensures.count c.then-extent.ensures.depth;
    }

pub extent_of-returns-in-If-default-default-Some : goal.extent_of-returns-in-If-default-default-Some
extent_of-returns-in-If-default-default-Some t c = λ h.
    let known : List (List ℕ × Callee) = take c.args.count (bodies_of c.args.heads.now.procs.now) in
    let seen : act_of c.args.stmt.now ≡ if_else (tree_of c.in-If-default-default-Some.field-0) (acts_of c.in-If-default-default-Some.body) (acts_of c.in-If-default-default-Some.other) =
    search (rules, the_lemmas) in
    let is_other : c.block_extent-other.result ≡ extent_of_acts (expanded_acts known h (acts_of c.in-If-default-default-Some.other)) =
    first_of (search (rules, the_lemmas), cc (c.in-If-default-default-Some.other-is, c.block_extent-other.ensures h)) in
    if_else_measured (renamed_expr h (tree_of c.in-If-default-default-Some.field-0))
    (expanded_acts known h (acts_of c.in-If-default-default-Some.body)) (expanded_acts known h (acts_of c.in-If-default-default-Some.other))
    c.block_extent-body.result c.block_extent-other.result c.then.result c.within-in-If-default-default-Some.result
    (c.block_extent-body.ensures h) is_other c.then.ensures.count c.then.ensures.depth
    c.within-in-If-default-default-Some.ensures.count c.within-in-If-default-default-Some.ensures.depth
    ∙ sym (ap (λ (a : Act). extent_of_acts (expanded_act known h a)) seen)

pub block_extent-returns : goal.block_extent-returns
block_extent-returns t c = λ h.
    let known : List (List ℕ × Callee) = take c.args.count (bodies_of c.args.heads.now.procs.now) in
    sym (ap (λ (ss : List Stmt). extent_of_acts (expanded_acts known h (acts_of ss))) (sym c.as_slice-stmt-items.ensures) ∙ c.loop-stmt.invariant.whole h
    ∙ joined_end known h c.as_slice-stmt-items.result.now c.loop-stmt.stmt-index c.loop-stmt.extent c.loop-stmt-test.false c.loop-stmt.invariant.capped)

pub extent_of-returns-in-For : goal.extent_of-returns-in-For
extent_of-returns-in-For t c = λ h.
    let known : List (List ℕ × Callee) = take c.args.count (bodies_of c.args.heads.now.procs.now) in
    let head = c.in-For.field-0 in
    let inner : List Act = expanded_acts known h (acts_of c.in-For.body) in
    inside_measured (for_next (renamed h head.var) (renamed_expr h (tree_of head.from)) (renamed_expr h (tree_of head.to)) head.step (acts inner) (renamed h c.in-For.field-2)) inner
    c.block_extent-in-For.result c.within-in-For.result refl refl (c.block_extent-in-For.ensures h) c.within-in-For.ensures.count c.within-in-For.ensures.depth
    ∙ sym (ap (λ (a : Act). extent_of_acts (expanded_act known h a)) (ap act_of c.in-For.is ∙ act_for_next head c.in-For.body c.in-For.field-2))

pub extent_of-returns-in-While : goal.extent_of-returns-in-While
extent_of-returns-in-While t c = λ h.
    let known : List (List ℕ × Callee) = take c.args.count (bodies_of c.args.heads.now.procs.now) in
    let inner : List Act = expanded_acts known h (acts_of c.in-While.body) in
    inside_measured (while_do (renamed_expr h (tree_of c.in-While.field-0)) (acts inner)) inner
    c.block_extent-in-While.result c.within-in-While.result refl refl (c.block_extent-in-While.ensures h) c.within-in-While.ensures.count c.within-in-While.ensures.depth
    ∙ sym (ap (λ (a : Act). extent_of_acts (expanded_act known h a)) (ap act_of c.in-While.is ∙ act_while_do c.in-While.field-0 c.in-While.body))

pub extent_of-returns-in-Run : goal.extent_of-returns-in-Run
extent_of-returns-in-Run t c = λ h.
    let known : List (List ℕ × Callee) = take c.args.count (bodies_of c.args.heads.now.procs.now) in
    c.call_extent.ensures h ∙ sym (ap (λ (a : Act). extent_of_acts (expanded_act known h a)) (ap act_of c.in-Run.is ∙ act_run_procedure c.in-Run.name c.in-Run.args))
