use Rattle.std.proofs.Common.{rules, ◌≡◌, ◌∙◌, ℕ, List, ap, sym, subst, take, map}
use Rattle.std.specs.Prelude.{OnOk, true}
use Rattle.ts_trees.specs.declared.stmt.Stmt.{Stmt, the_lemmas}
use Rattle.ts_trees.specs.Seen.{act_of, acts_of, tree_of, trees_of}
use Rattle.ts_trees.specs.Tree.{Act, if_then, if_else}
use Rattle.ts_trees.proofs.SeenLemmas.{act_for_next, act_while_do, act_run_procedure}
use Rattle.ts_proc_renaming.specs.Hidden.{hiding_of}
use Rattle.ts_proc_expansion.specs.Expansion.{Callee}
use Rattle.ts_proc_expansion.specs.Live.{BecomesSame, AddsSame}
use Rattle.ts_proc_expansion.specs.Plan.{bodies_of}
use Rattle.ts_proc_expansion.proofs.ExitLemmas.{on_ok}
use Rattle.ts_proc_expansion.proofs.LiveLemmas.{is_simple, adds_simple, adds_if_then, adds_if_else, adds_for_next, adds_while_do, live_next}
use Rattle.ts_proc_expansion.proofs.live.+live.Goals as goal

pub live_block-loop-stmt-preserved : goal.live_block-loop-stmt-preserved
live_block-loop-stmt-preserved t c =
    live_next (take c.args.count (bodies_of c.args.plan.now.heads.procs.now)) c.as_slice-stmt-items.result.now c.loop-stmt.stmt-index c.stmt-item.result
    (map act_of c.loop-stmt.live) (map act_of c.live_statement.new.live) c.loop-stmt-test.true c.stmt-item.is c.in_ok-live_statement.ensures c.loop-stmt.invariant

pub live_statement-returns-in-Set : goal.live_statement-returns-in-Set
live_statement-returns-in-Set t c =
    let known : List (List ℕ × Callee) = take c.args.count (bodies_of c.args.plan.now.heads.procs.now) in
    let simple : is_simple (act_of c.args.stmt.now) ≡ true = search (rules, the_lemmas) in
    on_ok c.simple.result (λ is. adds_simple known (hiding_of c.args.hidden.now) c.requires.hides (map act_of c.args.live.now) (map act_of c.simple.new.written) (act_of c.args.stmt.now) simple is)
    c.simple.ensures

pub live_statement-returns-in_ok-body-in-If-default-default-None : goal.live_statement-returns-in_ok-body-in-If-default-default-None
live_statement-returns-in_ok-body-in-If-default-default-None t c =
    let known : List (List ℕ × Callee) = take c.args.count (bodies_of c.args.plan.now.heads.procs.now) in
    let P : Act → Type 0 = λ a. AddsSame known (map act_of c.args.live.now) a (map act_of c.if_then.new.written) in
    let body = c.in-If-default-default-None.body in
    let seen : act_of c.args.stmt.now ≡ if_then (tree_of c.in-If-default-default-None.test) (acts_of body) = search (rules, the_lemmas) in
    on_ok c.if_then.result (λ is. subst P (sym seen) (adds_if_then known (hiding_of c.args.hidden.now) c.requires.hides (map act_of c.args.live.now) (map act_of c.if_then.new.written)
    (tree_of c.in-If-default-default-None.test) (acts_of body) (acts_of c.in_ok-body-in-If-default-default-None.body) c.in_ok-body-in-If-default-default-None.ensures is)) c.if_then.ensures

pub live_statement-returns-in_ok-other-in-If-default-default-Some : goal.live_statement-returns-in_ok-other-in-If-default-default-Some
live_statement-returns-in_ok-other-in-If-default-default-Some t c =
    let known : List (List ℕ × Callee) = take c.args.count (bodies_of c.args.plan.now.heads.procs.now) in
    let P : Act → Type 0 = λ a. AddsSame known (map act_of c.args.live.now) a (map act_of c.if_else.new.written) in
    let seen : act_of c.args.stmt.now ≡ if_else (tree_of c.in-If-default-default-Some.test) (acts_of c.in-If-default-default-Some.body) (acts_of c.in-If-default-default-Some.other) =
    search (rules, the_lemmas) in
    let also : BecomesSame known (acts_of c.in_ok-other-in-If-default-default-Some.other) (acts_of c.in-If-default-default-Some.other) =
    λ h. first_of (search (rules, the_lemmas), cc (c.in-If-default-default-Some.other-is, c.in_ok-other-in-If-default-default-Some.ensures h)) in
    on_ok c.if_else.result (λ is. subst P (sym seen) (adds_if_else known (hiding_of c.args.hidden.now) c.requires.hides (map act_of c.args.live.now) (map act_of c.if_else.new.written)
    (tree_of c.in-If-default-default-Some.test) (acts_of c.in-If-default-default-Some.body) (acts_of c.in_ok-body-in-If-default-default-Some.body)
    (acts_of c.in-If-default-default-Some.other) (acts_of c.in_ok-other-in-If-default-default-Some.other)
    c.in_ok-body-in-If-default-default-Some.ensures also is)) c.if_else.ensures

pub live_statement-returns-in_ok-body-in-For : goal.live_statement-returns-in_ok-body-in-For
live_statement-returns-in_ok-body-in-For t c =
    let known : List (List ℕ × Callee) = take c.args.count (bodies_of c.args.plan.now.heads.procs.now) in
    let P : Act → Type 0 = λ a. AddsSame known (map act_of c.args.live.now) a (map act_of c.for_next.new.written) in
    let head = c.in-For.head in
    let seen = ap act_of c.in-For.is ∙ act_for_next head c.in-For.body c.in-For.next in
    on_ok c.for_next.result (λ is. subst P (sym seen) (adds_for_next known (hiding_of c.args.hidden.now) c.requires.hides (map act_of c.args.live.now) (map act_of c.for_next.new.written)
    head.var c.in-For.next (tree_of head.from) (tree_of head.to) head.step (acts_of c.in-For.body) (acts_of c.in_ok-body-in-For.body) c.in_ok-body-in-For.ensures is)) c.for_next.ensures

pub live_statement-returns-in_ok-body-in-While : goal.live_statement-returns-in_ok-body-in-While
live_statement-returns-in_ok-body-in-While t c =
    let known : List (List ℕ × Callee) = take c.args.count (bodies_of c.args.plan.now.heads.procs.now) in
    let P : Act → Type 0 = λ a. AddsSame known (map act_of c.args.live.now) a (map act_of c.while_do.new.written) in
    let seen = ap act_of c.in-While.is ∙ act_while_do c.in-While.test c.in-While.body in
    on_ok c.while_do.result (λ is. subst P (sym seen) (adds_while_do known (hiding_of c.args.hidden.now) c.requires.hides (map act_of c.args.live.now) (map act_of c.while_do.new.written)
    (tree_of c.in-While.test) (acts_of c.in-While.body) (acts_of c.in_ok-body-in-While.body) c.in_ok-body-in-While.ensures is)) c.while_do.ensures

pub live_statement-returns-in-Run : goal.live_statement-returns-in-Run
live_statement-returns-in-Run t c =
    let known : List (List ℕ × Callee) = take c.args.count (bodies_of c.args.plan.now.heads.procs.now) in
    let P : Act → Type 0 = λ a. OnOk c.live_call.result (AddsSame known (map act_of c.args.live.now) a (map act_of c.live_call.new.live)) in
    subst P (sym (ap act_of c.in-Run.is ∙ act_run_procedure c.in-Run.name c.in-Run.args)) c.live_call.ensures
