use Rattle.std.proofs.Common.{◌≡◌, ◌++◌, ◌∙◌, ap, sym, subst, rules, arith, ◌≤◌, ◌<◌, ◌-◌, ◌+◌, List, Option, ℕ, map, take, drop}
use Rattle.std.specs.Prelude.{IfOk}
use Rattle.std.proofs.lemmas.List.{append-nil}
use Rattle.ts_trees.specs.declared.procedure.Proc.{Proc}
use Rattle.ts_trees.specs.Seen.{act_of, acts_of, acts, trees_of}
use Rattle.ts_trees.specs.Tree.{Act, run_procedure}
use Rattle.ts_trees.proofs.SeenLemmas.{act_run_procedure}
use Rattle.ts_procs.specs.declared.pending.Pending.{Pending}
use Rattle.ts_proc_expansion.specs.Expansion.{Callee, expanded_act, expanded_acts}
use Rattle.ts_procs.specs.Pending.{acts_left, left_if, left_on, steps_if, steps_of_bodies, act_steps}
use Rattle.ts_proc_renaming.specs.Hidden.{hiding_of}
use Rattle.ts_proc_renaming.specs.Renaming.{Hiding}
use Rattle.ts_proc_expansion.specs.Plan.{bodies_of}
use Rattle.ts_proc_expansion.specs.Extent.{acts_depth}
use Rattle.ts_proc_renaming.proofs.WrittenLemmas.{failed}
use Rattle.ts_procs.proofs.WritingLemmas.{within_more, block_from, block_next, block_end, block_part, popped, popped_none, fewer_below, fewer, stack_next, front_depth, top_depth}
use Rattle.ts_procs.proofs.statements.+block.Goals as goal

pub block-statement-requires : goal.block-statement-requires
block-statement-requires t c =
    let known : List (List ℕ × Callee) = take c.args.count (bodies_of c.args.plan.now.heads.procs.now) in
    let whole : List Act = expanded_acts known (hiding_of c.args.hidden.now) (acts_of c.args.stmts.now) in
    let shallow : acts_depth (acts whole) ≤ c.args.depth - 1 = omega (arith, c.requires) in (
      first_of (omega arith, search rules),
      block_part known (hiding_of c.args.hidden.now) c.args.stmts.now c.loop-stmt.stmt-index c.stmt-item.result (map act_of c.loop-stmt.written) whole (c.args.depth - 1)
          c.loop-stmt-test.true c.stmt-item.is c.loop-stmt.invariant shallow,
    )

pub block-bodies-requires : goal.block-bodies-requires
block-bodies-requires t c = (first_of (omega arith, search rules), c.in_ok-body.ensures.shallow)

pub block-loop-stmt-preserved : goal.block-loop-stmt-preserved
block-loop-stmt-preserved t c =
    let procs : List Proc = c.args.plan.now.heads.procs.now in
    let known : List (List ℕ × Callee) = take c.args.count (bodies_of procs) in
    let h : Hiding = hiding_of c.args.hidden.now in
    block_next (map act_of c.loop-stmt.written) (map act_of c.statement.new.written) (map act_of c.bodies.new.written) (left_if procs c.in_ok-body.body)
    (expanded_act known h (act_of c.stmt-item.result)) (expanded_acts known h (acts_of (drop (c.loop-stmt.stmt-index + 1) c.args.stmts.now)))
    (expanded_acts known h (acts_of (drop c.loop-stmt.stmt-index c.args.stmts.now))) (expanded_acts known h (acts_of c.args.stmts.now))
    c.in_ok-bodies.ensures c.in_ok-body.ensures.wrote (block_from known h c.args.stmts.now c.loop-stmt.stmt-index c.stmt-item.result c.loop-stmt-test.true c.stmt-item.is) c.loop-stmt.invariant

pub block-returns : goal.block-returns
block-returns t c =
    let known : List (List ℕ × Callee) = take c.args.count (bodies_of c.args.plan.now.heads.procs.now) in
    block_end known (hiding_of c.args.hidden.now) c.args.stmts.now c.loop-stmt.stmt-index (map act_of c.loop-stmt.written)
    (expanded_acts known (hiding_of c.args.hidden.now) (acts_of c.args.stmts.now)) c.loop-stmt-test.false c.loop-stmt.invariant

pub bodies-loop-pending-init : goal.bodies-loop-pending-init
bodies-loop-pending-init t c =
    let procs : List Proc = c.args.plan.now.heads.procs.now in
    let body : List Act = left_if procs c.args.body in
    let same : left_on procs c.push_if.new.stack.items ≡ body =
    c.in_ok-push_if.ensures.left procs ∙ ap (λ (s : List Pending). body ++ left_on procs s) c.new-stack.ensures.items ∙ append-nil body in
    let P : List Act → Type 0 = λ xs. acts_depth (acts xs) ≤ c.args.depth in
    record { whole = ap (λ (xs : List Act). map act_of c.args.written.now ++ xs) same; shallow = subst P (sym same) c.requires }

pub bodies-loop-pending-smaller-in_default-split_first : goal.bodies-loop-pending-smaller-in_default-split_first
bodies-loop-pending-smaller-in_default-split_first t c = fewer_below c.args.plan.now.heads.procs.now c.loop-pending.stack.items c.pop.new.self.items c.in-Some.pending c.in-Some.ensures.items

pub bodies-loop-pending-preserved-in_default-split_first : goal.bodies-loop-pending-preserved-in_default-split_first
bodies-loop-pending-preserved-in_default-split_first t c =
    let procs : List Proc = c.args.plan.now.heads.procs.now in
    let same : left_on procs c.loop-pending.stack.items ≡ left_on procs c.pop.new.self.items =
    popped_none procs c.loop-pending.stack.items c.pop.new.self.items c.in-Some.pending c.in-Some.ensures.items (c.in_default-split_first.ensures.left procs) in
    record {
      whole = ap (λ (xs : List Act). map act_of c.loop-pending.written ++ xs) (sym same) ∙ c.loop-pending.invariant.whole;
      shallow = omega (arith, c.loop-pending.invariant.shallow, ap (λ (xs : List Act). acts_depth (acts xs)) same);
    }

pub bodies-statement-requires : goal.bodies-statement-requires
bodies-statement-requires t c =
    let procs : List Proc = c.args.plan.now.heads.procs.now in
    let rest : Pending = c.in-Some-split_first.rest in
    let front : List Act = expanded_act (take rest.count (bodies_of procs)) (hiding_of rest.hidden) (act_of c.in-Some-split_first.stmt.now) in (
      first_of (omega arith, search rules),
      front_depth front (acts_left procs rest) (left_on procs c.pop.new.self.items) (left_on procs c.loop-pending.stack.items) c.args.depth
          (popped procs c.loop-pending.stack.items c.pop.new.self.items c.in-Some.pending rest front c.in-Some.ensures.items (c.in-Some-split_first.ensures.left procs))
          c.loop-pending.invariant.shallow,
    )

pub bodies-loop-pending-smaller : goal.bodies-loop-pending-smaller
bodies-loop-pending-smaller t c =
    let procs : List Proc = c.args.plan.now.heads.procs.now in
    fewer procs c.loop-pending.stack.items c.pop.new.self.items c.in-Some.pending c.in-Some-split_first.rest _ _ _ c.in-Some.ensures.items (c.in-Some-split_first.ensures.steps procs)
    c.in_ok-body.ensures.steps (c.in_ok-push_next.ensures.steps procs)

pub bodies-loop-pending-preserved : goal.bodies-loop-pending-preserved
bodies-loop-pending-preserved t c =
    let procs : List Proc = c.args.plan.now.heads.procs.now in
    let rest : Pending = c.in-Some-split_first.rest in
    let front : List Act = expanded_act (take rest.count (bodies_of procs)) (hiding_of rest.hidden) (act_of c.in-Some-split_first.stmt.now) in
    let body : List Act = left_if procs c.in_ok-body.body in
    let below : List Act = left_on procs c.pop.new.self.items in
    let stack : List Act = left_on procs c.loop-pending.stack.items in
    let top : List Act = left_on procs c.push_next.new.stack.items in
    let are : stack ≡ (front ++ acts_left procs rest) ++ below =
    popped procs c.loop-pending.stack.items c.pop.new.self.items c.in-Some.pending rest front c.in-Some.ensures.items (c.in-Some-split_first.ensures.left procs) in
    let tops : top ≡ body ++ (acts_left procs rest ++ below) = c.in_ok-push_next.ensures.left procs in
    record {
      whole = stack_next front (acts_left procs rest) below body (map act_of c.loop-pending.written) (map act_of c.statement.new.written) stack top are tops c.in_ok-body.ensures.wrote
          ∙ c.loop-pending.invariant.whole;
      shallow = top_depth front (acts_left procs rest) below body stack top c.args.depth are tops c.loop-pending.invariant.shallow c.in_ok-body.ensures.shallow;
    }

pub block-returns-in_err-body : goal.block-returns-in_err-body
block-returns-in_err-body t c = rw (failed c.from_residual.result c.in_err-body.field-0.0 c.from_residual.ensures.1) tt

pub block-returns-in_err-bodies : goal.block-returns-in_err-bodies
block-returns-in_err-bodies t c = rw (failed c.from_residual-in_err-bodies.result c.in_err-bodies.field-0.0 c.from_residual-in_err-bodies.ensures.1) tt

pub bodies-returns-in_err-push_if : goal.bodies-returns-in_err-push_if
bodies-returns-in_err-push_if t c = rw (failed c.from_residual.result c.in_err-push_if.field-0.0 c.from_residual.ensures.1) tt

pub bodies-returns-in_err-body : goal.bodies-returns-in_err-body
bodies-returns-in_err-body t c = rw (failed c.from_residual-in_err-body.result c.in_err-body.field-0.0 c.from_residual-in_err-body.ensures.1) tt

pub bodies-returns-in_err-push_next : goal.bodies-returns-in_err-push_next
bodies-returns-in_err-push_next t c = rw (failed c.from_residual-in_err-push_next.result c.in_err-push_next.field-0.0 c.from_residual-in_err-push_next.ensures.1) tt

pub statement-returns-in_err-simple-in-Set : goal.statement-returns-in_err-simple-in-Set
statement-returns-in_err-simple-in-Set t c =
    let is = failed c.from_residual-in_err-simple-in-Set.result c.in_err-simple-in-Set.field-0.0 c.from_residual-in_err-simple-in-Set.ensures.1 in
    record { wrote = rw is tt; shallow = rw is tt; steps = rw is tt }

pub statement-returns-in_err-body-in-If-default-default-None : goal.statement-returns-in_err-body-in-If-default-default-None
statement-returns-in_err-body-in-If-default-default-None t c =
    let is = failed c.from_residual.result c.in_err-body-in-If-default-default-None.field-0.0 c.from_residual.ensures.1 in
    record { wrote = rw is tt; shallow = rw is tt; steps = rw is tt }

pub statement-returns-in_err-if_then-in-If-default-default-None : goal.statement-returns-in_err-if_then-in-If-default-default-None
statement-returns-in_err-if_then-in-If-default-default-None t c =
    let is = failed c.from_residual-in_err-if_then-in-If-default-default-None.result c.in_err-if_then-in-If-default-default-None.field-0.0 c.from_residual-in_err-if_then-in-If-default-default-None.ensures.1 in
    record { wrote = rw is tt; shallow = rw is tt; steps = rw is tt }

pub statement-returns-in_err-body-in-If-default-default-Some : goal.statement-returns-in_err-body-in-If-default-default-Some
statement-returns-in_err-body-in-If-default-default-Some t c =
    let is = failed c.from_residual-in_err-body-in-If-default-default-Some.result c.in_err-body-in-If-default-default-Some.field-0.0 c.from_residual-in_err-body-in-If-default-default-Some.ensures.1 in
    record { wrote = rw is tt; shallow = rw is tt; steps = rw is tt }

pub statement-returns-in_err-other-in-If-default-default-Some : goal.statement-returns-in_err-other-in-If-default-default-Some
statement-returns-in_err-other-in-If-default-default-Some t c =
    let is = failed c.from_residual-in_err-other-in-If-default-default-Some.result c.in_err-other-in-If-default-default-Some.field-0.0 c.from_residual-in_err-other-in-If-default-default-Some.ensures.1 in
    record { wrote = rw is tt; shallow = rw is tt; steps = rw is tt }

pub statement-returns-in_err-if_else-in-If-default-default-Some : goal.statement-returns-in_err-if_else-in-If-default-default-Some
statement-returns-in_err-if_else-in-If-default-default-Some t c =
    let is = failed c.from_residual-in_err-if_else-in-If-default-default-Some.result c.in_err-if_else-in-If-default-default-Some.field-0.0 c.from_residual-in_err-if_else-in-If-default-default-Some.ensures.1 in
    record { wrote = rw is tt; shallow = rw is tt; steps = rw is tt }

pub statement-returns-in_err-body-in-For : goal.statement-returns-in_err-body-in-For
statement-returns-in_err-body-in-For t c =
    let is = failed c.from_residual-in_err-body-in-For.result c.in_err-body-in-For.field-0.0 c.from_residual-in_err-body-in-For.ensures.1 in
    record { wrote = rw is tt; shallow = rw is tt; steps = rw is tt }

pub statement-returns-in_err-for_next-in-For : goal.statement-returns-in_err-for_next-in-For
statement-returns-in_err-for_next-in-For t c =
    let is = failed c.from_residual-in_err-for_next-in-For.result c.in_err-for_next-in-For.field-0.0 c.from_residual-in_err-for_next-in-For.ensures.1 in
    record { wrote = rw is tt; shallow = rw is tt; steps = rw is tt }

pub statement-returns-in_err-body-in-While : goal.statement-returns-in_err-body-in-While
statement-returns-in_err-body-in-While t c =
    let is = failed c.from_residual-in_err-body-in-While.result c.in_err-body-in-While.field-0.0 c.from_residual-in_err-body-in-While.ensures.1 in
    record { wrote = rw is tt; shallow = rw is tt; steps = rw is tt }

pub statement-returns-in_err-while_do-in-While : goal.statement-returns-in_err-while_do-in-While
statement-returns-in_err-while_do-in-While t c =
    let is = failed c.from_residual-in_err-while_do-in-While.result c.in_err-while_do-in-While.field-0.0 c.from_residual-in_err-while_do-in-While.ensures.1 in
    record { wrote = rw is tt; shallow = rw is tt; steps = rw is tt }

pub statement-returns-in-Run-clause-wrote : goal.statement-returns-in-Run-clause-wrote
statement-returns-in-Run-clause-wrote t c =
    let procs : List Proc = c.args.plan.now.heads.procs.now in
    let known : List (List ℕ × Callee) = take c.args.count (bodies_of procs) in
    let P : Act → Type 0 = λ a. IfOk c.call.result (λ (body : Option Pending). map act_of c.call.new.written ++ left_if procs body ≡ map act_of c.args.written.now ++ expanded_act known (hiding_of c.args.hidden.now) a) in
    subst P (sym (ap act_of c.in-Run.is ∙ act_run_procedure c.in-Run.name c.in-Run.args)) c.call.ensures.wrote

pub statement-returns-in-Run-clause-shallow : goal.statement-returns-in-Run-clause-shallow
statement-returns-in-Run-clause-shallow t c =
    let procs : List Proc = c.args.plan.now.heads.procs.now in
    let known : List (List ℕ × Callee) = take c.args.count (bodies_of procs) in
    let P : Act → Type 0 = λ a. acts_depth (acts (expanded_act known (hiding_of c.args.hidden.now) a)) ≤ c.args.depth in
    within_more c.call.result (λ (body : Option Pending). acts_depth (acts (left_if procs body))) (acts_depth (acts (expanded_act known (hiding_of c.args.hidden.now) (run_procedure c.in-Run.name (trees_of c.in-Run.args)))))
    c.args.depth (subst P (ap act_of c.in-Run.is ∙ act_run_procedure c.in-Run.name c.in-Run.args) c.requires) c.call.ensures.shallow

pub statement-returns-in-Run-clause-steps : goal.statement-returns-in-Run-clause-steps
statement-returns-in-Run-clause-steps t c =
    let procs : List Proc = c.args.plan.now.heads.procs.now in
    let known : List (List ℕ × ℕ) = take c.args.count (steps_of_bodies procs) in
    let P : Act → Type 0 = λ a. IfOk c.call.result (λ (body : Option Pending). steps_if procs body < act_steps known a) in
    subst P (sym (ap act_of c.in-Run.is ∙ act_run_procedure c.in-Run.name c.in-Run.args)) c.call.ensures.steps
