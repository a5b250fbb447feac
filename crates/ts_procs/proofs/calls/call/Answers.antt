use Rattle.std.proofs.Common.{◌≡◌, ◌≤◌, ◌<◌, ◌+◌, ◌++◌, ◌∙◌, List, [], ℕ, Option, ap, sym, subst, length, map, take, min}
use Rattle.std.specs.Prelude.{unwrap_or}
use Rattle.ts_trees.specs.declared.expr.Expr.{Expr}
use Rattle.ts_trees.specs.declared.procedure.Proc.{Proc}
use Rattle.ts_trees.specs.declared.stmt.Stmt.{Stmt}
use Rattle.ts_trees.specs.Seen.{act_of, acts_of, trees_of, procedure_of}
use Rattle.ts_proc_names.specs.Heads.{parameter_count}
use Rattle.ts_proc_names.specs.Places.{declared_as}
use Rattle.ts_proc_expansion.specs.declared.extent.Extent.{Extent}
use Rattle.ts_proc_renaming.specs.Renaming.{assigned}
use Rattle.ts_proc_expansion.specs.Expansion.{Callee, callee, body_called}
use Rattle.ts_proc_expansion.specs.Extents.{extent_of}
use Rattle.ts_proc_renaming.specs.Hidden.{hiding_of}
use Rattle.ts_procs.specs.Pending.{body_steps, acts_steps, steps_of_bodies}
use Rattle.ts_proc_expansion.specs.Plan.{bodies_of}
use Rattle.ts_proc_expansion.proofs.InOrderLemmas.{none_named, one_named}
use Rattle.ts_proc_expansion.proofs.CalleeLemmas.{count_before, first_at, firsts-within, fits_all, params_fit, args_fit}
use Rattle.ts_proc_renaming.proofs.WrittenLemmas.{failed}
use Rattle.ts_proc_expansion.proofs.ExtentLemmas.{extents-within, extents-at, none_counted}
use Rattle.ts_proc_expansion.proofs.CalledLemmas.{call_written, body_left, hides}
use Rattle.ts_procs.proofs.WritingLemmas.{called_shallow, called_steps}
use Rattle.ts_procs.proofs.calls.call.Goals as goal

pub returns-in_default-clause-wrote : goal.returns-in_default-clause-wrote
returns-in_default-clause-wrote c =
    ap (λ (o : Option Callee). map act_of c.args.written.now ++ body_called (hiding_of c.args.hidden.now) c.args.name.now (trees_of c.args.args.now) o)
    (sym (none_named callee c.args.plan.now.heads.procs.now c.args.count c.args.name.now.name c.in_default.ensures.value))

pub index-first-requires : goal.index-first-requires
index-first-requires c =
    let h : c.in-Some.place < length c.args.plan.now.firsts.items =
    firsts-within c.args.plan.now.heads.procs.now c.args.plan.now.firsts.items c.in-Some.place c.args.plan.now.numbered c.in-Some.ensures.within in
    let len : c.args.plan.now.firsts.len ≡ length c.args.plan.now.firsts.items = c.args.plan.now.firsts.ok.0 in
    let P : ℕ → Type 0 = λ n. c.in-Some.place < n in
    subst P (sym len) h

pub assignments-requires : goal.assignments-requires
assignments-requires c =
    let procs : List Proc = c.args.plan.now.heads.procs.now in
    let p : Proc = c.index-plan-place.result in
    let number : c.index-first.result.now ≡ count_before procs c.in-Some.place =
    first_at procs c.in-Some.place p c.args.plan.now.firsts.items c.index-first.result.now c.args.plan.now.numbered c.in-Some.ensures.within c.index-plan-place.is c.index-first.ensures in
    let params : length c.as_slice-params.result.now ≡ length p.params = ap length c.as_slice-params.ensures ∙ ap (λ (q : Proc). length q.params) (sym c.index-plan-place.is) in
    let fits : count_before procs c.in-Some.place + length p.params ≤ parameter_count (map procedure_of procs) = fits_all procs c.in-Some.place p c.in-Some.ensures.within c.index-plan-place.is in
    args_fit c.index-first.result.now (count_before procs c.in-Some.place) c.min.result (length c.as_slice-args.result.now) (length c.as_slice-params.result.now) (length p.params)
    (parameter_count (map procedure_of procs)) c.as_slice-args.result.now number params fits c.args.plan.now.few c.min.ensures

pub index-requires : goal.index-requires
index-requires c =
    let h : c.in-Some.place < length c.args.plan.now.extents.items =
    extents-within c.args.plan.now.heads.procs.now c.args.plan.now.extents.items c.in-Some.place c.args.plan.now.measured c.in-Some.ensures.within in
    let len : c.args.plan.now.extents.len ≡ length c.args.plan.now.extents.items = c.args.plan.now.extents.ok.0 in
    let P : ℕ → Type 0 = λ n. c.in-Some.place < n in
    subst P (sym len) h

pub returns-then-index-eq0-clause-wrote : goal.returns-then-index-eq0-clause-wrote
returns-then-index-eq0-clause-wrote c =
    let procs : List Proc = c.args.plan.now.heads.procs.now in
    let p : Proc = c.index-plan-place.result in
    let this : Callee = callee (take c.in-Some.place (bodies_of procs)) (procedure_of p) in
    let params : length c.as_slice-params.result.now ≡ length p.params = ap length c.as_slice-params.ensures ∙ ap (λ (q : Proc). length q.params) (sym c.index-plan-place.is) in
    let extent : c.index.result.now ≡ extent_of this.body =
    extents-at procs c.args.plan.now.extents.items c.in-Some.place p c.index.result.now c.args.plan.now.measured c.in-Some.ensures.within c.index-plan-place.is c.index.ensures in
    let empty : this.body ≡ [] = none_counted this.body (sym (ap (λ (e : Extent). e.count) extent) ∙ c.if-index-eq0.true) in
    call_written (hiding_of c.args.hidden.now) c.args.name.now c.args.args.now this
    (declared_as (take c.args.count (bodies_of procs)) c.args.name.now.name) c.index-first.result.now c.min.result [] (map act_of c.args.written.now) (map act_of c.assignments.new.written)
    (one_named callee procs c.args.count c.args.name.now.name c.in-Some.place p c.in-Some.ensures.value c.in-Some.ensures.below c.in-Some.ensures.within c.index-plan-place.is)
    (first_at procs c.in-Some.place p c.args.plan.now.firsts.items c.index-first.result.now c.args.plan.now.numbered c.in-Some.ensures.within c.index-plan-place.is c.index-first.ensures)
    (c.min.ensures ∙ ap (λ (xs : List Expr). min (length xs) (length c.as_slice-params.result.now)) c.as_slice-args.ensures ∙ ap (min (length c.args.args.now)) params)
    (sym empty)
    (c.in_ok-assignments.ensures ∙ ap (λ (xs : List Expr). map act_of c.args.written.now ++ assigned (hiding_of c.args.hidden.now) c.args.name.now.place c.index-first.result.now (trees_of (take c.min.result xs))) c.as_slice-args.ensures)

pub of-requires : goal.of-requires
of-requires c =
    let procs : List Proc = c.args.plan.now.heads.procs.now in
    let p : Proc = c.index-plan-place.result in
    let number : c.index-first.result.now ≡ count_before procs c.in-Some.place =
    first_at procs c.in-Some.place p c.args.plan.now.firsts.items c.index-first.result.now c.args.plan.now.numbered c.in-Some.ensures.within c.index-plan-place.is c.index-first.ensures in
    let params : length c.as_slice-params.result.now ≡ length p.params = ap length c.as_slice-params.ensures ∙ ap (λ (q : Proc). length q.params) (sym c.index-plan-place.is) in
    let fits : count_before procs c.in-Some.place + length p.params ≤ parameter_count (map procedure_of procs) = fits_all procs c.in-Some.place p c.in-Some.ensures.within c.index-plan-place.is in
    params_fit c.index-first.result.now (count_before procs c.in-Some.place) (length c.as_slice-params.result.now) (length p.params) (parameter_count (map procedure_of procs))
    number params fits c.args.plan.now.few

pub returns-clause-wrote : goal.returns-clause-wrote
returns-clause-wrote c =
    let procs : List Proc = c.args.plan.now.heads.procs.now in
    let p : Proc = c.index-plan-place.result in
    let this : Callee = callee (take c.in-Some.place (bodies_of procs)) (procedure_of p) in
    let number : c.index-first.result.now ≡ count_before procs c.in-Some.place =
    first_at procs c.in-Some.place p c.args.plan.now.firsts.items c.index-first.result.now c.args.plan.now.numbered c.in-Some.ensures.within c.index-plan-place.is c.index-first.ensures in
    let are : c.as_slice-params.result.now ≡ p.params = c.as_slice-params.ensures ∙ ap (λ (q : Proc). q.params) (sym c.index-plan-place.is) in
    call_written (hiding_of c.args.hidden.now) c.args.name.now c.args.args.now this
    (declared_as (take c.args.count (bodies_of procs)) c.args.name.now.name) c.index-first.result.now c.min.result _ (map act_of c.args.written.now) (map act_of c.assignments.new.written)
    (one_named callee procs c.args.count c.args.name.now.name c.in-Some.place p c.in-Some.ensures.value c.in-Some.ensures.below c.in-Some.ensures.within c.index-plan-place.is)
    number
    (c.min.ensures ∙ ap (λ (xs : List Expr). min (length xs) (length c.as_slice-params.result.now)) c.as_slice-args.ensures ∙ ap (min (length c.args.args.now)) (ap length are))
    (body_left procs c.in-Some.place p c.as_slice.result.now (hiding_of c.in_ok-of.field-0)
    (c.in_ok-of.ensures ∙ ap (λ n. hides n c.as_slice-params.result.now) number ∙ ap (hides (count_before procs c.in-Some.place)) are)
    (c.as_slice.ensures ∙ ap (λ (q : Proc). q.body) (sym c.index-plan-place.is)))
    (c.in_ok-assignments.ensures ∙ ap (λ (xs : List Expr). map act_of c.args.written.now ++ assigned (hiding_of c.args.hidden.now) c.args.name.now.place c.index-first.result.now (trees_of (take c.min.result xs))) c.as_slice-args.ensures)

pub returns-clause-steps : goal.returns-clause-steps
returns-clause-steps c =
    let procs : List Proc = c.args.plan.now.heads.procs.now in
    let p : Proc = c.index-plan-place.result in
    let known : List (List ℕ × ℕ) = take c.in-Some.place (steps_of_bodies procs) in
    let there : unwrap_or (declared_as (take c.args.count (steps_of_bodies procs)) c.args.name.now.name) 0 ≡ acts_steps known (acts_of p.body) =
    ap (λ (o : Option ℕ). unwrap_or o 0)
    (one_named body_steps procs c.args.count c.args.name.now.name c.in-Some.place p c.in-Some.ensures.value c.in-Some.ensures.below c.in-Some.ensures.within c.index-plan-place.is) in
    let here : acts_steps known (acts_of c.as_slice.result.now) ≡ acts_steps known (acts_of p.body) =
    ap (λ (ss : List Stmt). acts_steps known (acts_of ss)) (c.as_slice.ensures ∙ ap (λ (q : Proc). q.body) (sym c.index-plan-place.is)) in
    called_steps (acts_steps known (acts_of c.as_slice.result.now)) (unwrap_or (declared_as (take c.args.count (steps_of_bodies procs)) c.args.name.now.name) 0)
    (acts_steps known (acts_of p.body)) here there

pub returns-clause-shallow : goal.returns-clause-shallow
returns-clause-shallow c =
    let procs : List Proc = c.args.plan.now.heads.procs.now in
    let p : Proc = c.index-plan-place.result in
    let number : c.index-first.result.now ≡ count_before procs c.in-Some.place =
    first_at procs c.in-Some.place p c.args.plan.now.firsts.items c.index-first.result.now c.args.plan.now.numbered c.in-Some.ensures.within c.index-plan-place.is c.index-first.ensures in
    let are : c.as_slice-params.result.now ≡ p.params = c.as_slice-params.ensures ∙ ap (λ (q : Proc). q.params) (sym c.index-plan-place.is) in
    called_shallow (hiding_of c.args.hidden.now) c.args.name.now (trees_of c.args.args.now) (callee (take c.in-Some.place (bodies_of procs)) (procedure_of p))
    (declared_as (take c.args.count (bodies_of procs)) c.args.name.now.name) _
    (one_named callee procs c.args.count c.args.name.now.name c.in-Some.place p c.in-Some.ensures.value c.in-Some.ensures.below c.in-Some.ensures.within c.index-plan-place.is)
    (body_left procs c.in-Some.place p c.as_slice.result.now (hiding_of c.in_ok-of.field-0)
    (c.in_ok-of.ensures ∙ ap (λ n. hides n c.as_slice-params.result.now) number ∙ ap (hides (count_before procs c.in-Some.place)) are)
    (c.as_slice.ensures ∙ ap (λ (q : Proc). q.body) (sym c.index-plan-place.is)))

pub returns-in_err-assignments : goal.returns-in_err-assignments
returns-in_err-assignments c =
    let is = failed c.from_residual.result c.in_err-assignments.field-0.0 c.from_residual.ensures.1 in
    record { wrote = rw is tt; shallow = rw is tt; steps = rw is tt }

pub returns-in_err-of : goal.returns-in_err-of
returns-in_err-of c =
    let is = failed c.from_residual-in_err-of.result c.in_err-of.field-0.0 c.from_residual-in_err-of.ensures.1 in
    record { wrote = rw is tt; shallow = rw is tt; steps = rw is tt }
