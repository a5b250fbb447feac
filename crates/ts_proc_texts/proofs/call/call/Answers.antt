use Rattle.std.proofs.Common.{◌≡◌, ◌≤◌, ◌<◌, ◌+◌, ◌∙◌, List, ℕ, Option, ap, sym, subst, length, map, take, min}
use Rattle.ts_trees.specs.declared.expr.Expr.{Expr}
use Rattle.ts_trees.specs.declared.procedure.Proc.{Proc}
use Rattle.ts_trees.specs.Seen.{acts, trees_of, procedure_of}
use Rattle.ts_trees.specs.Spelling.{acts_spelled}
use Rattle.ts_proc_names.specs.Heads.{parameter_count}
use Rattle.ts_proc_names.specs.Places.{declared_as}
use Rattle.ts_proc_renaming.specs.Renaming.{assigned}
use Rattle.ts_proc_expansion.specs.Expansion.{Callee, callee, body_called}
use Rattle.ts_proc_expansion.specs.Plan.{bodies_of}
use Rattle.ts_proc_expansion.proofs.InOrderLemmas.{none_named, one_named}
use Rattle.ts_proc_expansion.proofs.CalleeLemmas.{count_before, first_at, firsts-within, fits_all, args_fit}
use Rattle.ts_syntax.proofs.PrintLemmas.{tokens_by}
use Rattle.ts_proc_texts.specs.Hidings.{hiding_at}
use Rattle.ts_proc_texts.specs.Size.{body_size, sizes_of_bodies}
use Rattle.ts_proc_texts.proofs.CallLemmas.{called_tokens, called_smaller}
use Rattle.ts_proc_texts.proofs.ProgressLemmas.{all_left, up_to}
use Rattle.ts_proc_texts.proofs.call.call.Goals as goal

pub returns-in_default-clause-prints : goal.returns-in_default-clause-prints
returns-in_default-clause-prints g c =
    let procs : List Proc = c.args.bodies.now.plan.heads.procs.now in
    all_left (ap (λ (o : Option Callee). acts_spelled (acts (body_called (hiding_at procs c.args.count) c.args.name.now (trees_of c.args.args.now) o)))
    (none_named callee procs c.args.count c.args.name.now.name c.in_default.ensures.value))

pub index-first-requires : goal.index-first-requires
index-first-requires g c =
    let firsts = c.args.bodies.now.plan.firsts in
    let h : c.in-Some.place < length firsts.items =
    firsts-within c.args.bodies.now.plan.heads.procs.now firsts.items c.in-Some.place c.args.bodies.now.plan.numbered c.in-Some.ensures.within in
    let len : firsts.len ≡ length firsts.items = firsts.ok.0 in
    let P : ℕ → Type 0 = λ n. c.in-Some.place < n in
    subst P (sym len) h

pub assignments-requires : goal.assignments-requires
assignments-requires g c =
    let procs : List Proc = c.args.bodies.now.plan.heads.procs.now in
    let p : Proc = c.index-bodies-place.result in
    let number : c.index-first.result.now ≡ count_before procs c.in-Some.place =
    first_at procs c.in-Some.place p c.args.bodies.now.plan.firsts.items c.index-first.result.now c.args.bodies.now.plan.numbered c.in-Some.ensures.within c.index-bodies-place.is c.index-first.ensures in
    let params : length c.as_slice-params.result.now ≡ length p.params = ap length c.as_slice-params.ensures ∙ ap (λ (q : Proc). length q.params) (sym c.index-bodies-place.is) in
    let fits : count_before procs c.in-Some.place + length p.params ≤ parameter_count (map procedure_of procs) = fits_all procs c.in-Some.place p c.in-Some.ensures.within c.index-bodies-place.is in
    args_fit c.index-first.result.now (count_before procs c.in-Some.place) c.min.result (length c.as_slice-args.result.now) (length c.as_slice-params.result.now) (length p.params)
    (parameter_count (map procedure_of procs)) c.as_slice-args.result.now number params fits c.args.bodies.now.plan.few c.min.ensures

pub returns-clause-prints : goal.returns-clause-prints
returns-clause-prints g c =
    let procs : List Proc = c.args.bodies.now.plan.heads.procs.now in
    let p : Proc = c.index-bodies-place.result in
    let params : length c.as_slice-params.result.now ≡ length p.params = ap length c.as_slice-params.ensures ∙ ap (λ (q : Proc). length q.params) (sym c.index-bodies-place.is) in
    let whole =
    called_tokens procs (hiding_at procs c.args.count) c.args.name.now c.args.args.now (declared_as (take c.args.count (bodies_of procs)) c.args.name.now.name) c.in-Some.place p
    c.index-first.result.now c.min.result c.as_slice.result.now
    (one_named callee procs c.args.count c.args.name.now.name c.in-Some.place p c.in-Some.ensures.value c.in-Some.ensures.below c.in-Some.ensures.within c.index-bodies-place.is)
    c.in-Some.ensures.within c.index-bodies-place.is
    (first_at procs c.in-Some.place p c.args.bodies.now.plan.firsts.items c.index-first.result.now c.args.bodies.now.plan.numbered c.in-Some.ensures.within c.index-bodies-place.is c.index-first.ensures)
    (c.min.ensures ∙ ap (λ (xs : List Expr). min (length xs) (length c.as_slice-params.result.now)) c.as_slice-args.ensures ∙ ap (min (length c.args.args.now)) params)
    (c.as_slice.ensures ∙ ap (λ (q : Proc). q.body) (sym c.index-bodies-place.is)) in
    up_to whole
    (tokens_by (ap (λ (xs : List Expr). acts_spelled (acts (assigned (hiding_at procs c.args.count) c.args.name.now.place c.index-first.result.now (trees_of (take c.min.result xs)))))
    (sym c.as_slice-args.ensures)) c.assignments.ensures)

pub returns-clause-smaller : goal.returns-clause-smaller
returns-clause-smaller g c =
    let procs : List Proc = c.args.bodies.now.plan.heads.procs.now in
    let p : Proc = c.index-bodies-place.result in
    called_smaller procs (declared_as (take c.args.count (sizes_of_bodies procs)) c.args.name.now.name) c.in-Some.place p c.as_slice.result.now
    (one_named body_size procs c.args.count c.args.name.now.name c.in-Some.place p c.in-Some.ensures.value c.in-Some.ensures.below c.in-Some.ensures.within c.index-bodies-place.is)
    (c.as_slice.ensures ∙ ap (λ (q : Proc). q.body) (sym c.index-bodies-place.is))
