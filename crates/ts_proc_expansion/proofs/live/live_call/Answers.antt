use Rattle.std.proofs.Common.{◌≡◌, ◌≤◌, ◌<◌, ◌++◌, ◌∷◌, ◌∙◌, List, [], ℕ, ap, sym, subst, refl, length, map, take, get_or, Some, None, arith}
use Rattle.ts_trees.specs.declared.expr.Expr.{Expr}
use Rattle.ts_trees.specs.declared.procedure.Proc.{Proc}
use Rattle.ts_trees.specs.Seen.{act_of, trees_of, procedure_of}
use Rattle.ts_trees.specs.Tree.{run_procedure}
use Rattle.ts_proc_renaming.specs.Renaming.{renamed_args}
use Rattle.ts_proc_renaming.specs.Hidden.{hiding_of}
use Rattle.ts_proc_expansion.specs.declared.extent.Extent.{Extent}
use Rattle.ts_proc_expansion.specs.Expansion.{Callee, callee}
use Rattle.ts_proc_expansion.specs.Extents.{extent_of}
use Rattle.ts_proc_expansion.specs.Plan.{bodies_of}
use Rattle.ts_proc_expansion.specs.Targets.{IsTarget}
use Rattle.ts_proc_expansion.proofs.ExitLemmas.{on_ok}
use Rattle.ts_proc_expansion.proofs.ExtentLemmas.{extents-within, extents-at, none_counted}
use Rattle.ts_proc_expansion.proofs.InOrderLemmas.{none_named, one_named}
use Rattle.ts_proc_expansion.proofs.LiveLemmas.{adds_none, adds_run, nothing_called}
use Rattle.ts_proc_expansion.proofs.TargetLemmas.{target_of, run_instead}
use Rattle.ts_proc_expansion.proofs.live.live_call.Goals as goal

pub returns-in_default : goal.returns-in_default
returns-in_default c =
    let procs : List Proc = c.args.plan.now.heads.procs.now in
    adds_none (take c.args.count (bodies_of procs)) (map act_of c.args.live.now) c.args.name.now (trees_of c.args.args.now) None
    (sym (none_named callee procs c.args.count c.args.name.now.name c.in_default.ensures.value)) (λ h. refl)

pub index-requires : goal.index-requires
index-requires c =
    let h : c.in-Some.place < length c.args.plan.now.extents.items =
    extents-within c.args.plan.now.heads.procs.now c.args.plan.now.extents.items c.in-Some.place c.args.plan.now.measured c.in-Some.ensures.within in
    let len : c.args.plan.now.extents.len ≡ length c.args.plan.now.extents.items = c.args.plan.now.extents.ok.0 in
    let P : ℕ → Type 0 = λ n. c.in-Some.place < n in
    subst P (sym len) h

pub returns-then-index-eq0 : goal.returns-then-index-eq0
returns-then-index-eq0 c =
    let procs : List Proc = c.args.plan.now.heads.procs.now in
    let p : Proc = c.index-plan-place.result in
    let this : Callee = callee (take c.in-Some.place (bodies_of procs)) (procedure_of p) in
    let extent : c.index.result.now ≡ extent_of this.body =
    extents-at procs c.args.plan.now.extents.items c.in-Some.place p c.index.result.now c.args.plan.now.measured c.in-Some.ensures.within c.index-plan-place.is c.index.ensures in
    let empty : this.body ≡ [] = none_counted this.body (sym (ap (λ (e : Extent). e.count) extent) ∙ c.if-index-eq0.true) in
    let params : length p.params ≡ c.len.result = ap (λ (q : Proc). length q.params) c.index-plan-place.is ∙ sym c.len.ensures in
    let bare : length p.params ≡ 0 = omega (arith, params, c.if-len-gt0.false) in
    adds_none (take c.args.count (bodies_of procs)) (map act_of c.args.live.now) c.args.name.now (trees_of c.args.args.now) (Some this)
    (sym (one_named callee procs c.args.count c.args.name.now.name c.in-Some.place p c.in-Some.ensures.value c.in-Some.ensures.below c.in-Some.ensures.within c.index-plan-place.is))
    (λ h. nothing_called h c.args.name.now (trees_of c.args.args.now) this bare empty)

pub proc_at-proc-requires : goal.proc_at-proc-requires
proc_at-proc-requires c =
    let target : IsTarget c.args.plan.now.heads.procs.now c.in-Some.place (get_or c.args.targets.now c.in-Some.place 0) =
    target_of c.args.plan.now.heads.procs.now c.args.targets.now c.in-Some.place c.args.count c.requires.are c.in-Some.ensures.below c.requires.each in
    target.within

pub returns-then-len-gt0 : goal.returns-then-len-gt0
returns-then-len-gt0 c =
    let known : List (List ℕ × Callee) = take c.args.count (bodies_of c.args.plan.now.heads.procs.now) in
    on_ok c.run.result (λ is. adds_run known (hiding_of c.args.hidden.now) c.requires.hides (map act_of c.args.live.now) (map act_of c.run.new.written) c.args.name.now c.args.name.now
    (trees_of c.args.args.now) (λ h. refl) (is ∙ ap (λ (es : List Expr). map act_of c.args.live.now ++ run_procedure c.args.name.now (renamed_args (hiding_of c.args.hidden.now) (trees_of es)) ∷ []) c.as_slice.ensures)) c.run.ensures

pub returns-then-len-gt0-2 : goal.returns-then-len-gt0-2
returns-then-len-gt0-2 c =
    let known : List (List ℕ × Callee) = take c.args.count (bodies_of c.args.plan.now.heads.procs.now) in
    on_ok c.run-then-len-gt0-2.result (λ is. adds_run known (hiding_of c.args.hidden.now) c.requires.hides (map act_of c.args.live.now) (map act_of c.run-then-len-gt0-2.new.written) c.args.name.now c.args.name.now
    (trees_of c.args.args.now) (λ h. refl) (is ∙ ap (λ (es : List Expr). map act_of c.args.live.now ++ run_procedure c.args.name.now (renamed_args (hiding_of c.args.hidden.now) (trees_of es)) ∷ []) c.as_slice-then-len-gt0-2.ensures)) c.run-then-len-gt0-2.ensures

pub returns-in_default-place : goal.returns-in_default-place
returns-in_default-place c =
    let known : List (List ℕ × Callee) = take c.args.count (bodies_of c.args.plan.now.heads.procs.now) in
    on_ok c.run-in_default-place.result (λ is. adds_run known (hiding_of c.args.hidden.now) c.requires.hides (map act_of c.args.live.now) (map act_of c.run-in_default-place.new.written) c.args.name.now c.args.name.now
    (trees_of c.args.args.now) (λ h. refl) (is ∙ ap (λ (es : List Expr). map act_of c.args.live.now ++ run_procedure c.args.name.now (renamed_args (hiding_of c.args.hidden.now) (trees_of es)) ∷ []) c.as_slice-in_default-place.ensures)) c.run-in_default-place.ensures

pub returns-then-named-target : goal.returns-then-named-target
returns-then-named-target c =
    let known : List (List ℕ × Callee) = take c.args.count (bodies_of c.args.plan.now.heads.procs.now) in
    on_ok c.run-then-named-target.result (λ is. adds_run known (hiding_of c.args.hidden.now) c.requires.hides (map act_of c.args.live.now) (map act_of c.run-then-named-target.new.written) c.args.name.now c.args.name.now
    (trees_of c.args.args.now) (λ h. refl) (is ∙ ap (λ (es : List Expr). map act_of c.args.live.now ++ run_procedure c.args.name.now (renamed_args (hiding_of c.args.hidden.now) (trees_of es)) ∷ []) c.as_slice-then-named-target.ensures)) c.run-then-named-target.ensures

pub returns : goal.returns
returns c =
    let procs : List Proc = c.args.plan.now.heads.procs.now in
    let known : List (List ℕ × Callee) = take c.args.count (bodies_of procs) in
    let same : c.in-Some-place.named ≡ get_or c.args.targets.now c.in-Some.place 0 = omega (arith, c.if-named-target.false) in
    let target : IsTarget procs c.in-Some.place c.in-Some-place.named =
    subst (IsTarget procs c.in-Some.place) (sym same) (target_of procs c.args.targets.now c.in-Some.place c.args.count c.requires.are c.in-Some.ensures.below c.requires.each) in
    let there : c.proc_at-proc.result.now ≡ get_or procs c.in-Some-place.named c.proc_at-proc.result.now =
    c.proc_at-proc.ensures ∙ ap (λ i. get_or procs i c.proc_at-proc.result.now) (sym same) in
    let params : length c.index-plan-place.result.params ≡ c.len.result = ap (λ (q : Proc). length q.params) c.index-plan-place.is ∙ sym c.len.ensures in
    let bare : length c.index-plan-place.result.params ≡ 0 = omega (arith, params, c.if-len-gt0.false) in
    let bare' : length c.proc_at-proc.result.now.params ≡ 0 = omega (arith, c.len-2.ensures, c.if-len-gt0-2.false) in
    on_ok c.run-2.result (λ is. adds_run known (hiding_of c.args.hidden.now) c.requires.hides (map act_of c.args.live.now) (map act_of c.run-2.new.written) c.args.name.now c.proc_at-proc.result.now.name
    (trees_of c.args.args.now)
    (λ h. run_instead procs c.args.count h c.args.name.now c.proc_at-proc.result.now.name (trees_of c.args.args.now) c.in-Some.place c.in-Some-place.named c.index-plan-place.result c.proc_at-proc.result.now
    c.in-Some.ensures.value c.in-Some.ensures.below c.in-Some.ensures.within c.index-plan-place.is bare
    c.in-Some-place.ensures.value c.in-Some-place.ensures.below c.in-Some-place.ensures.within there bare' target)
    (is ∙ ap (λ (es : List Expr). map act_of c.args.live.now ++ run_procedure c.proc_at-proc.result.now.name (renamed_args (hiding_of c.args.hidden.now) (trees_of es)) ∷ []) c.as_slice-2.ensures)) c.run-2.ensures
