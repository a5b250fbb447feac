use Rattle.std.proofs.Common.{◌≡◌, ◌∙◌, List, Option, ap, sym, arith, length, take, get_or, min}
use Rattle.ts_trees.specs.declared.procedure.Proc.{Proc}
use Rattle.ts_trees.specs.Seen.{trees_of, procedure_of}
use Rattle.ts_proc_names.specs.NameFaults.{argument_total}
use Rattle.ts_proc_names.proofs.NameLemmas.{argument_total-trees_of}
use Rattle.ts_proc_expansion.specs.declared.extent.Extent.{Extent}
use Rattle.ts_proc_expansion.specs.Expansion.{Callee, callee, body_called}
use Rattle.ts_proc_expansion.specs.Extents.{extent_of}
use Rattle.ts_proc_expansion.specs.Plan.{bodies_of}
use Rattle.ts_proc_expansion.proofs.InOrderLemmas.{none_named, one_named}
use Rattle.ts_proc_expansion.proofs.ExtentLemmas.{call_measured, body_extents-within, body_extents-at-any}
use Rattle.ts_proc_expansion.proofs.extent.call_extent.Goals as goal

pub bounds-extents-place : goal.bounds-extents-place
bounds-extents-place c =
    body_extents-within c.args.heads.now.procs.now c.args.count c.args.extents.now c.in-Some.place c.requires c.in-Some.ensures.below c.in-Some.ensures.within

pub returns-in-None : goal.returns-in-None
returns-in-None c = λ h.
    c.of.ensures ∙ ap (λ (o : Option Callee). extent_of (body_called h c.args.name.now (trees_of c.args.args.now) o))
    (sym (none_named callee c.args.heads.now.procs.now c.args.count c.args.name.now.name c.in-None.ensures.value))

pub returns-in-Some : goal.returns-in-Some
returns-in-Some c = λ h.
    let procs : List Proc = c.args.heads.now.procs.now in
    let p : Proc = c.index-heads-place.result in
    let args : argument_total (trees_of c.args.args.now) ≡ length c.args.args.now = argument_total-trees_of c.args.args.now in
    let params : length (get_or procs c.in-Some.place p).params ≡ length p.params = ap (λ (q : Proc). length q.params) (sym c.index-heads-place.is) in
    let count : c.of-in-Some.result.count ≡ min (min (argument_total (trees_of c.args.args.now)) (length p.params)) 1000000 =
    omega (arith, args, params, ap (λ (e : Extent). e.count) c.of-in-Some.ensures, c.min.ensures, c.min-assigned.ensures, c.len.ensures, c.len-in-Some.ensures) in
    call_measured h c.args.name.now (trees_of c.args.args.now) (callee (take c.in-Some.place (bodies_of procs)) (procedure_of p))
    c.of-in-Some.result _ c.then.result count (ap (λ (e : Extent). e.depth) c.of-in-Some.ensures)
    (body_extents-at-any procs c.args.count c.args.extents.now c.in-Some.place p _ c.requires c.in-Some.ensures.below c.in-Some.ensures.within c.index-heads-place.is)
    c.then.ensures.count c.then.ensures.depth
    ∙ ap (λ (o : Option Callee). extent_of (body_called h c.args.name.now (trees_of c.args.args.now) o))
    (sym (one_named callee procs c.args.count c.args.name.now.name c.in-Some.place p c.in-Some.ensures.value c.in-Some.ensures.below c.in-Some.ensures.within c.index-heads-place.is))
