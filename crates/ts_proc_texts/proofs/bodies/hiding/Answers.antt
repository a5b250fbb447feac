use Rattle.std.proofs.Common.{◌≡◌, ◌≤◌, ◌<◌, ◌+◌, ◌∙◌, ℕ, List, ap, sym, subst, length, map}
use Rattle.ts_trees.specs.declared.procedure.Proc.{Proc}
use Rattle.ts_trees.specs.Seen.{procedure_of}
use Rattle.ts_proc_names.specs.Heads.{parameter_count}
use Rattle.ts_proc_expansion.proofs.CalleeLemmas.{count_before, first_at, firsts-within, fits_all, params_fit}
use Rattle.ts_proc_expansion.proofs.CalledLemmas.{hides}
use Rattle.ts_proc_texts.proofs.HidingLemmas.{hiding_at-place}
use Rattle.ts_proc_texts.proofs.bodies.hiding.Goals as goal

pub index-requires : goal.index-requires
index-requires c =
    let h : c.args.place < length c.args.plan.now.firsts.items =
    firsts-within c.args.plan.now.heads.procs.now c.args.plan.now.firsts.items c.args.place c.args.plan.now.numbered c.requires.within in
    let len : c.args.plan.now.firsts.len ≡ length c.args.plan.now.firsts.items = c.args.plan.now.firsts.ok.0 in
    let P : ℕ → Type 0 = λ n. c.args.place < n in
    subst P (sym len) h

pub of-requires : goal.of-requires
of-requires c =
    let procs : List Proc = c.args.plan.now.heads.procs.now in
    let p : Proc = c.args.proc.now in
    let number : c.index.result.now ≡ count_before procs c.args.place =
    first_at procs c.args.place p c.args.plan.now.firsts.items c.index.result.now c.args.plan.now.numbered c.requires.within c.requires.is c.index.ensures in
    let fits : count_before procs c.args.place + length p.params ≤ parameter_count (map procedure_of procs) = fits_all procs c.args.place p c.requires.within c.requires.is in
    params_fit c.index.result.now (count_before procs c.args.place) (length c.as_slice-params.result.now) (length p.params) (parameter_count (map procedure_of procs))
    number (ap length c.as_slice-params.ensures) fits c.args.plan.now.few

pub returns : goal.returns
returns c =
    let procs : List Proc = c.args.plan.now.heads.procs.now in
    let p : Proc = c.args.proc.now in
    let number : c.index.result.now ≡ count_before procs c.args.place =
    first_at procs c.args.place p c.args.plan.now.firsts.items c.index.result.now c.args.plan.now.numbered c.requires.within c.requires.is c.index.ensures in
    c.in_ok-of.ensures ∙ ap (λ n. hides n c.as_slice-params.result.now) number ∙ ap (hides (count_before procs c.args.place)) c.as_slice-params.ensures
    ∙ sym (hiding_at-place procs c.args.place p c.requires.within c.requires.is)
