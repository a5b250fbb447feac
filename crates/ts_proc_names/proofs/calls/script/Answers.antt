use Rattle.std.proofs.Common.{◌∙◌, List, [], ap, sym, take, length, map, refl}
use Rattle.ts_trees.specs.declared.procedure.Proc.{Proc}
use Rattle.ts_trees.specs.declared.script.Decl.{Decl}
use Rattle.ts_trees.specs.Seen.{procedure_of, acts_of}
use Rattle.ts_proc_names.specs.Heads.{heads_of}
use Rattle.ts_proc_names.specs.NameFaults.{procedure_fault, procedures_fault, decls_fault, acts_fault}
use Rattle.ts_proc_names.proofs.NameLemmas.{procedure_passes, procedures_end}
use Rattle.ts_proc_names.proofs.PartLemmas.{refused_first, passed_first, passes}
use Rattle.ts_proc_names.proofs.calls.script.Goals as goal

pub returns-in_err-declarations : goal.returns-in_err-declarations
returns-in_err-declarations c =
    let s = c.args.script.now in
    passes c.from_residual.result _
    (refused_first c.in_err-declarations.field-0.0 c.from_residual.result (decls_fault s.decls) (procedures_fault [] (map procedure_of s.procs) (acts_of s.body)) c.from_residual.ensures.1
    (c.in_err-declarations.ensures ∙ ap (λ (ds : List Decl). decls_fault ds) c.as_slice.ensures))

pub loop-place-init : goal.loop-place-init
loop-place-init c = refl

pub loop-place-preserved : goal.loop-place-preserved
loop-place-preserved c =
    c.loop-place.invariant ∙ procedure_passes c.as_slice-procs.result.now c.loop-place.place c.index-procs-place.result (acts_of c.args.script.now.body)
    c.loop-place-test.true c.index-procs-place.is
    (ap (λ (ps : List Proc). procedure_fault (take c.loop-place.place (heads_of ps)) (procedure_of c.index-procs-place.result)) (sym c.in_ok-heads.ensures)
    ∙ c.in_ok-procedure.ensures)

pub returns : goal.returns
returns c =
    let s = c.args.script.now in
    let procs : List Proc = c.as_slice-procs.result.now in
    passes c.block.result _
    (passed_first c.block.result (decls_fault s.decls) (procedures_fault [] (map procedure_of s.procs) (acts_of s.body))
    (c.in_ok-declarations.ensures ∙ ap (λ (ds : List Decl). decls_fault ds) c.as_slice.ensures)
    (c.block.ensures ∙ ap (λ (ps : List Proc). acts_fault (take (length procs) (heads_of ps)) (acts_of s.body)) c.in_ok-heads.ensures
    ∙ sym (c.loop-place.invariant ∙ procedures_end procs c.loop-place.place (acts_of s.body) c.loop-place-test.false)
    ∙ ap (λ (ps : List Proc). procedures_fault [] (map procedure_of ps) (acts_of s.body)) c.as_slice-procs.ensures))
