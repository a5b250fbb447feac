use Rattle.std.proofs.Common.{arith, ◌≡◌, ◌++◌, ◌∙◌, List, ap, length, map, take}
use Rattle.ts_trees.specs.declared.procedure.Proc.{Proc}
use Rattle.ts_trees.specs.declared.script.Decl.{Decl}
use Rattle.ts_trees.specs.Seen.{act_of, acts_of, acts}
use Rattle.ts_trees.specs.Tree.{Act, ProcedureSource}
use Rattle.ts_proc_names.specs.Named.{written_of}
use Rattle.ts_proc_renaming.specs.Renaming.{parameter_decls}
use Rattle.ts_proc_renaming.specs.Hidden.{hiding_of}
use Rattle.ts_proc_expansion.specs.Expansion.{expanded_acts}
use Rattle.ts_proc_expansion.specs.Extent.{acts_depth}
use Rattle.ts_proc_expansion.specs.Plan.{bodies_of}
use Rattle.ts_proc_expansion.proofs.ExpandLemmas.{whole_of, whole_same, expansion_made}
use Rattle.ts_procs.proofs.expanding.written.Goals as goal

pub block-requires : goal.block-requires
block-requires c =
    let source : ProcedureSource = written_of c.args.script.now in
    let procs : List Proc = c.args.plan.now.heads.procs.now in
    let whole : expanded_acts (take (length procs) (bodies_of procs)) (hiding_of c.in_ok-hidden.hidden) (acts_of c.args.body.now) ≡ whole_of source =
    whole_same procs (length procs) (hiding_of c.in_ok-hidden.hidden) (acts_of c.args.body.now) source (omega arith) c.in_ok-hidden.ensures c.requires.same c.requires.planned in
    omega (arith, c.requires.shallow, ap (λ (xs : List Act). acts_depth (acts xs)) whole)

pub returns : goal.returns
returns c =
    let source : ProcedureSource = written_of c.args.script.now in
    let procs : List Proc = c.args.plan.now.heads.procs.now in
    let whole : expanded_acts (take (length procs) (bodies_of procs)) (hiding_of c.in_ok-hidden.hidden) (acts_of c.args.body.now) ≡ whole_of source =
    whole_same procs (length procs) (hiding_of c.in_ok-hidden.hidden) (acts_of c.args.body.now) source (omega arith) c.in_ok-hidden.ensures c.requires.same c.requires.planned in
    expansion_made source c.in_ok-decls.decls c.args.plan.now.parameters (map act_of c.in_ok-body.body)
    (c.in_ok-decls.ensures ∙ ap (λ (ds : List Decl). ds ++ parameter_decls 0 c.args.plan.now.parameters) (c.as_slice.ensures ∙ c.decls.ensures))
    c.requires.counted (c.in_ok-body.ensures ∙ whole)
