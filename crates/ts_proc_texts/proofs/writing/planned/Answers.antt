use Rattle.std.proofs.Common.{◌++◌, ◌∙◌, ℕ, List, ap}
use Rattle.ts_trees.specs.declared.script.Decl.{Decl}
use Rattle.ts_trees.specs.Spelling.{source_spelled}
use Rattle.ts_trees.specs.Text.{text_of}
use Rattle.ts_proc_expansion.specs.Expansion.{expansion}
use Rattle.ts_proc_names.specs.Named.{written_of}
use Rattle.ts_proc_renaming.specs.Renaming.{parameter_decls}
use Rattle.ts_proc_expansion.specs.Plan.{bodies_of}
use Rattle.ts_proc_expansion.specs.declared.plan.Plan.{Plan}
use Rattle.ts_proc_texts.proofs.TextLemmas.{nothing_put, put_by, expansion_line}
use Rattle.ts_proc_texts.proofs.writing.planned.Goals as goal

pub returns-in_default : goal.returns-in_default
returns-in_default g c = nothing_put (text_of (source_spelled (expansion (written_of c.args.script.now))))

pub returns-in_default-of : goal.returns-in_default-of
returns-in_default-of g c = nothing_put (text_of (source_spelled (expansion (written_of c.args.script.now))))

pub returns : goal.returns
returns g c =
    let n : ℕ = c.args.plan.parameters in
    put_by (expansion_line c.in-Ok-of.bodies.plan.heads.procs.now c.args.stmts.now c.as_slice-2.result.now n (written_of c.args.script.now) c.requires.same
    (ap (λ (p : Plan). bodies_of p.heads.procs.now) c.in-Ok-of.ensures ∙ c.requires.planned)
    (c.as_slice-2.ensures ∙ c.in-Ok.ensures ∙ ap (λ (ds : List Decl). ds ++ parameter_decls 0 n) (c.as_slice.ensures ∙ c.decls.ensures)) c.requires.counted) c.lines.ensures
