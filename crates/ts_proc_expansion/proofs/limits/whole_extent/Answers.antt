use Rattle.std.proofs.Common.{arith, refl, ◌≡◌, ◌∙◌, List, ap, sym, length}
use Rattle.ts_trees.specs.declared.procedure.Proc.{Proc}
use Rattle.ts_trees.specs.Seen.{acts_of}
use Rattle.ts_trees.specs.Tree.{ProcedureSource}
use Rattle.ts_proc_names.specs.Named.{written_of}
use Rattle.ts_proc_renaming.specs.Renaming.{nothing_hidden}
use Rattle.ts_proc_expansion.specs.declared.extent.Extent.{Extent}
use Rattle.ts_proc_expansion.specs.Extents.{extent_of, body_extents}
use Rattle.ts_proc_expansion.proofs.ExtentLemmas.{bodies_all}
use Rattle.ts_proc_expansion.proofs.ExpandLemmas.{whole_of, whole_is, exact_depth}
use Rattle.ts_proc_expansion.proofs.limits.whole_extent.Goals as goal

pub block_extent-requires : goal.block_extent-requires
block_extent-requires c =
    c.as_slice.ensures.value ∙ c.args.plan.now.measured
    ∙ sym (ap body_extents (bodies_all c.args.plan.now.heads.procs.now (length c.args.plan.now.heads.procs.now) (omega arith)))

pub returns : goal.returns
returns c =
    let source : ProcedureSource = written_of c.args.script.now in
    let procs : List Proc = c.args.plan.now.heads.procs.now in
    let measured : c.block_extent.result ≡ extent_of (whole_of source) =
    c.block_extent.ensures nothing_hidden
    ∙ ap extent_of (whole_is procs (length procs) nothing_hidden (acts_of c.body.result.now) source (omega arith) refl c.body.ensures c.requires) in
    record { count = ap (λ (e : Extent). e.count) measured; depth = exact_depth (whole_of source) c.block_extent.result measured }
