use Rattle.std.proofs.Common.{◌≡◌, ◌∙◌, ◌<◌, ℕ, List, ap, sym, subst, map}
use Rattle.std.specs.Prelude.{◌^◌}
use Rattle.ts_trees.specs.declared.procedure.Proc.{Proc}
use Rattle.ts_trees.specs.declared.stmt.Stmt.{Stmt}
use Rattle.ts_trees.specs.Seen.{acts_of, procedure_of}
use Rattle.ts_trees.specs.Tree.{ProcedureSource}
use Rattle.ts_proc_names.specs.Heads.{parameter_count}
use Rattle.ts_proc_names.specs.Named.{written_of}
use Rattle.ts_proc_expansion.specs.Expansion.{callees}
use Rattle.ts_proc_expansion.specs.Live.{BecomesSame}
use Rattle.ts_proc_expansion.specs.Plan.{bodies_of}
use Rattle.ts_procs.proofs.expanding.shortened.Goals as goal

pub of-requires : goal.of-requires
of-requires c = subst (λ (ps : List Proc). parameter_count (map procedure_of ps) < 2 ^ 32) (sym c.as_slice.ensures.value) c.in_ok-live.ensures.few

pub written-requires-clause-planned : goal.written-requires-clause-planned
written-requires-clause-planned c = ap bodies_of (c.in_ok-shorter.ensures ∙ c.as_slice.ensures.value) ∙ c.in_ok-live.ensures.bodies

pub written-requires-clause-same : goal.written-requires-clause-same
written-requires-clause-same c =
    let source : ProcedureSource = written_of c.args.script.now in
    subst (λ (ss : List Stmt). BecomesSame (callees source.procs) (acts_of ss) source.body) (sym c.as_slice-2.ensures) c.in_ok-live.ensures.same

pub written-requires-clause-counted : goal.written-requires-clause-counted
written-requires-clause-counted c =
    c.in_ok-shorter.shorter.counted
    ∙ ap (λ (ps : List Proc). parameter_count (map procedure_of ps)) (c.in_ok-shorter.ensures ∙ c.as_slice.ensures.value)
    ∙ c.in_ok-live.ensures.counted
