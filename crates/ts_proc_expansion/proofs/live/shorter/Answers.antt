use Rattle.std.proofs.Common.{◌≡◌, ◌∙◌, ◌<◌, List, refl, ap, sym, subst, length, map, arith}
use Rattle.std.specs.Prelude.{◌^◌}
use Rattle.ts_trees.specs.declared.procedure.Proc.{Proc}
use Rattle.ts_trees.specs.Seen.{acts_of, procedure_of}
use Rattle.ts_trees.specs.Tree.{ProcedureSource}
use Rattle.ts_proc_names.specs.Heads.{parameter_count}
use Rattle.ts_proc_names.specs.Named.{written_of}
use Rattle.ts_proc_expansion.specs.Expansion.{callees}
use Rattle.ts_proc_expansion.specs.Targets.{AreTargets}
use Rattle.ts_proc_expansion.proofs.LiveLemmas.{same_count, whole_becomes}
use Rattle.ts_proc_expansion.proofs.live.shorter.Goals as goal

pub live_block-requires-clause-are : goal.live_block-requires-clause-are
live_block-requires-clause-are c = subst (AreTargets c.args.plan.now.heads.procs.now) (sym c.as_slice-targets.ensures.value) c.in_ok-live.ensures.are

pub returns-clause-bodies : goal.returns-clause-bodies
returns-clause-bodies c = c.in_ok-live.ensures.same ∙ ap callees c.requires

pub returns-clause-same : goal.returns-clause-same
returns-clause-same c =
    let procs : List Proc = c.args.plan.now.heads.procs.now in
    let source : ProcedureSource = written_of c.args.script.now in
    whole_becomes procs (length procs) (acts_of c.in_ok-body.body) (acts_of c.in_ok-body.body) (acts_of c.body.result.now) source.body source.procs (omega arith) c.requires
    refl c.body.ensures c.in_ok-body.ensures

pub returns-clause-counted : goal.returns-clause-counted
returns-clause-counted c =
    same_count c.args.plan.now.heads.procs.now c.in_ok-live.live.0.items c.in_ok-live.ensures.same ∙ ap parameter_count c.requires

pub returns-clause-few : goal.returns-clause-few
returns-clause-few c =
    subst (λ n. n < 2 ^ 32) (sym (same_count c.args.plan.now.heads.procs.now c.in_ok-live.live.0.items c.in_ok-live.ensures.same)) c.args.plan.now.few
