use Rattle.std.proofs.Common.{◌∙◌, refl}
use Rattle.ts_trees.specs.declared.stmt.Stmt.TheVariants.{Run}
use Rattle.ts_trees.proofs.SeenLemmas.{act_run_procedure}
use Rattle.ts_proc_renaming.proofs.WrittenLemmas.{pushed}
use Rattle.ts_proc_renaming.proofs.statements.run.Goals as goal

pub returns : goal.returns
returns c =
    pushed c.push.result c.args.written.now c.push.new.self (Run c.same.result c.in_ok-args.args) _ c.push.ensures
    (act_run_procedure c.same.result c.in_ok-args.args ∙ rw (c.same.ensures, c.in_ok-args.ensures) refl)
