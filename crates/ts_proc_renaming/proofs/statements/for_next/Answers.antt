use Rattle.std.proofs.Common.{◌∙◌, refl}
use Rattle.ts_trees.specs.declared.stmt.Stmt.TheVariants.{For}
use Rattle.ts_trees.proofs.SeenLemmas.{act_for_next}
use Rattle.ts_proc_renaming.proofs.WrittenLemmas.{pushed}
use Rattle.ts_proc_renaming.proofs.statements.for_next.Goals as goal

pub returns : goal.returns
returns c =
    pushed c.push.result c.args.written.now c.push.new.self (For c.in_ok-head.head c.args.body c.word-next.result) _ c.push.ensures
    (act_for_next c.in_ok-head.head c.args.body c.word-next.result ∙ rw (c.in_ok-head.ensures.var, c.in_ok-head.ensures.from, c.in_ok-head.ensures.to, c.in_ok-head.ensures.step, c.word-next.ensures) refl)
