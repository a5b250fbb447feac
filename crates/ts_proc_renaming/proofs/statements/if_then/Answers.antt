use Rattle.std.proofs.Common.{◌∙◌, ap, None}
use Rattle.ts_trees.specs.declared.stmt.Stmt.TheVariants.{If}
use Rattle.ts_trees.specs.Seen.{acts_of}
use Rattle.ts_trees.specs.Tree.{if_then as if_then_act}
use Rattle.ts_trees.proofs.SeenLemmas.{act_if_then}
use Rattle.ts_proc_renaming.proofs.WrittenLemmas.{pushed}
use Rattle.ts_proc_renaming.proofs.statements.if_then.Goals as goal

pub returns : goal.returns
returns c =
    pushed c.push.result c.args.written.now c.push.new.self (If c.in_ok-test.test c.args.body None) _ c.push.ensures
    (act_if_then c.in_ok-test.test c.args.body ∙ ap (λ e. if_then_act e (acts_of c.args.body)) c.in_ok-test.ensures)
