use Rattle.std.proofs.Common.{◌∙◌, Some, ap}
use Rattle.ts_trees.specs.declared.stmt.Stmt.TheVariants.{If}
use Rattle.ts_trees.specs.Seen.{acts_of}
use Rattle.ts_trees.specs.Tree.{if_else as if_else_act}
use Rattle.ts_trees.proofs.SeenLemmas.{act_if_else}
use Rattle.ts_proc_renaming.proofs.WrittenLemmas.{pushed}
use Rattle.ts_proc_renaming.proofs.statements.if_else.Goals as goal

pub returns : goal.returns
returns c =
    pushed c.push.result c.args.written.now c.push.new.self (If c.in_ok-test.test c.args.body (Some c.args.other)) _ c.push.ensures
    (act_if_else c.in_ok-test.test c.args.body c.args.other ∙ ap (λ e. if_else_act e (acts_of c.args.body) (acts_of c.args.other)) c.in_ok-test.ensures)
