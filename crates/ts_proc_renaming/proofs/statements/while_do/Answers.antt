use Rattle.std.proofs.Common.{◌∙◌, ap}
use Rattle.ts_trees.specs.declared.stmt.Stmt.TheVariants.{While}
use Rattle.ts_trees.specs.Seen.{acts_of}
use Rattle.ts_trees.specs.Tree.{while_do as while_do_act}
use Rattle.ts_trees.proofs.SeenLemmas.{act_while_do}
use Rattle.ts_proc_renaming.proofs.WrittenLemmas.{pushed}
use Rattle.ts_proc_renaming.proofs.statements.while_do.Goals as goal

pub returns : goal.returns
returns c =
    pushed c.push.result c.args.written.now c.push.new.self (While c.in_ok-test.test c.args.body) _ c.push.ensures
    (act_while_do c.in_ok-test.test c.args.body ∙ ap (λ e. while_do_act e (acts_of c.args.body)) c.in_ok-test.ensures)
