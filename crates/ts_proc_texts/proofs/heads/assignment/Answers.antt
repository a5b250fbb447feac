use Rattle.std.proofs.Common.{ap}
use Rattle.ts_trees.specs.Seen.{tree_of}
use Rattle.ts_trees.specs.Spelling.{act_spelled}
use Rattle.ts_trees.specs.Tree.{set}
use Rattle.ts_syntax.proofs.PrintLemmas.{tokens_by}
use Rattle.ts_proc_texts.proofs.TokenLemmas.{expr_at}
use Rattle.ts_proc_texts.proofs.heads.assignment.Goals as goal

pub returns : goal.returns
returns g c = tokens_by (ap (λ e. act_spelled (set c.args.word.now e)) (expr_at _ _ (tree_of c.args.value.now) c.hidden-hidden.ensures)) c.assignment.ensures
