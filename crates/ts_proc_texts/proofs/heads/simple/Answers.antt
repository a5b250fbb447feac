use Rattle.ts_trees.specs.Seen.{act_of}
use Rattle.ts_syntax.proofs.PrintLemmas.{tokens_by}
use Rattle.ts_proc_texts.proofs.TokenLemmas.{simple_at}
use Rattle.ts_proc_texts.proofs.heads.simple.Goals as goal

pub returns : goal.returns
returns g c known simple = tokens_by (simple_at known _ _ (act_of c.args.stmt.now) c.hidden-hidden.ensures simple) c.stmt.ensures
