use Rattle.std.proofs.Common.{ap, [], ◌∷◌, ◌++◌}
use Rattle.ts_trees.specs.declared.token.TokenKind.TheVariants as kind
use Rattle.ts_trees.specs.Seen.{tree_of}
use Rattle.ts_trees.specs.Spelling.{spelled}
use Rattle.ts_syntax.proofs.PrintLemmas.{tokens_by}
use Rattle.ts_proc_texts.proofs.TokenLemmas.{expr_at}
use Rattle.ts_proc_texts.proofs.heads.if_head.Goals as goal

pub returns : goal.returns
returns g c =
    tokens_by (ap (λ e. kind.If ∷ spelled e ++ (kind.Then ∷ [])) (expr_at _ _ (tree_of c.args.test.now) c.hidden-hidden.ensures)) c.if_head.ensures
