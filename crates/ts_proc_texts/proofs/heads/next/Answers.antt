use Rattle.std.proofs.Common.{ap, sym, [], ◌∷◌}
use Rattle.ts_trees.specs.declared.token.TokenKind.TheVariants as kind
use Rattle.ts_trees.specs.Spelling.{name}
use Rattle.ts_syntax.proofs.PrintLemmas.{tokens_by}
use Rattle.ts_proc_renaming.specs.Renaming.{renamed}
use Rattle.ts_proc_texts.proofs.heads.next.Goals as goal

pub returns : goal.returns
returns g c = tokens_by (ap (λ h. kind.Next ∷ name (renamed h c.args.word.now) ∷ []) (sym c.hidden-hidden.ensures)) c.next.ensures
