use Rattle.std.proofs.Common.{ap, sym, [], ◌∷◌}
use Rattle.ts_trees.specs.Spelling.{name}
use Rattle.ts_syntax.proofs.PrintLemmas.{tokens_by}
use Rattle.ts_syntax.proofs.printer.Printer.named.Goals as goal

pub returns : goal.returns
returns g c = tokens_by (ap (λ w. name w ∷ []) (sym c.word-word.ensures)) c.name.ensures
