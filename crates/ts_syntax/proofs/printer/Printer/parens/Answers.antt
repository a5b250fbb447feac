use Rattle.std.proofs.Common.{refl}
use Rattle.ts_trees.specs.declared.token.TokenKind.TheVariants as kind
use Rattle.ts_syntax.proofs.PrintLemmas.{◌⋙◌}
use Rattle.ts_syntax.proofs.printer.Printer.parens.Goals as goal

pub returns : goal.returns
returns g c = c.token.ensures kind.Open refl ⋙ c.named.ensures ⋙ c.token-2.ensures kind.Close refl
