use Rattle.std.proofs.Common.{refl}
use Rattle.ts_trees.specs.declared.token.TokenKind.TheVariants as kind
use Rattle.ts_syntax.proofs.PrintLemmas.{◌⋙◌}
use Rattle.ts_syntax.proofs.printer.Printer.next.Goals as goal

pub returns : goal.returns
returns g c = c.token.ensures kind.Next refl ⋙ c.named.ensures
