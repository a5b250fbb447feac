use Rattle.std.proofs.Common.{refl}
use Rattle.ts_trees.specs.declared.token.TokenKind.TheVariants as kind
use Rattle.ts_syntax.proofs.printer.Printer.otherwise.Goals as goal

pub returns : goal.returns
returns g c = c.token.ensures kind.Else refl
