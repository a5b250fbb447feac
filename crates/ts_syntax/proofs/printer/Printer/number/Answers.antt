use Rattle.std.proofs.Common.{refl}
use Rattle.ts_trees.specs.declared.token.TokenKind.TheVariants as kind
use Rattle.ts_syntax.proofs.PrintLemmas.{one_token}
use Rattle.ts_syntax.proofs.printer.Printer.number.Goals as goal

pub returns : goal.returns
returns g c = one_token (kind.Num c.args.value) c.gap.ensures refl refl c.text.ensures c.number.ensures
