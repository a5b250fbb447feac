use Rattle.std.proofs.Common.{refl}
use Rattle.ts_trees.specs.declared.token.TokenKind.TheVariants as kind
use Rattle.ts_syntax.proofs.PrintLemmas.{◌⋙◌}
use Rattle.ts_syntax.proofs.printer.Printer.call_alone.Goals as goal

pub returns : goal.returns
returns g c = c.name.ensures ⋙ c.token.ensures kind.Open refl ⋙ (c.args-2.ensures ⋙ (c.token-2.ensures kind.Close refl ⋙ c.token-3.ensures kind.Semi refl))
