use Rattle.std.proofs.Common.{refl}
use Rattle.ts_trees.specs.declared.token.TokenKind.TheVariants as kind
use Rattle.ts_syntax.proofs.PrintLemmas.{◌⋙◌}
use Rattle.ts_syntax.proofs.printer.Printer.for_head.Goals as goal

pub returns : goal.returns
returns g c =
    c.token.ensures kind.For refl ⋙ c.named.ensures ⋙ c.token-2.ensures kind.Eq refl
    ⋙ (c.expr.ensures ⋙ (c.token-3.ensures kind.To refl ⋙ (c.expr-2.ensures ⋙ c.step.ensures)))
