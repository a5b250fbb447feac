use Rattle.std.proofs.Common.{refl, ap}
use Rattle.ts_trees.specs.declared.token.TokenKind.TheVariants as kind
use Rattle.ts_trees.specs.Spelling.{minus_spelled}
use Rattle.ts_syntax.proofs.PrintLemmas.{no_token, tokens_by}
use Rattle.ts_syntax.proofs.printer.Printer.minus.Goals as goal

pub returns-then-minus : goal.returns-then-minus
returns-then-minus g c = tokens_by (ap minus_spelled c.if-minus.true) (c.token.ensures kind.Minus refl)

pub returns-else-minus : goal.returns-else-minus
returns-else-minus g c = tokens_by (ap minus_spelled c.if-minus.false) no_token
