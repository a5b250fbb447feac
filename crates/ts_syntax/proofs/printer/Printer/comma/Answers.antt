use Rattle.std.proofs.Common.{refl, ap}
use Rattle.ts_trees.specs.declared.token.TokenKind.TheVariants as kind
use Rattle.ts_syntax.specs.Print.{comma_before}
use Rattle.ts_syntax.proofs.PrintLemmas.{no_token, tokens_by}
use Rattle.ts_syntax.proofs.printer.Printer.comma.Goals as goal

pub returns-then-not-first : goal.returns-then-not-first
returns-then-not-first g c = tokens_by (ap comma_before c.if-not-first.true) (c.token.ensures kind.Comma refl)

pub returns-else-not-first : goal.returns-else-not-first
returns-else-not-first g c = tokens_by (ap comma_before c.if-not-first.false) no_token
