use Rattle.std.proofs.Common.{refl, ap}
use Rattle.ts_trees.specs.declared.token.TokenKind.TheVariants as kind
use Rattle.ts_syntax.specs.Print.{closing}
use Rattle.ts_syntax.proofs.PrintLemmas.{no_token, tokens_by}
use Rattle.ts_syntax.proofs.printer.Printer.close.Goals as goal

pub returns-then-behind : goal.returns-then-behind
returns-then-behind g c = tokens_by (ap closing c.if-behind.true) (c.token.ensures kind.Semi refl)

pub returns-else-behind : goal.returns-else-behind
returns-else-behind g c = tokens_by (ap closing c.if-behind.false) no_token
