use Rattle.std.proofs.Common.{refl, ap}
use Rattle.ts_trees.specs.declared.token.TokenKind.TheVariants as kind
use Rattle.ts_trees.specs.Spelling.{step_spelled}
use Rattle.ts_syntax.proofs.PrintLemmas.{◌⋙◌, no_token, tokens_by}
use Rattle.ts_syntax.proofs.printer.Printer.step.Goals as goal

pub returns-in-None : goal.returns-in-None
returns-in-None g c = tokens_by (ap step_spelled c.in-None.is) no_token

pub returns-in-Some : goal.returns-in-Some
returns-in-Some g c = tokens_by (ap step_spelled c.in-Some.is) (c.token.ensures kind.Step refl ⋙ (c.minus.ensures ⋙ c.number.ensures))
