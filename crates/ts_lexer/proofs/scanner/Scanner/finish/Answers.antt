use Rattle.std.proofs.Common.{sym, ◌∙◌}
use Rattle.ts_lexer.proofs.StepLemmas.{all_due}
use Rattle.ts_lexer.proofs.scanner.Scanner.finish.Goals as goal

pub returns : goal.returns
returns c = sym c.loop-first.invariant ∙ all_due c.loop-first.scanner c.in_default.ensures.value
