use Rattle.std.proofs.Common.{◌≡◌, length}
use Rattle.ts_lexer.specs.Scanner.{due}
use Rattle.ts_lexer.proofs.scanner.Scanner.finish.Given as goal

abbrev pub invariant-loop-first : goal.invariant-loop-first
invariant-loop-first l = due l.scanner ≡ due l.fn.self

abbrev pub decreases-loop-first : goal.decreases-loop-first
decreases-loop-first l = length l.scanner.rest.now
