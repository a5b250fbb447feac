use Rattle.std.proofs.Common.{◌≡◌, length}
use Rattle.ts_trees.specs.Cut.{cut_in}
use Rattle.ts_lexer.specs.Scanner.{due}
use Rattle.ts_lexer.proofs.cutting.first_tokens.Given as goal

abbrev pub invariant-loop-first : goal.invariant-loop-first
invariant-loop-first l = due l.scanner ≡ cut_in l.fn.dialect l.bytes

abbrev pub decreases-loop-first : goal.decreases-loop-first
decreases-loop-first l = length l.scanner.rest.now
