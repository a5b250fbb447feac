use Rattle.std.proofs.Common.{length}
use Rattle.ts_lexer.specs.Scanner.{due, LeadsOn}
use Rattle.ts_lexer.proofs.scanner.Scanner.look_through.Given as goal

abbrev pub invariant-loop-first : goal.invariant-loop-first
invariant-loop-first l = LeadsOn (due l.fn.self) (due l.scanner)

abbrev pub decreases-loop-first : goal.decreases-loop-first
decreases-loop-first l = length l.scanner.rest.now
