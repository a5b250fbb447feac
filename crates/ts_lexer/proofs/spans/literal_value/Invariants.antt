use Rattle.ts_lexer.proofs.ValueLemmas.{IsReadTo}
use Rattle.ts_lexer.proofs.spans.literal_value.Given as goal

abbrev pub invariant-loop-byte : goal.invariant-loop-byte
invariant-loop-byte l = IsReadTo l.digits l.byte-index l.value
