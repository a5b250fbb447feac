-- Behind what was taken there are no more tokens.
use Rattle.std.proofs.Common.{◌≤◌, List, length, ap, le_of_lt, arith}
use Rattle.ts_trees.specs.declared.token.Token.{Token}
use Rattle.ts_trees.specs.declared.token.TokenKind.{TokenKind}
use Rattle.ts_trees.specs.declared.word.Word.{Word}
use Rattle.ts_trees.specs.Parsing.{Starts, StartsName}
use Rattle.ts_trees.proofs.Parts.{starts_shorter}

-- behind a token there are no more
pub no_more : (k : TokenKind) {ts rest : List Token} → Starts k ts rest → length rest ≤ length ts
no_more k s = le_of_lt (starts_shorter k s)

pub no_more_named : (w : Word) {ts rest : List Token} → StartsName w ts rest → length rest ≤ length ts
no_more_named w s = omega (arith, ap length s.are)
