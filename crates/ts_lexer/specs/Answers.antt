-- What the tokens of a text are, or its first fault, as an answer of the program.
use Rattle.std.specs.Prelude.{◌≡◌, ℕ, List, Result, Ok, Err, ⊤}
use Rattle.ts_trees.specs.declared.dialect.Dialect.{Dialect}
use Rattle.ts_trees.specs.declared.dialect.Dialect.TheVariants as dialect
use Rattle.ts_trees.specs.declared.token.Token.{Token}
use Rattle.ts_trees.specs.Cut.{CutFault, cut_in, bad_byte, big_literal}
use Rattle.ts_lexer.specs.declared.fault.TokenFault.{TokenFault}
use Rattle.ts_lexer.specs.declared.fault.TokenFault.TheVariants.{BadByte, BigLiteral, NoMemory}

-- the first fault of a text that is cut so; lack of memory says nothing of it
abbrev pub HasFault : Result (List Token) CutFault → TokenFault → Type 0
HasFault cut (BadByte place) = cut ≡ Err (bad_byte place)
HasFault cut (BigLiteral place) = cut ≡ Err (big_literal place)
HasFault cut NoMemory = ⊤

-- the bytes are cut into these tokens of the dialect, or have this fault first
abbrev pub CutsIn : Dialect → List ℕ → Result (List Token) TokenFault → Type 0
CutsIn d bytes (Ok tokens) = cut_in d bytes ≡ Ok tokens
CutsIn d bytes (Err f) = HasFault (cut_in d bytes) f

-- the same in plain TinyScript
abbrev pub Cuts : List ℕ → Result (List Token) TokenFault → Type 0
Cuts bytes result = CutsIn dialect.Plain bytes result
