-- What the tokens of a source are, as an answer of the parser.
use Rattle.std.specs.Prelude.{◌≡◌, ℕ, List, Result, Ok, Err}
use Rattle.ts_trees.specs.declared.dialect.Dialect.{Dialect}
use Rattle.ts_trees.specs.declared.dialect.Dialect.TheVariants as dialect
use Rattle.ts_trees.specs.Cut.{cut_in, bad_byte, big_literal}
use Rattle.ts_trees.specs.declared.token.Token.{Token}
use Rattle.ts_parser.specs.declared.fault.SourceFault.{SourceFault}
use Rattle.ts_parser.specs.declared.fault.SourceFault.TheVariants as fault
use Rattle.ts_lexer.specs.declared.fault.TokenFault.{TokenFault}
use Rattle.ts_lexer.specs.declared.fault.TokenFault.TheVariants as cutting

-- the tokens that the bytes are cut into in a dialect, or their first fault; the grammar is no matter of it
abbrev pub SourceCuts : Dialect → List ℕ → Result (List Token) SourceFault → Type 0
SourceCuts d bytes (Ok tokens) = cut_in d bytes ≡ Ok tokens
SourceCuts d bytes (Err (fault.BadByte place)) = cut_in d bytes ≡ Err (bad_byte place)
SourceCuts d bytes (Err (fault.BigLiteral place)) = cut_in d bytes ≡ Err (big_literal place)
SourceCuts d bytes (Err (fault.Unexpected place)) = ⊥
SourceCuts d bytes (Err (fault.TooDeep place)) = ⊥
SourceCuts d bytes (Err fault.NoMemory) = Unit {0}

-- the same in plain TinyScript
abbrev pub CutsScript : List ℕ → Result (List Token) SourceFault → Type 0
CutsScript bytes result = SourceCuts dialect.Plain bytes result

-- a fault of the cut as one of a source
abbrev pub source_fault_of : TokenFault → SourceFault
source_fault_of (cutting.BadByte place) = fault.BadByte place
source_fault_of (cutting.BigLiteral place) = fault.BigLiteral place
source_fault_of cutting.NoMemory = fault.NoMemory
