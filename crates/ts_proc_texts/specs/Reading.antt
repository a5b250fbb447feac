-- What a source with procedures is read as, and which refusal comes first for the others.
use Rattle.std.specs.Prelude.{◌≡◌, ℕ, List, length, Some, Result, Ok, Err, ⊤}
use Rattle.ts_trees.specs.declared.dialect.Dialect.TheVariants.{Procedures}
use Rattle.ts_trees.specs.declared.token.Token.{Token}
use Rattle.ts_trees.specs.Cut.{cut_in, bad_byte, big_literal}
use Rattle.ts_trees.specs.Faults.{SpellsIn, IsUnexpectedIn, IsTooDeepIn}
use Rattle.ts_trees.specs.Tree.{ProcedureSource}
use Rattle.ts_parser.specs.declared.fault.SourceFault.{SourceFault}
use Rattle.ts_parser.specs.declared.fault.SourceFault.TheVariants as text
use Rattle.ts_proc_names.specs.declared.fault.ProcFault.{ProcFault}
use Rattle.ts_proc_names.specs.declared.fault.ProcFault.TheVariants.{BadByte, BigLiteral, Unexpected, TooDeep, NoProc, Params, Again, Reserved}
use Rattle.ts_proc_names.specs.declared.fault.ProcFault.TheVariants.{TooLarge, TooNested, NoMemory}
use Rattle.ts_proc_names.specs.declared.named.PScript.{PScript}
use Rattle.ts_proc_names.specs.Named.{written_of}
use Rattle.ts_proc_names.specs.NameFaults.{name_fault}

-- the bytes are cut into tokens, which spell a script with procedures
pub record IsProcedureText (bytes : List ℕ) (source : ProcedureSource) : Type 0 where
  pub tokens : List Token
  pub cuts : cut_in Procedures bytes ≡ Ok tokens
  pub spells : SpellsIn Procedures tokens source

-- the grammar stops at a place
pub record StopsGrammarAt (bytes : List ℕ) (place : ℕ) : Type 0 where
  pub tokens : List Token
  pub cuts : cut_in Procedures bytes ≡ Ok tokens
  pub stops : IsUnexpectedIn Procedures tokens (length bytes) place

pub record IsDeepAt (bytes : List ℕ) (place : ℕ) : Type 0 where
  pub tokens : List Token
  pub cuts : cut_in Procedures bytes ≡ Ok tokens
  pub deep : IsTooDeepIn Procedures tokens place

-- a name is refused
pub record IsMisnamed (bytes : List ℕ) (fault : ProcFault) : Type 0 where
  pub source : ProcedureSource
  pub written : IsProcedureText bytes source
  pub names : name_fault source ≡ Some fault

-- the script, or the first refusal: the bytes come before the grammar, and the grammar before the names; lack of memory says nothing
abbrev pub ReadsProcedures : List ℕ → Result PScript ProcFault → Type 0
ReadsProcedures bytes (Ok script) = IsProcedureText bytes (written_of script)
ReadsProcedures bytes (Err (BadByte place)) = cut_in Procedures bytes ≡ Err (bad_byte place)
ReadsProcedures bytes (Err (BigLiteral place)) = cut_in Procedures bytes ≡ Err (big_literal place)
ReadsProcedures bytes (Err (Unexpected place)) = StopsGrammarAt bytes place
ReadsProcedures bytes (Err (TooDeep place)) = IsDeepAt bytes place
ReadsProcedures bytes (Err (NoProc name place)) = IsMisnamed bytes (NoProc name place)
ReadsProcedures bytes (Err (Params place)) = IsMisnamed bytes (Params place)
ReadsProcedures bytes (Err (Again name place)) = IsMisnamed bytes (Again name place)
ReadsProcedures bytes (Err (Reserved place)) = IsMisnamed bytes (Reserved place)
ReadsProcedures bytes (Err (TooLarge count)) = ⊥
ReadsProcedures bytes (Err (TooNested depth)) = ⊥
ReadsProcedures bytes (Err NoMemory) = ⊤

-- a fault of the text, as a refusal
abbrev pub proc_fault_of : SourceFault → ProcFault
proc_fault_of (text.BadByte place) = BadByte place
proc_fault_of (text.BigLiteral place) = BigLiteral place
proc_fault_of (text.Unexpected place) = Unexpected place
proc_fault_of (text.TooDeep place) = TooDeep place
proc_fault_of text.NoMemory = NoMemory
