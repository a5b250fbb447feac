-- What a whole parse answers.
use Rattle.std.specs.Prelude.{ℕ, List, Result, Ok, Err}
use Rattle.ts_trees.specs.declared.dialect.Dialect.{Dialect}
use Rattle.ts_trees.specs.declared.script.Script.{Script}
use Rattle.ts_trees.specs.declared.procedure.ProcScript.{ProcScript}
use Rattle.ts_trees.specs.declared.token.Token.{Token}
use Rattle.ts_trees.specs.Faults.{Spells, IsUnexpected, IsTooDeep, SpellsIn, IsUnexpectedIn, IsTooDeepIn}
use Rattle.ts_trees.specs.Script.{IsScript}
use Rattle.ts_trees.specs.Seen.{source_seen, procedure_source_of}
use Rattle.ts_trees.specs.Tree.{Source, ProcedureSource}
use Rattle.ts_parser.specs.declared.fault.SourceFault.{SourceFault}
use Rattle.ts_parser.specs.declared.fault.SourceFault.TheVariants as fault

-- the script that the tokens spell, or the first fault of those that spell none; bytes are no matter of a parse
abbrev pub Answers : List Token → ℕ → Result Script SourceFault → Type 0
Answers tokens len (Ok s) = Spells tokens (source_seen s)
Answers tokens len (Err (fault.BadByte place)) = ⊥
Answers tokens len (Err (fault.BigLiteral place)) = ⊥
Answers tokens len (Err (fault.Unexpected place)) = IsUnexpected IsScript tokens len place
Answers tokens len (Err (fault.TooDeep place)) = IsTooDeep IsScript tokens place
Answers tokens len (Err fault.NoMemory) = Unit {0}

-- the same in a dialect; a plain script is one without procedures
abbrev pub AnswersIn : Dialect → List Token → ℕ → Result ProcScript SourceFault → Type 0
AnswersIn d tokens len (Ok s) = SpellsIn d tokens (procedure_source_of s)
AnswersIn d tokens len (Err (fault.BadByte place)) = ⊥
AnswersIn d tokens len (Err (fault.BigLiteral place)) = ⊥
AnswersIn d tokens len (Err (fault.Unexpected place)) = IsUnexpectedIn d tokens len place
AnswersIn d tokens len (Err (fault.TooDeep place)) = IsTooDeepIn d tokens place
AnswersIn d tokens len (Err fault.NoMemory) = Unit {0}

-- what is to be said of tokens
pub data VerdictOf (S : Type 0) : Type 0 where
  spelled : S → VerdictOf S
  unexpected : ℕ → VerdictOf S
  too_deep : ℕ → VerdictOf S

abbrev pub Verdict : Type 0
Verdict = VerdictOf Source

-- that it is so
abbrev pub IsSo : List Token → ℕ → Verdict → Type 0
IsSo tokens len (spelled s) = Spells tokens s
IsSo tokens len (unexpected place) = IsUnexpected IsScript tokens len place
IsSo tokens len (too_deep place) = IsTooDeep IsScript tokens place

-- the same in a dialect
abbrev pub IsSoIn : Dialect → List Token → ℕ → VerdictOf ProcedureSource → Type 0
IsSoIn d tokens len (spelled s) = SpellsIn d tokens s
IsSoIn d tokens len (unexpected place) = IsUnexpectedIn d tokens len place
IsSoIn d tokens len (too_deep place) = IsTooDeepIn d tokens place
