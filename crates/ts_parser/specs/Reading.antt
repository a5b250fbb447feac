-- What a source is read as: its bytes come before its grammar.
use Rattle.std.specs.Prelude.{◌≡◌, ◌++◌, ◌==◌, ℕ, Bool, false, List, length, Result, Ok, Err}
use Rattle.ts_trees.specs.declared.dialect.Dialect.{Dialect}
use Rattle.ts_trees.specs.declared.dialect.Dialect.TheVariants as dialect
use Rattle.ts_trees.specs.declared.script.Script.{Script}
use Rattle.ts_trees.specs.declared.procedure.ProcScript.{ProcScript}
use Rattle.ts_trees.specs.declared.token.Token.{Token}
use Rattle.ts_trees.specs.Cut.{cut_in}
use Rattle.ts_parser.specs.Cutting.{SourceCuts}
use Rattle.ts_parser.specs.Verdict.{Answers, AnswersIn}
use Rattle.ts_parser.specs.declared.fault.SourceFault.{SourceFault}
use Rattle.ts_parser.specs.declared.fault.SourceFault.TheVariants as fault

-- the answer is that of the tokens that the bytes are cut into, or their first fault
pub data ReadsSource {S : Type 0} (d : Dialect) (bytes : List ℕ) (Answer : List Token → Result S SourceFault
    → Type 0) (result : Result S SourceFault) : Type 0 where
  cuts : (tokens : List Token) → cut_in d bytes ≡ Ok tokens → Answer tokens result → ReadsSource d bytes Answer result
  fails : (f : SourceFault) → SourceCuts d bytes (Err f) → result ≡ Err f → ReadsSource d bytes Answer result

abbrev pub ReadsIn : Dialect → List ℕ → Result ProcScript SourceFault → Type 0
ReadsIn d bytes result = ReadsSource d bytes (λ tokens. AnswersIn d tokens (length bytes)) result

-- the same in plain TinyScript
abbrev pub ReadsScript : List ℕ → Result Script SourceFault → Type 0
ReadsScript bytes result = ReadsSource dialect.Plain bytes (λ tokens. Answers tokens (length bytes)) result

-- ---- on the way

-- the fault is that of the tokens, whatever follows them
abbrev pub Stays : Dialect → List Token → SourceFault → Type 0
Stays d tokens f = (more : List Token) (len : ℕ) → AnswersIn d (tokens ++ more) len (Err f)

-- the tokens end too early
abbrev pub is_at_end : ℕ → SourceFault → Bool
is_at_end end (fault.Unexpected place) = place == end
is_at_end end f = false
