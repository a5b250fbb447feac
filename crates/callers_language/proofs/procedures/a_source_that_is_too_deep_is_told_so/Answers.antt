use Rattle.std.proofs.Common.{◌≡◌, ◌⊎◌, ℕ, List, Result, Ok, Err, inl, inr, refl}
use Rattle.std.specs.Prelude.{MatchResult}
use Rattle.ts_proc_names.specs.declared.fault.ProcFault.{ProcFault}
use Rattle.ts_proc_names.specs.declared.fault.ProcFault.TheVariants.{TooDeep, NoMemory}
use Rattle.ts_proc_names.specs.declared.named.PScript.{PScript}
use Rattle.ts_proc_texts.specs.Reading.{ReadsProcedures, IsDeepAt}
use Rattle.callers_language.proofs.procedures.a_source_that_is_too_deep_is_told_so.Goals as goal

abbrev OneRefusal : Type 0
OneRefusal = (bytes : List ℕ) (f g : ProcFault) → ReadsProcedures bytes (Err f) → ReadsProcedures bytes (Err g) → (f ≡ NoMemory → ⊥) → (g ≡ NoMemory → ⊥) → f ≡ g

abbrev NotBoth : Type 0
NotBoth = (bytes : List ℕ) (script : PScript) (f : ProcFault) → ReadsProcedures bytes (Ok script) → ReadsProcedures bytes (Err f) → (f ≡ NoMemory → ⊥) → ⊥

deep_is_no_want : (place : ℕ) → TooDeep place ≡ NoMemory → ⊥
deep_is_no_want place e = cc

only_deep : OneRefusal → NotBoth → (bytes : List ℕ) (place : ℕ) (result : Result PScript ProcFault) → IsDeepAt bytes place → ReadsProcedures bytes result → MatchResult result (λ _. ⊥) (λ f. (f ≡ TooDeep place) ⊎ (f ≡ NoMemory))
only_deep one both bytes place (Ok script) deep reads = both bytes script (TooDeep place) reads deep (deep_is_no_want place)
only_deep one both bytes place (Err NoMemory) deep reads = inr refl
only_deep one both bytes place (Err f) deep reads = inl (one bytes f (TooDeep place) reads deep (λ e. cc) (deep_is_no_want place))

pub returns : goal.returns
returns c = only_deep c.reading_law.ensures.one_refusal c.reading_law.ensures.not_both c.args.bytes.now c.args.place c.read.result c.requires.deep c.read.ensures
