-- A source with procedures has one answer.
use Rattle.std.proofs.Common.{◌≡◌, ℕ, List, Ok, Err, refl, sym, ◌∙◌, ap, subst, arith}
use Rattle.std.specs.Global.{Vec}
use Rattle.ts_proc_expansion.specs.Answer.{IsWithin, IsWithinOr, IsTooLarge, IsTooNested}
use Rattle.ts_proc_expansion.specs.Expansion.{expansion}
use Rattle.ts_proc_names.specs.Named.{written_of}
use Rattle.ts_proc_names.specs.declared.fault.ProcFault.{ProcFault}
use Rattle.ts_proc_names.specs.declared.fault.ProcFault.TheVariants.{BadByte, BigLiteral, Unexpected, TooDeep, NoProc, Params, Again, Reserved, TooLarge, TooNested, NoMemory}
use Rattle.ts_proc_names.specs.declared.named.PScript.{PScript}
use Rattle.ts_proc_texts.specs.Reading.{ReadsProcedures}
use Rattle.ts_proc_texts.proofs.ReadingLemmas.{one_script, one_refusal, not_both}
use Rattle.ts_trees.specs.Tree.{ProcedureSource, Source}
use Rattle.mate_files.specs.Files.{Names}
use Rattle.command_refusals.specs.ExpansionCauses.{expansion_fault}
use Rattle.command_refusals.proofs.CauseLemmas.{expansion_fault-once, expansion_fault-told}
use Rattle.command_refusals.specs.declared.expansion_cause.ExpansionCause.{ExpansionCause}
use Rattle.command_steps.specs.OneAnswer.{AnswersAgree, steady}
use Rattle.command_steps.specs.Expansions.{script_with_procedures, expanded_script, expanded_bytes, expanded_source}
use Rattle.command_steps.proofs.OneAnswer.{then_agrees, judged_agrees, SameBytes, file_agrees}

-- the same script with procedures, and the same plain script
abbrev pub SameProcedures : PScript → PScript → Type 0
SameProcedures a b = written_of a ≡ written_of b

abbrev pub SameScript : Source → Source → Type 0
SameScript a b = a ≡ b

procedures_agree : (name bytes : List ℕ) → AnswersAgree SameProcedures (script_with_procedures name bytes) (script_with_procedures name bytes)
procedures_agree name bytes = judged_agrees SameProcedures _ _ _ (one_script bytes) not same where
  not : (a : PScript) (e : ExpansionCause) → ReadsProcedures bytes (Ok a) → ReadsProcedures bytes (Err (expansion_fault e)) → ⊥
  not a e p q = not_both bytes a (expansion_fault e) p q (expansion_fault-told e)

  same : (e h : ExpansionCause) → ReadsProcedures bytes (Err (expansion_fault e)) → ReadsProcedures bytes (Err (expansion_fault h)) → e ≡ h
  same e h p q = expansion_fault-once e h (one_refusal bytes (expansion_fault e) (expansion_fault h) p q (expansion_fault-told e) (expansion_fault-told h))

-- ---- expansions

-- why an expansion is refused
data Unexpanded (source : ProcedureSource) (fault : ProcFault) : Type 0 where
  large : (count : ℕ) → IsTooLarge source count → fault ≡ TooLarge count → Unexpanded source fault
  nested : (depth : ℕ) → IsTooNested source depth → fault ≡ TooNested depth → Unexpanded source fault

unexpanded : (source : ProcedureSource) (fault : ProcFault) → IsWithinOr source (Err fault) → (fault ≡ NoMemory → ⊥) → Unexpanded source fault
unexpanded source (TooLarge count) h told = large count h refl
unexpanded source (TooNested depth) h told = nested depth h refl
unexpanded source NoMemory h told = absurd (told refl)
unexpanded source _ h told = absurd h

one_extent : (source : ProcedureSource) (f g : ProcFault) → Unexpanded source f → Unexpanded source g → f ≡ g
one_extent source f g (large m p is) (large n q is') = is ∙ ap TooLarge (p.counts ∙ sym q.counts) ∙ sym is'
one_extent source f g (large m p is) (nested n q is') = absurd (omega (arith, p.large, q.small))
one_extent source f g (nested m p is) (large n q is') = absurd (omega (arith, p.small, q.large))
one_extent source f g (nested m p is) (nested n q is') = is ∙ ap TooNested (p.counts ∙ sym q.counts) ∙ sym is'

fits : (source : ProcedureSource) (f : ProcFault) → IsWithin source → Unexpanded source f → ⊥
fits source f p (large n q is) = omega (arith, p.small, q.large)
fits source f p (nested n q is) = omega (arith, p.shallow, q.deep)

expanded_agrees : (name : List ℕ) (source : ProcedureSource) → AnswersAgree SameScript (expanded_script name source) (expanded_script name source)
expanded_agrees name source = judged_agrees SameScript _ _ _ one not same where
  why : (e : ExpansionCause) → IsWithinOr source (Err (expansion_fault e)) → Unexpanded source (expansion_fault e)
  why e p = unexpanded source (expansion_fault e) p (expansion_fault-told e)

  one : (a b : Source) → (a ≡ expansion source) × IsWithin source → (b ≡ expansion source) × IsWithin source → a ≡ b
  one a b p q = p.0 ∙ sym q.0

  not : (a : Source) (e : ExpansionCause) → (a ≡ expansion source) × IsWithin source → IsWithinOr source (Err (expansion_fault e)) → ⊥
  not a e p q = fits source (expansion_fault e) p.1 (why e q)

  same : (e h : ExpansionCause) → IsWithinOr source (Err (expansion_fault e)) → IsWithinOr source (Err (expansion_fault h)) → e ≡ h
  same e h p q = expansion_fault-once e h (one_extent source (expansion_fault e) (expansion_fault h) (why e p) (why h q))

expanded_bytes_agrees : (name bytes : List ℕ) → AnswersAgree SameScript (expanded_bytes name bytes) (expanded_bytes name bytes)
expanded_bytes_agrees name bytes =
    then_agrees SameProcedures SameScript _ _ _ _ (procedures_agree name bytes)
    (λ a b e. subst (λ (s : ProcedureSource). AnswersAgree SameScript (expanded_script name (written_of a)) (expanded_script name s)) (same a b e) (expanded_agrees name (written_of a))) where
      same : (a b : PScript) → SameProcedures a b → written_of a ≡ written_of b
      same a b e = e

pub expansion_agrees : (names : Names) (name : List ℕ) → AnswersAgree SameScript (expanded_source (steady names) name) (expanded_source (steady names) name)
expansion_agrees names name =
    then_agrees SameBytes SameScript _ _ _ _ (file_agrees names name)
    (λ a b e. subst (λ (bs : List ℕ). AnswersAgree SameScript (expanded_bytes name a.items) (expanded_bytes name bs)) (same a b e) (expanded_bytes_agrees name a.items)) where
      same : (a b : Vec ℕ) → SameBytes a b → a.items ≡ b.items
      same a b e = e
