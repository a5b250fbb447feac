-- What a source with procedures is read as is what the cut of its bytes, the verdict on their tokens and the names give.
use Rattle.std.proofs.Common.{◌≡◌, ℕ, List, length, Option, Some, None, Result, Ok, Err, refl, sym, ◌∙◌, ap, subst}
use Rattle.std.specs.Prelude.{IsTrue, is_none}
use Rattle.std.proofs.lemmas.Bool.{false≢true}
use Rattle.ts_trees.specs.declared.dialect.Dialect.TheVariants.{Procedures}
use Rattle.ts_trees.specs.declared.procedure.ProcScript.{ProcScript}
use Rattle.ts_trees.specs.declared.token.Token.{Token}
use Rattle.ts_trees.specs.Seen.{procedure_source_of}
use Rattle.ts_trees.specs.Cut.{cut_in, CutFault, bad_byte, big_literal}
use Rattle.ts_trees.specs.Tree.{ProcedureSource}
use Rattle.ts_parser.specs.Verdict.{VerdictOf, IsSoIn, spelled, unexpected, too_deep}
use Rattle.ts_parser.specs.Cutting.{SourceCuts}
use Rattle.ts_parser.specs.Verdict.{AnswersIn}
use Rattle.ts_parser.specs.Reading.{ReadsIn, cuts, fails}
use Rattle.ts_parser.specs.declared.fault.SourceFault.{SourceFault}
use Rattle.ts_parser.specs.declared.fault.SourceFault.TheVariants as text
use Rattle.ts_parser.proofs.VerdictLemmas.{one_verdict_in}
use Rattle.ts_proc_names.specs.declared.fault.ProcFault.{ProcFault}
use Rattle.ts_proc_names.specs.declared.fault.ProcFault.TheVariants.{BadByte, BigLiteral, Unexpected, TooDeep, NoProc, Params, Again, Reserved, TooLarge, TooNested, NoMemory}
use Rattle.ts_proc_names.specs.declared.named.PScript.{PScript}
use Rattle.ts_proc_names.specs.Named.{written_of, IsNamedScript}
use Rattle.ts_proc_names.specs.NameFaults.{name_fault}
use Rattle.ts_proc_names.proofs.FaultLemmas.{named_alone}
use Rattle.ts_proc_texts.specs.Reading.{ReadsProcedures, IsProcedureText, IsMisnamed, proc_fault_of}

of_cut : CutFault → ProcFault
of_cut (bad_byte place) = BadByte place
of_cut (big_literal place) = BigLiteral place

of_names : ProcedureSource → Option ProcFault → Result ProcedureSource ProcFault
of_names s None = Ok s
of_names s (Some fault) = Err fault

of_verdict : VerdictOf ProcedureSource → Result ProcedureSource ProcFault
of_verdict (spelled s) = of_names s (name_fault s)
of_verdict (unexpected place) = Err (Unexpected place)
of_verdict (too_deep place) = Err (TooDeep place)

-- the bytes can't be cut, or the verdict on their tokens and the names say it
data Reading (bytes : List ℕ) (x : Result ProcedureSource ProcFault) : Type 0 where
  uncut : (fault : CutFault) → cut_in Procedures bytes ≡ Err fault → x ≡ Err (of_cut fault) → Reading bytes x
  judged : (tokens : List Token) (v : VerdictOf ProcedureSource) → cut_in Procedures bytes ≡ Ok tokens → IsSoIn Procedures tokens (length bytes) v → x ≡ of_verdict v
      → Reading bytes x

misnamed : (bytes : List ℕ) (fault : ProcFault) → IsMisnamed bytes fault → Reading bytes (Err fault)
unfolding of_names of_verdict
misnamed bytes fault h = judged h.written.tokens (spelled h.source) h.written.cuts h.written.spells (ap (of_names h.source) (sym h.names))

none_named : (o : Option ProcFault) → IsTrue (is_none o) → o ≡ None
none_named None h = refl
none_named (Some fault) h = absurd (false≢true h)

read_so : (bytes : List ℕ) (s : PScript) → ReadsProcedures bytes (Ok s) → Reading bytes (Ok (written_of s))
unfolding of_names of_verdict
read_so bytes s h =
    judged h.tokens (spelled (written_of s)) h.cuts h.spells (ap (of_names (written_of s)) (sym (none_named (name_fault (written_of s)) s.named)))

refused_so : (bytes : List ℕ) (fault : ProcFault) → ReadsProcedures bytes (Err fault) → (fault ≡ NoMemory → ⊥) → Reading bytes (Err fault)
unfolding of_cut of_names of_verdict
refused_so bytes (BadByte place) h told = uncut (bad_byte place) h refl
refused_so bytes (BigLiteral place) h told = uncut (big_literal place) h refl
refused_so bytes (Unexpected place) h told = judged h.tokens (unexpected place) h.cuts h.stops refl
refused_so bytes (TooDeep place) h told = judged h.tokens (too_deep place) h.cuts h.deep refl
refused_so bytes (NoProc name place) h told = misnamed bytes (NoProc name place) h
refused_so bytes (Params place) h told = misnamed bytes (Params place) h
refused_so bytes (Again name place) h told = misnamed bytes (Again name place) h
refused_so bytes (Reserved place) h told = misnamed bytes (Reserved place) h
refused_so bytes (TooLarge count) h told = absurd h
refused_so bytes (TooNested depth) h told = absurd h
refused_so bytes NoMemory h told = absurd (told refl)

same_reading : (bytes : List ℕ) (x y : Result ProcedureSource ProcFault) → Reading bytes x → Reading bytes y → x ≡ y
same_reading bytes x y (uncut f e a) (uncut g h b) = let is : f ≡ g = cc in a ∙ ap (λ k. Err (of_cut k)) is ∙ sym b
same_reading bytes x y (uncut f e a) (judged ts v h so b) = cc
same_reading bytes x y (judged ts v e so a) (uncut g h b) = cc
same_reading bytes x y (judged ts v e so a) (judged us w h to b) =
    let is : us ≡ ts = cc in
    a ∙ ap of_verdict (one_verdict_in Procedures ts (length bytes) v w so (subst (λ (zs : List Token). IsSoIn Procedures zs (length bytes) w) is to)) ∙ sym b

pub one_script : (bytes : List ℕ) (a b : PScript) → ReadsProcedures bytes (Ok a) → ReadsProcedures bytes (Ok b) → written_of a ≡ written_of b
one_script bytes a b p q = let e = same_reading bytes (Ok (written_of a)) (Ok (written_of b)) (read_so bytes a p) (read_so bytes b q) in cc

pub one_refusal : (bytes : List ℕ) (f g : ProcFault) → ReadsProcedures bytes (Err f) → ReadsProcedures bytes (Err g) → (f ≡ NoMemory → ⊥) → (g ≡ NoMemory → ⊥) → f ≡ g
one_refusal bytes f g p q told told' = let e = same_reading bytes (Err f) (Err g) (refused_so bytes f p told) (refused_so bytes g q told') in cc

pub not_both : (bytes : List ℕ) (a : PScript) (f : ProcFault) → ReadsProcedures bytes (Ok a) → ReadsProcedures bytes (Err f) → (f ≡ NoMemory → ⊥) → ⊥
not_both bytes a f p q told = let e = same_reading bytes (Ok (written_of a)) (Err f) (read_so bytes a p) (refused_so bytes f q told) in cc

-- the names of a script decide what its text is read as
pub named_read : (bytes : List ℕ) (s : ProcedureSource) (result : Result PScript ProcFault) → IsProcedureText bytes s → IsNamedScript s result → ReadsProcedures bytes result
named_read bytes s (Ok script) text is = subst (IsProcedureText bytes) (sym is) text
named_read bytes s (Err (BadByte place)) text is = absurd (named_alone s (BadByte place) is)
named_read bytes s (Err (BigLiteral place)) text is = absurd (named_alone s (BigLiteral place) is)
named_read bytes s (Err (Unexpected place)) text is = absurd (named_alone s (Unexpected place) is)
named_read bytes s (Err (TooDeep place)) text is = absurd (named_alone s (TooDeep place) is)
named_read bytes s (Err (TooLarge count)) text is = absurd (named_alone s (TooLarge count) is)
named_read bytes s (Err (TooNested depth)) text is = absurd (named_alone s (TooNested depth) is)
named_read bytes s (Err NoMemory) text is = tt
named_read bytes s _ text is = record { source = s; written = text; names = is }

-- the text of a script, and the refusal of one that spells none
pub text_of_script : (bytes : List ℕ) (s : ProcScript) → ReadsIn Procedures bytes (Ok s) → IsProcedureText bytes (procedure_source_of s)
text_of_script bytes s (cuts tokens c a) = record { tokens = tokens; cuts = c; spells = a }
text_of_script bytes s (fails f h e) = cc

by_tokens : (bytes : List ℕ) (tokens : List Token) (f : SourceFault) → cut_in Procedures bytes ≡ Ok tokens → AnswersIn Procedures tokens (length bytes) (Err f) → ReadsProcedures bytes (Err (proc_fault_of f))
by_tokens bytes tokens (text.BadByte place) c a = absurd a
by_tokens bytes tokens (text.BigLiteral place) c a = absurd a
by_tokens bytes tokens (text.Unexpected place) c a = record { tokens = tokens; cuts = c; stops = a }
by_tokens bytes tokens (text.TooDeep place) c a = record { tokens = tokens; cuts = c; deep = a }
by_tokens bytes tokens text.NoMemory c a = tt

by_bytes : (bytes : List ℕ) (f : SourceFault) → SourceCuts Procedures bytes (Err f) → ReadsProcedures bytes (Err (proc_fault_of f))
by_bytes bytes (text.BadByte place) h = h
by_bytes bytes (text.BigLiteral place) h = h
by_bytes bytes (text.Unexpected place) h = absurd h
by_bytes bytes (text.TooDeep place) h = absurd h
by_bytes bytes text.NoMemory h = tt

pub text_refused : (bytes : List ℕ) (f : SourceFault) → ReadsIn Procedures bytes (Err f) → ReadsProcedures bytes (Err (proc_fault_of f))
text_refused bytes f (cuts tokens c a) = by_tokens bytes tokens f c a
text_refused bytes f (fails g h e) = let is : g ≡ f = cc in subst (λ z. ReadsProcedures bytes (Err (proc_fault_of z))) is (by_bytes bytes g h)
