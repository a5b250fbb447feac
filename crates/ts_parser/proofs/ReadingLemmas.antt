-- A fault of the first tokens of a source, and what its whole text is read as.
use Rattle.std.proofs.Common.{◌≡◌, ℕ, Bool, true, false, List, [], ◌∷◌, ◌++◌, length, Result, Ok, Err, refl, sym, ◌∙◌, ap, subst, append_assoc}
use Rattle.std.specs.Bool.{◌==◌}
use Rattle.std.proofs.lemmas.Bool.{false≢true, eq-eqb}
use Rattle.ts_trees.specs.declared.dialect.Dialect.{Dialect}
use Rattle.ts_trees.specs.declared.dialect.Dialect.TheVariants as dialect
use Rattle.ts_trees.specs.declared.procedure.ProcScript.{ProcScript}
use Rattle.ts_trees.specs.declared.script.Script.{Script}
use Rattle.ts_trees.specs.declared.token.Token.{Token}
use Rattle.ts_trees.specs.Cut.{CutFault, cut_in}
use Rattle.ts_trees.specs.Depth.{first_deep}
use Rattle.ts_trees.specs.Faults.{StopsIn, place_of, IsUnexpectedIn, IsTooDeepIn, Spells}
use Rattle.ts_trees.specs.Script.{BeginsScriptIn}
use Rattle.ts_trees.specs.Seen.{source_seen, procedure_source_of}
use Rattle.ts_trees.specs.Spelling.{kinds}
use Rattle.ts_lexer.specs.Answers.{HasFault}
use Rattle.ts_lexer.specs.Scanner.{due}
use Rattle.ts_lexer.specs.declared.fault.TokenFault.{TokenFault}
use Rattle.ts_lexer.specs.declared.fault.TokenFault.TheVariants as cutting
use Rattle.ts_lexer.specs.declared.scanner.Scanner.{Scanner}
use Rattle.ts_lexer.proofs.StepLemmas.{reads_front}
use Rattle.ts_parser.specs.Cutting.{SourceCuts, source_fault_of}
use Rattle.ts_parser.specs.Reading.{ReadsSource, cuts, fails, ReadsIn, ReadsScript, Stays, is_at_end}
use Rattle.ts_parser.specs.Verdict.{Answers, AnswersIn}
use Rattle.ts_parser.specs.declared.fault.SourceFault.{SourceFault}
use Rattle.ts_parser.specs.declared.fault.SourceFault.TheVariants as fault
use Rattle.ts_parser.proofs.DeepLemmas.{same_before_more}
use Rattle.ts_parser.proofs.OwnPlaces.{spells_plain}
use Rattle.ts_parser.proofs.ParseLemmas.{kinds_append}

-- a fault of the cut is one of the source
pub told_so : (d : Dialect) (bytes : List ℕ) (f : TokenFault) → HasFault (cut_in d bytes) f → SourceCuts d bytes (Err (source_fault_of f))
told_so d bytes (cutting.BadByte place) h = h
told_so d bytes (cutting.BigLiteral place) h = h
told_so d bytes cutting.NoMemory h = tt

-- a token that doesn't fit, or lies too deep, does so whatever follows
unexpected_stays : (d : Dialect) (ts : List Token) (end place : ℕ) → (place == end) ≡ false → IsUnexpectedIn d ts end place → (more : List Token) (len : ℕ) → IsUnexpectedIn d (ts ++ more) len place
unexpected_stays d ts end place apart h more len = by h.rest h.are h.stops h.stands where
  by : (rest : List Token) → ts ≡ h.front ++ rest → StopsIn d (kinds h.front) (kinds rest) → place ≡ place_of end rest → IsUnexpectedIn d (ts ++ more) len place
  by [] are stops stands = absurd (false≢true (sym apart ∙ eq-eqb place end stands))
  by (t ∷ rest) are stops stands = record {
    front = h.front;
    rest = t ∷ (rest ++ more);
    are = ap (λ z. z ++ more) are ∙ append_assoc h.front (t ∷ rest) more;
    begins = h.begins;
    stops = stops;
    within = h.within;
    stands = stands;
  }

deep_stays : (d : Dialect) (ts : List Token) (place : ℕ) → IsTooDeepIn d ts place → (more : List Token) → IsTooDeepIn d (ts ++ more) place
deep_stays d ts place h more = record {
  front = h.front;
  token = h.token;
  rest = h.rest ++ more;
  are = ap (λ z. z ++ more) h.are ∙ append_assoc h.front (h.token ∷ h.rest) more;
  deep = ap first_deep (kinds_append ts more) ∙ same_before_more (kinds ts) (kinds more) (length h.front) h.deep;
  begins = h.begins;
  stands = h.stands;
}

pub stays : (d : Dialect) (ts : List Token) (end : ℕ) (f : SourceFault) → AnswersIn d ts end (Err f) → is_at_end end f ≡ false → Stays d ts f
stays d ts end (fault.BadByte place) h apart = absurd h
stays d ts end (fault.BigLiteral place) h apart = absurd h
stays d ts end (fault.Unexpected place) h apart = unexpected_stays d ts end place apart h
stays d ts end (fault.TooDeep place) h apart = λ more len. deep_stays d ts place h more
stays d ts end fault.NoMemory h apart = λ more len. tt

-- so it is the whole text's, where that is cut into tokens
pub refused_by : (d : Dialect) (bytes : List ℕ) (s : Scanner) (f : SourceFault) → due s ≡ cut_in d bytes → Stays d s.tokens f → (all : List Token) × (due s ≡ Ok all) → ReadsIn d bytes (Err f)
refused_by d bytes s f is stays all =
    let more = reads_front s all.0 all.1 in
    cuts all.0 (sym is ∙ all.1) (subst (λ ts. AnswersIn d ts (length bytes) (Err f)) (sym more.1) (stays more.0 (length bytes)))

-- the text's own fault, by what is due
pub fails_by : (d : Dialect) (bytes : List ℕ) (r : Result (List Token) CutFault) (f : TokenFault) → r ≡ cut_in d bytes → HasFault r f → ReadsIn d bytes (Err (source_fault_of f))
fails_by d bytes r f is h = fails (source_fault_of f) (told_so d bytes f (subst (λ r. HasFault r f) is h)) refl

-- a plain script is one without procedures, and refusals are the same
pub same_refusal : (tokens : List Token) (len : ℕ) (f : SourceFault) → AnswersIn dialect.Plain tokens len (Err f) → Answers tokens len (Err f)
same_refusal tokens len (fault.BadByte p) h = h
same_refusal tokens len _ h = h

pub plain_script : (bytes : List ℕ) (p : ProcScript) (s : Script) → s ≡ record { decls = p.decls; body = p.body } → ReadsIn dialect.Plain bytes (Ok p) → ReadsScript bytes (Ok s)
plain_script bytes p s is (cuts tokens c a) =
    cuts tokens c (subst (λ (z : Script). Spells tokens (source_seen z)) (sym is) (spells_plain tokens (procedure_source_of p) a))
plain_script bytes p s is (fails f h e) = cc

pub plain_refusal : (bytes : List ℕ) (f : SourceFault) → ReadsIn dialect.Plain bytes (Err f) → ReadsScript bytes (Err f)
plain_refusal bytes f (cuts tokens c a) = cuts tokens c (same_refusal tokens (length bytes) f a)
plain_refusal bytes f (fails g h e) = let is : f ≡ g = cc in fails g h (ap (λ z. Err z) is)
