use Rattle.std.proofs.Common.{◌≡◌, ◌⊎◌, ◌∙◌, List, [], ◌∷◌, Result, Ok, Err, refl, sym, subst, append-nil, inr}
use Rattle.std.specs.Prelude.{MatchResult, codes}
use Rattle.ts_trees.specs.Answers.{Refused}
use Rattle.ts_trees.specs.Cut.{token, cut_in, cut_from, word_kind}
use Rattle.ts_trees.specs.Faults.{IsUnexpected, StopsIn}
use Rattle.ts_trees.specs.Script.{IsScript, BeginsScriptIn}
use Rattle.ts_trees.specs.declared.dialect.Dialect.TheVariants.{Plain}
use Rattle.ts_trees.specs.declared.script.Script.{Script}
use Rattle.ts_trees.specs.declared.token.Token.{Token}
use Rattle.ts_trees.specs.declared.token.TokenKind.{TokenKind}
use Rattle.ts_trees.specs.declared.token.TokenKind.TheVariants as kind
use Rattle.ts_parser.specs.Cutting.{SourceCuts}
use Rattle.ts_parser.specs.Reading.{ReadsScript, cuts, fails}
use Rattle.ts_parser.specs.declared.fault.SourceFault.{SourceFault}
use Rattle.ts_parser.specs.declared.fault.SourceFault.TheVariants as fault
use Rattle.callers_language.proofs.Verdicts.{OneVerdict, only_unexpected}
use Rattle.callers_language.proofs.readings.an_early_end_is_told_at_its_place.Goals as goal

abbrev word : List Token
word = token kind.Shared 0 6 ∷ []

cut_now : cut_in Plain (codes "shared") ≡ Ok word
unfolding cut_from word_kind
cut_now = refl

-- the word alone begins a script, and is none
early : Refused Plain (kind.Shared ∷ []) [] → IsUnexpected IsScript word 6 6
early r =
    let all : r.front ≡ kind.Shared ∷ [] = sym (append-nil r.front) ∙ sym r.are in
    record {
      front = word;
      rest = [];
      are = refl;
      begins = subst (λ (front : List TokenKind). BeginsScriptIn Plain front) all r.begins;
      stops = subst (λ (front : List TokenKind). StopsIn Plain front []) all r.stops;
      within = refl;
      stands = refl;
    }

same_tokens : (tokens : List Token) → cut_in Plain (codes "shared") ≡ Ok tokens → tokens ≡ word
same_tokens tokens is = let e : Ok tokens ≡ Ok word = sym is ∙ cut_now in cc

not_cut : (why : SourceFault) → SourceCuts Plain (codes "shared") (Err why) → why ≡ fault.NoMemory
not_cut (fault.BadByte place) is = let e : Ok word ≡ Err _ = sym cut_now ∙ is in cc
not_cut (fault.BigLiteral place) is = let e : Ok word ≡ Err _ = sym cut_now ∙ is in cc
not_cut (fault.Unexpected place) is = absurd is
not_cut (fault.TooDeep place) is = absurd is
not_cut fault.NoMemory is = refl

only_early : OneVerdict → IsUnexpected IsScript word 6 6 → (result : Result Script SourceFault) → ReadsScript (codes "shared") result
    → MatchResult result (λ _. ⊥) (λ why. (why ≡ fault.Unexpected 6) ⊎ (why ≡ fault.NoMemory))
only_early one stops result (cuts tokens is answers) =
    only_unexpected one tokens 6 6 result (subst (λ (ts : List Token). IsUnexpected IsScript ts 6 6) (sym (same_tokens tokens is)) stops) answers
only_early one stops result (fails why is told) =
    subst (λ (r : Result Script SourceFault). MatchResult r (λ _. ⊥) (λ why. (why ≡ fault.Unexpected 6) ⊎ (why ≡ fault.NoMemory))) (sym told) (inr (not_cut why is))

pub returns : goal.returns
returns c = only_early c.verdict_law.ensures.one (early (c.machine_law.ensures.refused Plain (kind.Shared ∷ []) (0 ∷ []) [] refl)) c.read.result c.read.ensures
