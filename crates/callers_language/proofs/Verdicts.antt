-- What a parse answers to tokens of which the verdict is known.
use Rattle.std.proofs.Common.{◌≡◌, ◌⊎◌, ℕ, List, [], ◌∷◌, ◌++◌, Result, Ok, Err, refl, subst, inl, inr}
use Rattle.std.specs.Prelude.{MatchResult}
use Rattle.ts_trees.specs.Cut.{token}
use Rattle.ts_trees.specs.Faults.{Spells, StopsIn, IsUnexpected}
use Rattle.ts_trees.specs.Script.{IsScript, BeginsScriptIn}
use Rattle.ts_trees.specs.Seen.{source_seen}
use Rattle.ts_trees.specs.Tree.{Source}
use Rattle.ts_trees.specs.declared.dialect.Dialect.TheVariants.{Plain}
use Rattle.ts_trees.specs.declared.script.Script.{Script}
use Rattle.ts_trees.specs.declared.token.Token.{Token}
use Rattle.ts_trees.specs.declared.token.TokenKind.{TokenKind}
use Rattle.ts_trees.specs.declared.token.TokenKind.TheVariants as kind
use Rattle.ts_trees.specs.Answers.{Refused}
use Rattle.ts_parser.specs.Verdict.{Answers, Verdict, spelled, unexpected, too_deep, IsSo}
use Rattle.ts_parser.specs.declared.fault.SourceFault.{SourceFault}
use Rattle.ts_parser.specs.declared.fault.SourceFault.TheVariants as fault

-- of tokens one thing is so
abbrev pub OneVerdict : Type 0
OneVerdict = (tokens : List Token) (len : ℕ) (v w : Verdict) → IsSo tokens len v → IsSo tokens len w → v ≡ w

abbrev stops_at : ℕ → Verdict
stops_at p = unexpected p

abbrev deep_at : ℕ → Verdict
deep_at p = too_deep p

spelled_same : (s t : Source) → spelled s ≡ spelled t → s ≡ t
spelled_same s t e = cc

stops_same : (p q : ℕ) → stops_at p ≡ stops_at q → p ≡ q
stops_same p q e = cc

spelled_stops : (s : Source) (p : ℕ) → spelled s ≡ stops_at p → ⊥
spelled_stops s p e = cc

spelled_deep : (s : Source) (p : ℕ) → spelled s ≡ deep_at p → ⊥
spelled_deep s p e = cc

stops_deep : (p q : ℕ) → stops_at p ≡ deep_at q → ⊥
stops_deep p q e = cc

-- the script that the tokens spell, but for want of memory
pub only_script : OneVerdict → (tokens : List Token) (len : ℕ) (s : Source) (result : Result Script SourceFault) → Spells tokens s → Answers tokens len result → MatchResult result (λ script. source_seen script ≡ s) (λ why. why ≡ fault.NoMemory)
only_script one tokens len s (Ok script) spells so = spelled_same (source_seen script) s (one tokens len (spelled (source_seen script)) (spelled s) so spells)
only_script one tokens len s (Err (fault.BadByte place)) spells so = absurd so
only_script one tokens len s (Err (fault.BigLiteral place)) spells so = absurd so
only_script one tokens len s (Err (fault.Unexpected place)) spells so = absurd (spelled_stops s place (one tokens len (spelled s) (stops_at place) spells so))
only_script one tokens len s (Err (fault.TooDeep place)) spells so = absurd (spelled_deep s place (one tokens len (spelled s) (deep_at place) spells so))
only_script one tokens len s (Err fault.NoMemory) spells so = refl

-- the token that doesn't fit, but for want of memory
pub only_unexpected : OneVerdict → (tokens : List Token) (len place : ℕ) (result : Result Script SourceFault) → IsUnexpected IsScript tokens len place → Answers tokens len result → MatchResult result (λ _. ⊥) (λ why. (why ≡ fault.Unexpected place) ⊎ (why ≡ fault.NoMemory))
only_unexpected one tokens len place (Ok script) stops so = spelled_stops (source_seen script) place (one tokens len (spelled (source_seen script)) (stops_at place) so stops)
only_unexpected one tokens len place (Err (fault.BadByte p)) stops so = absurd so
only_unexpected one tokens len place (Err (fault.BigLiteral p)) stops so = absurd so
only_unexpected one tokens len place (Err (fault.Unexpected p)) stops so = inl (let e : p ≡ place = stops_same p place (one tokens len (stops_at p) (stops_at place) so stops) in cc)
only_unexpected one tokens len place (Err (fault.TooDeep p)) stops so = absurd (stops_deep place p (one tokens len (stops_at place) (deep_at p) stops so))
only_unexpected one tokens len place (Err fault.NoMemory) stops so = inr refl

-- where the first of one token is refused, nothing stands before it
nothing_before : (k : TokenKind) (front : List TokenKind) → k ∷ [] ≡ front ++ k ∷ [] → front ≡ []
nothing_before k [] e = refl
nothing_before k (j ∷ []) e = cc
nothing_before k (j ∷ i ∷ front) e = cc

-- a `;` alone is refused at its place
pub lone_sign : (from to len : ℕ) → Refused Plain (kind.Semi ∷ []) (kind.Semi ∷ []) → IsUnexpected IsScript (token kind.Semi from to ∷ []) len from
lone_sign from to len r =
    let none : r.front ≡ [] = nothing_before kind.Semi r.front r.are in
    record {
      front = [];
      rest = token kind.Semi from to ∷ [];
      are = refl;
      begins = subst (λ (front : List TokenKind). BeginsScriptIn Plain front) none r.begins;
      stops = subst (λ (front : List TokenKind). StopsIn Plain front (kind.Semi ∷ [])) none r.stops;
      within = refl;
      stands = refl;
    }
