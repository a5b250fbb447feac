-- Of tokens one thing is to be said, and one only.
use Rattle.std.proofs.Common.{◌≡◌, ℕ, ◌<◌, List, [], ◌∷◌, ◌++◌, length, Option, Some, None, Ok, Err, refl, sym, ◌∙◌, ap, subst, append_assoc, append-nil, arith, length-append}
use Rattle.std.proofs.lemmas.Option.{same_Some}
use Rattle.ts_trees.specs.declared.dialect.Dialect.{Dialect}
use Rattle.ts_trees.specs.declared.dialect.Dialect.TheVariants as dialect
use Rattle.ts_trees.specs.declared.token.Token.{Token}
use Rattle.ts_trees.specs.declared.token.TokenKind.{TokenKind}
use Rattle.ts_trees.specs.Tree.{ProcedureSource, without_procedures}
use Rattle.ts_trees.specs.Spelling.{kinds}
use Rattle.ts_trees.specs.Script.{IsScriptIn, BeginsScriptIn}
use Rattle.ts_trees.specs.Depth.{first_deep}
use Rattle.ts_trees.specs.Faults.{SpellsIn, StopsIn, place_of, IsUnexpectedIn, IsTooDeepIn}
use Rattle.ts_trees.specs.Machine.{Outcome, start, run}
use Rattle.ts_trees.specs.Parsing.{noted_then, reads}
use Rattle.ts_parser.specs.Verdict.{Verdict, VerdictOf, spelled, unexpected, too_deep, IsSo, IsSoIn}
use Rattle.ts_parser.proofs.AllPlaces.{all_taken}
use Rattle.ts_trees.proofs.CompleteStmt.{source_read}
use Rattle.ts_parser.proofs.DeepLemmas.{same_in_front, deep_within}
use Rattle.ts_trees.proofs.Exact.{whole, left_same, script_in}
use Rattle.ts_trees.proofs.MachineLemmas.{read_derived}
use Rattle.ts_parser.proofs.OwnPlaces.{one_tree_in, spells_without, spells_plain, plain_part}
use Rattle.ts_trees.proofs.Placed.{source_placed, source_left}
use Rattle.ts_parser.proofs.ParseLemmas as parse
use Rattle.ts_parser.proofs.ParseLemmas.{At, at, cut_length}

-- two ways to cut the same tokens
data Order (f r g s : List Token) : Type 0 where
  same : f ≡ g → r ≡ s → Order f r g s
  sooner : (t : Token) (more : List Token) → g ≡ f ++ t ∷ more → r ≡ t ∷ (more ++ s) → Order f r g s
  later : (t : Token) (more : List Token) → f ≡ g ++ t ∷ more → s ≡ t ∷ (more ++ r) → Order f r g s

heads_same : (x y : Token) (xs ys : List Token) → x ∷ xs ≡ y ∷ ys → x ≡ y
heads_same x y xs ys e = cc

tails_same : (x y : Token) (xs ys : List Token) → x ∷ xs ≡ y ∷ ys → xs ≡ ys
tails_same x y xs ys e = cc

longer : (x y : Token) (f r g s : List Token) → x ≡ y → Order f r g s → Order (x ∷ f) r (y ∷ g) s
longer x y f r g s e (same a b) = same (ap (λ z. z ∷ f) e ∙ ap (λ z. y ∷ z) a) b
longer x y f r g s e (sooner t more a b) = sooner t more (ap (λ z. z ∷ g) (sym e) ∙ ap (λ z. x ∷ z) a) b
longer x y f r g s e (later t more a b) = later t more (ap (λ z. z ∷ f) e ∙ ap (λ z. y ∷ z) a) b

order : (f r g s : List Token) → f ++ r ≡ g ++ s → Order f r g s
order [] r [] s e = same refl e
order [] r (y ∷ g) s e = sooner y g refl e
order (x ∷ f) r [] s e = later x f refl (sym e)
order (x ∷ f) r (y ∷ g) s e = longer x y f r g s (heads_same x y (f ++ r) (g ++ s) e) (order f r g s (tails_same x y (f ++ r) (g ++ s) e))

never_both : {A : Type 0} (o : Option A) (a : A) → o ≡ None → o ≡ Some a → ⊥
never_both o a e h = cc

module _ (lang : Dialect) where
  -- what is begun behind front is begun at its next token
  begun_at : (front : List TokenKind) (k : TokenKind) (more : List TokenKind) → BeginsScriptIn lang (front ++ (k ∷ more)) → BeginsScriptIn lang (front ++ k ∷ [])
  begun_at front k more b = record {
    rest = more ++ b.rest;
    script = subst (IsScriptIn lang) (ap (λ z. z ++ b.rest) (sym (append_assoc front (k ∷ []) more)) ∙ append_assoc (front ++ k ∷ []) more b.rest) b.script;
  }

  -- where the machine stops, no longer front begins a script
  no_further : (f : List Token) (t : Token) (more g r rest : List Token) → g ≡ f ++ t ∷ more → r ≡ t ∷ rest → StopsIn lang (kinds f) (kinds r) → BeginsScriptIn lang (kinds g) → ⊥
  no_further f t more g r rest a b s h =
      let q : StopsIn lang (kinds f) (kinds (t ∷ rest)) = subst (λ z. StopsIn lang (kinds f) (kinds z)) b s in
      q (begun_at (kinds f) t.kind (kinds more) (subst (BeginsScriptIn lang) (ap kinds a ∙ parse.kinds_append f (t ∷ more)) h))

  unexpected_once : (ts : List Token) (len p q : ℕ) → IsUnexpectedIn lang ts len p → IsUnexpectedIn lang ts len q → p ≡ q
  unexpected_once ts len p q u v = by (order u.front u.rest v.front v.rest (sym u.are ∙ v.are))
    where
      by : Order u.front u.rest v.front v.rest → p ≡ q
      by (same a b) = u.stands ∙ ap (λ z. place_of len z) b ∙ sym v.stands
      by (sooner t more a b) = absurd (no_further u.front t more v.front u.rest (more ++ v.rest) a b u.stops v.begins)
      by (later t more a b) = absurd (no_further v.front t more u.front v.rest (more ++ u.rest) a b v.stops u.begins)

  -- a front that reaches the token that lies too deep isn't all within
  reaches : (ts f r : List Token) (i : ℕ) → ts ≡ f ++ r → first_deep (kinds ts) ≡ Some i → i < length f → first_deep (kinds f) ≡ None → ⊥
  reaches ts f r i a h l n =
      let m : i < length (kinds f) = omega (arith, parse.kinds_length f) in
      never_both (first_deep (kinds f)) i n (same_in_front (kinds f) (kinds r) i (ap first_deep (sym (parse.kinds_append f r) ∙ ap kinds (sym a)) ∙ h) m)

  longer_same : (f g more : List Token) (t : Token) → f ≡ (g ++ t ∷ []) ++ more → length g < length f
  longer_same f g more t e = omega (arith, ap length e, length-append (g ++ t ∷ []) more, length-append g (t ∷ []))

  never_deep : (ts : List Token) (len p q : ℕ) → IsUnexpectedIn lang ts len p → IsTooDeepIn lang ts q → ⊥
  never_deep ts len p q u d = by (order u.front u.rest (d.front ++ d.token ∷ []) d.rest (sym u.are ∙ d.are ∙ sym (append_assoc d.front (d.token ∷ []) d.rest)))
    where
      by : Order u.front u.rest (d.front ++ d.token ∷ []) d.rest → ⊥
      by (same a b) = reaches ts u.front u.rest (length d.front) u.are d.deep (longer_same u.front d.front [] d.token (a ∙ sym (append-nil (d.front ++ d.token ∷ [])))) u.within
      by (sooner t more a b) =
          no_further u.front t more (d.front ++ d.token ∷ []) u.rest (more ++ d.rest) a b u.stops (subst (BeginsScriptIn lang) (sym (parse.kinds_append d.front (d.token ∷ []))) d.begins)
      by (later t more a b) = reaches ts u.front u.rest (length d.front) u.are d.deep (longer_same u.front d.front (t ∷ more) d.token a) u.within

  deep_once : (ts : List Token) (p q : ℕ) → IsTooDeepIn lang ts p → IsTooDeepIn lang ts q → p ≡ q
  deep_once ts p q d e = by (order d.front (d.token ∷ d.rest) e.front (e.token ∷ e.rest) (sym d.are ∙ e.are)) (same_Some _ _ (sym d.deep ∙ e.deep))
    where
      by : Order d.front (d.token ∷ d.rest) e.front (e.token ∷ e.rest) → length d.front ≡ length e.front → p ≡ q
      by (same a b) l = d.stands ∙ ap (λ t. t.from) (heads_same d.token e.token d.rest e.rest b) ∙ sym e.stands
      by (sooner t more a b) l = absurd (omega (arith, ap length a, length-append d.front (t ∷ more)))
      by (later t more a b) l = absurd (omega (arith, ap length a, length-append e.front (t ∷ more)))

  fits_all : (ts f r : List Token) → ts ≡ f ++ r → StopsIn lang (kinds f) (kinds r) → IsScriptIn lang (kinds ts) → ⊥
  fits_all ts f [] e s h = s (subst (IsScriptIn lang) (ap kinds (e ∙ append-nil f)) h)
  fits_all ts f (t ∷ more) e s h = s (begun_at (kinds f) t.kind (kinds more) (subst (BeginsScriptIn lang) (ap kinds e ∙ parse.kinds_append f (t ∷ more)) (parse.begun lang (kinds ts) h)))

  script_of : (ts : List Token) (s : ProcedureSource) → SpellsIn lang ts s → IsScriptIn lang (kinds ts)
  script_of ts s h = script_in lang s h.derived h.spells

  -- one thing at most
  pub one_verdict_in : (ts : List Token) (len : ℕ) (v w : VerdictOf ProcedureSource) → IsSoIn lang ts len v → IsSoIn lang ts len w → v ≡ w
  one_verdict_in ts len (spelled s) (spelled t) h g = ap spelled (one_tree_in lang ts s t h g)
  one_verdict_in ts len (spelled s) (unexpected q) h g = absurd (fits_all ts g.front g.rest g.are g.stops (script_of ts s h))
  one_verdict_in ts len (spelled s) (too_deep q) h g = absurd (never_both (first_deep (kinds ts)) (length g.front) h.within g.deep)
  one_verdict_in ts len (unexpected p) (spelled t) h g = absurd (fits_all ts h.front h.rest h.are h.stops (script_of ts t g))
  one_verdict_in ts len (unexpected p) (unexpected q) h g = ap unexpected (unexpected_once ts len p q h g)
  one_verdict_in ts len (unexpected p) (too_deep q) h g = absurd (never_deep ts len p q h g)
  one_verdict_in ts len (too_deep p) (spelled t) h g = absurd (never_both (first_deep (kinds ts)) (length h.front) g.within h.deep)
  one_verdict_in ts len (too_deep p) (unexpected q) h g = absurd (never_deep ts len q p g h)
  one_verdict_in ts len (too_deep p) (too_deep q) h g = ap too_deep (deep_once ts p q h g)

  -- and one thing at least
  read_all : (ts : List Token) (s : ProcedureSource) (left : List ℕ) → reads ts (start lang) ≡ Ok (s, left) → reads ts (start lang) ≡ Ok (s, 0 ∷ [])
  read_all ts s left e =
      let ps : List ℕ = noted_then ts in
      let d = read_derived lang (kinds ts) ps left s e in
      let w : whole (source_placed s ps) (source_left s ps) ≡ whole s left = sym (source_read lang s d.0 ps) ∙ ap (λ z. run z ps (start lang)) d.1 ∙ e in
      let n : left ≡ 0 ∷ [] = sym (left_same (source_placed s ps) s (source_left s ps) left w) ∙ all_taken s ts d.1 in
      e ∙ ap (λ z. whole s z) n

  Found : List Token → ℕ → Type 0
  Found ts len = (v : VerdictOf ProcedureSource) × IsSoIn lang ts len v

  within_found : (ts : List Token) (len : ℕ) (o : Outcome) → reads ts (start lang) ≡ o → first_deep (kinds ts) ≡ None → Found ts len
  unfolding Found
  within_found ts len (Ok x) e h = (spelled x.0, parse.spells_all lang ts x.0 (read_all ts x.0 x.1 e) h)
  within_found ts len (Err ks) e h =
      let r = parse.named_rest lang ts ks e in
      (unexpected _, parse.unexpected lang ts r.0 len (e ∙ ap (λ z. Err z) (sym r.1)) h)

  deep_rest : (ts : List Token) (len i : ℕ) (a : At ts i) → first_deep (kinds ts) ≡ Some i → (rest : List Token) → reads (a.front ++ a.token ∷ []) (start lang) ≡ Err (kinds rest) → Found ts len
  unfolding Found
  deep_rest ts len i a h [] e = (too_deep a.token.from, parse.too_deep lang a.front a.more ts a.token i a.are a.stands (parse.begins_short lang (a.front ++ a.token ∷ []) [] e refl) h)
  deep_rest ts len i a h (t ∷ rest) e =
      (unexpected _, parse.unexpected_before lang (a.front ++ a.token ∷ []) a.more ts (t ∷ rest) len i a.are (cut_length a.front a.token i a.stands) e (λ z. cc) h)

  deep_found : (ts : List Token) (len i : ℕ) (a : At ts i) (o : Outcome) → reads (a.front ++ a.token ∷ []) (start lang) ≡ o → first_deep (kinds ts) ≡ Some i → Found ts len
  unfolding Found
  deep_found ts len i a (Ok x) e h = (too_deep a.token.from, parse.too_deep lang a.front a.more ts a.token i a.are a.stands (parse.begins_all lang (a.front ++ a.token ∷ []) x.0 x.1 e) h)
  deep_found ts len i a (Err ks) e h =
      let r = parse.named_rest lang (a.front ++ a.token ∷ []) ks e in
      deep_rest ts len i a h r.0 (e ∙ ap (λ z. Err z) (sym r.1))

  find : (ts : List Token) (len : ℕ) (o : Option ℕ) → first_deep (kinds ts) ≡ o → Found ts len
  find ts len None h = within_found ts len (reads ts (start lang)) refl h
  find ts len (Some i) h =
      let w : i < length ts = omega (arith, deep_within (kinds ts) i h, parse.kinds_length ts) in
      let a : At ts i = at ts i w in
      deep_found ts len i a (reads (a.front ++ a.token ∷ []) (start lang)) refl h

  pub some_verdict_in : (ts : List Token) (len : ℕ) → (v : VerdictOf ProcedureSource) × IsSoIn lang ts len v
  unfolding Found
  some_verdict_in ts len = find ts len (first_deep (kinds ts)) refl

-- ---- plain scripts

-- a verdict of plain TinyScript as one of a dialect
with_none : Verdict → VerdictOf ProcedureSource
with_none (spelled s) = spelled (without_procedures s)
with_none (unexpected p) = unexpected p
with_none (too_deep p) = too_deep p

plain_verdict : VerdictOf ProcedureSource → Verdict
plain_verdict (spelled s) = spelled (plain_part s)
plain_verdict (unexpected p) = unexpected p
plain_verdict (too_deep p) = too_deep p

back : (v : Verdict) → plain_verdict (with_none v) ≡ v
unfolding with_none plain_verdict
back (spelled s) = refl
back (unexpected p) = refl
back (too_deep p) = refl

so_with_none : (ts : List Token) (len : ℕ) (v : Verdict) → IsSo ts len v → IsSoIn dialect.Plain ts len (with_none v)
unfolding with_none
so_with_none ts len (spelled s) h = spells_without ts s h
so_with_none ts len (unexpected p) h = h
so_with_none ts len (too_deep p) h = h

so_plain : (ts : List Token) (len : ℕ) (v : VerdictOf ProcedureSource) → IsSoIn dialect.Plain ts len v → IsSo ts len (plain_verdict v)
unfolding plain_verdict
so_plain ts len (spelled s) h = spells_plain ts s h
so_plain ts len (unexpected p) h = h
so_plain ts len (too_deep p) h = h

pub one_verdict : (ts : List Token) (len : ℕ) (v w : Verdict) → IsSo ts len v → IsSo ts len w → v ≡ w
one_verdict ts len v w h g =
    sym (back v) ∙ ap plain_verdict (one_verdict_in dialect.Plain ts len (with_none v) (with_none w) (so_with_none ts len v h) (so_with_none ts len w g)) ∙ back w

pub some_verdict : (ts : List Token) (len : ℕ) → (v : Verdict) × IsSo ts len v
some_verdict ts len =
    let f : (v : VerdictOf ProcedureSource) × IsSoIn dialect.Plain ts len v = some_verdict_in dialect.Plain ts len in
    (plain_verdict f.0, so_plain ts len f.0 f.1)
