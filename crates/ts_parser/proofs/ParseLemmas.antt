-- What the machine's answers say of tokens.
use Rattle.std.proofs.Common.{◌≡◌, ℕ, zero, suc, ◌+◌, ◌-◌, ◌<◌, ◌≤◌, true, false, inl, inr, get_or, List, [], ◌∷◌, ◌++◌, length, take, drop, Some, None, Ok, Err, refl, sym, ◌∙◌, ap, subst, append_assoc, append-nil, arith, length-append}
use Rattle.std.specs.Bool.{◌==◌}
use Rattle.std.proofs.lemmas.Bool.Decides.{eqb_tells}
use Rattle.std.proofs.lemmas.List.{length-map, nil_from_length}
use Rattle.std.proofs.Math.Seq.{drop-append_seam, take-append_seam}
use Rattle.ts_trees.specs.declared.dialect.Dialect.{Dialect}
use Rattle.ts_trees.specs.declared.token.Token.{Token}
use Rattle.ts_trees.specs.declared.token.TokenKind.{TokenKind}
use Rattle.ts_trees.specs.Tree.{ProcedureSource}
use Rattle.ts_trees.specs.Spelling.{note, kinds, noted}
use Rattle.ts_trees.specs.Script.{IsScriptIn, BeginsScriptIn}
use Rattle.ts_trees.specs.Depth.{first_deep}
use Rattle.ts_trees.specs.Faults.{SpellsIn, StopsIn, place_of, IsUnexpectedIn, IsTooDeepIn}
use Rattle.ts_trees.specs.Machine.{run, start}
use Rattle.ts_trees.specs.Answers.{Refused}
use Rattle.ts_trees.specs.Parsing.{noted_then, reads}
use Rattle.ts_parser.proofs.DeepLemmas.{none_in_front, none_before, deep_within}
use Rattle.ts_trees.proofs.Exact.{refused, script_in}
use Rattle.ts_trees.proofs.MachineLemmas.{read_derived, read_places}

pub kinds_append : (xs ys : List Token) → kinds (xs ++ ys) ≡ kinds xs ++ kinds ys
kinds_append [] ys = refl
kinds_append (x ∷ xs) ys = ap (λ z. x.kind ∷ z) (kinds_append xs ys)

pub kinds_length : (xs : List Token) → length (kinds xs) ≡ length xs
kinds_length xs = length-map xs (λ t. t.kind)

noted_last : (ts : List Token) → noted_then ts ≡ noted ts ++ 0 ∷ []
noted_last [] = refl
noted_last (t ∷ ts) = ap (λ z. note t t.kind ts ++ z) (noted_last ts) ∙ sym (append_assoc (note t t.kind ts) (noted ts) (0 ∷ []))

-- tokens whose kinds are cut in two
pub record Split (ts : List Token) (xs ys : List TokenKind) : Type 0 where
  pub front : List Token
  pub rest : List Token
  pub are : ts ≡ front ++ rest
  pub before : kinds front ≡ xs
  pub behind : kinds rest ≡ ys

head_same : (t : Token) (ts : List Token) (x : TokenKind) (xs : List TokenKind) → kinds (t ∷ ts) ≡ x ∷ xs → t.kind ≡ x
head_same t ts x xs e = cc

tail_same : (t : Token) (ts : List Token) (x : TokenKind) (xs : List TokenKind) → kinds (t ∷ ts) ≡ x ∷ xs → kinds ts ≡ xs
tail_same t ts x xs e = cc

longer : (t : Token) (ts : List Token) (x : TokenKind) (xs ys : List TokenKind) → kinds (t ∷ ts) ≡ x ∷ (xs ++ ys) → Split ts xs ys → Split (t ∷ ts) (x ∷ xs) ys
longer t ts x xs ys e s = record {
  front = t ∷ s.front;
  rest = s.rest;
  are = ap (λ z. t ∷ z) s.are;
  before = ap (λ k. k ∷ kinds s.front) (head_same t ts x (xs ++ ys) e) ∙ ap (λ z. x ∷ z) s.before;
  behind = s.behind;
}

pub split : (ts : List Token) (xs ys : List TokenKind) → kinds ts ≡ xs ++ ys → Split ts xs ys
split ts [] ys e = record { front = []; rest = ts; are = refl; before = refl; behind = e }
split [] (x ∷ xs) ys e = cc
split (t ∷ ts) (x ∷ xs) ys e = longer t ts x xs ys e (split ts xs ys (tail_same t ts x (xs ++ ys) e))

-- the last tokens, by their number
cut_end : (ts front rest more : List Token) → ts ≡ front ++ rest → kinds rest ≡ kinds more → drop (length ts - length more) ts ≡ rest
cut_end ts front rest more e k =
    let n : length ts - length more ≡ length front = omega (arith, ap length e, length-append front rest, ap length k, kinds_length rest, kinds_length more) in
    ap (λ i. drop i ts) n ∙ ap (λ z. drop (length front) z) e ∙ drop-append_seam front rest

-- the same in the tokens up to one that lies too deep
place_more : (len : ℕ) (rest more : List Token) → ¬ (rest ≡ []) → place_of len rest ≡ place_of len (rest ++ more)
place_more len [] more n = absurd (n refl)
place_more len (t ∷ ts) more n = refl

not_empty : (xs ys : List Token) → kinds xs ≡ kinds ys → ¬ (ys ≡ []) → ¬ (xs ≡ [])
not_empty xs [] e n = λ i. n refl
not_empty [] (y ∷ ys) e n = λ i. cc
not_empty (x ∷ xs) (y ∷ ys) e n = λ i. cc

-- ---- the tokens up to the first that lies too deep

-- the token at an index, and those before and behind it
pub record At (ts : List Token) (i : ℕ) : Type 0 where
  pub front : List Token
  pub token : Token
  pub more : List Token
  pub are : ts ≡ (front ++ token ∷ []) ++ more
  pub stands : length front ≡ i
  pub found : (d : Token) → get_or ts i d ≡ token

at_later : (x : Token) (ts : List Token) (i : ℕ) → At ts i → At (x ∷ ts) (suc i)
at_later x ts i a = record { front = x ∷ a.front; token = a.token; more = a.more; are = ap (λ z. x ∷ z) a.are; stands = ap (λ n. suc n) a.stands; found = a.found }

pub at : (ts : List Token) (i : ℕ) → i < length ts → At ts i
at [] i h = absurd (omega arith)
at (x ∷ ts) zero h = record { front = []; token = x; more = ts; are = refl; stands = refl; found = λ d. refl }
at (x ∷ ts) (suc i) h = let m : i < length ts = omega arith in at_later x ts i (at ts i m)

pub cut_length : (front : List Token) (t : Token) (i : ℕ) → length front ≡ i → length (front ++ t ∷ []) ≡ i + 1
cut_length front t i e = omega (arith, length-append front (t ∷ []))

index_within : (ts : List Token) (i : ℕ) → first_deep (kinds ts) ≡ Some i → i < length ts
index_within ts i h = omega (arith, deep_within (kinds ts) i h, kinds_length ts)

cut_is : (ts : List Token) (i : ℕ) (a : At ts i) → take (i + 1) ts ≡ a.front ++ a.token ∷ []
cut_is ts i a =
    ap (λ n. take n ts) (sym (cut_length a.front a.token i a.stands)) ∙ ap (λ z. take (length (a.front ++ a.token ∷ [])) z) a.are ∙ take-append_seam (a.front ++ a.token ∷ []) a.more

-- whether tokens are left
is_zero : (n : ℕ) → true ≡ (n == 0) → n ≡ 0
is_zero n e = elim (eqb_tells n 0) [ inl p ↦ p.1 | inr q ↦ absurd (cc (e, q.0)) ]

pub none_left : (ts : List Token) → true ≡ (length ts == 0) → ts ≡ []
none_left ts e = nil_from_length ts (is_zero (length ts) e)

pub some_left : (ts : List Token) → false ≡ (length ts == 0) → ¬ (ts ≡ [])
some_left [] e = λ i. cc
some_left (t ∷ ts) e = λ i. cc

module _ (lang : Dialect) where
  -- a whole script
  pub spells_all : (ts : List Token) (s : ProcedureSource) → reads ts (start lang) ≡ Ok (s, 0 ∷ []) → first_deep (kinds ts) ≡ None → SpellsIn lang ts s
  spells_all ts s e h =
      let d = read_derived lang (kinds ts) (noted_then ts) (0 ∷ []) s e in
      let i = ap (λ ps. run (kinds ts) ps (start lang)) (sym (noted_last ts)) ∙ e in
      record { derived = d.0; spells = d.1; places = read_places lang (kinds ts) (noted ts) 0 s i; within = h }

  -- the tokens that the machine stops at, by their kinds
  pub named_rest : (ts : List Token) (ks : List TokenKind) → reads ts (start lang) ≡ Err ks → (rest : List Token) × (kinds rest ≡ ks)
  named_rest ts ks e =
      let r : Refused lang (kinds ts) ks = refused lang (kinds ts) (noted_then ts) ks e in
      let s : Split ts r.front ks = split ts r.front ks r.are in
      (s.rest, s.behind)

  -- as many tokens are left as kinds
  pub rest_length : (ts rest : List Token) → reads ts (start lang) ≡ Err (kinds rest) → length rest ≤ length ts
  rest_length ts rest e =
      let r : Refused lang (kinds ts) (kinds rest) = refused lang (kinds ts) (noted_then ts) (kinds rest) e in
      omega (arith, ap length r.are, length-append r.front (kinds rest), kinds_length ts, kinds_length rest)

  -- the first token that doesn't fit, where none before it lies too deep
  stops_more : (front : List TokenKind) (rest more : List Token) → StopsIn lang front (kinds rest) → ¬ (rest ≡ []) → StopsIn lang front (kinds (rest ++ more))
  stops_more front [] more s n = absurd (n refl)
  stops_more front (t ∷ ts) more s n = s

  pub unexpected : (ts rest : List Token) (len : ℕ) → reads ts (start lang) ≡ Err (kinds rest) → first_deep (kinds ts) ≡ None → IsUnexpectedIn lang ts len (place_of len (drop (length ts - length rest) ts))
  unexpected ts rest len e h =
      let r : Refused lang (kinds ts) (kinds rest) = refused lang (kinds ts) (noted_then ts) (kinds rest) e in
      let s : Split ts r.front (kinds rest) = split ts r.front (kinds rest) r.are in
      record {
        front = s.front;
        rest = s.rest;
        are = s.are;
        begins = subst (BeginsScriptIn lang) (sym s.before) r.begins;
        stops = subst (λ z. StopsIn lang z (kinds s.rest)) (sym s.before) (subst (λ z. StopsIn lang r.front z) (sym s.behind) r.stops);
        within = none_in_front (kinds s.front) (kinds s.rest) (ap first_deep (sym (kinds_append s.front s.rest) ∙ ap kinds (sym s.are)) ∙ h);
        stands = ap (λ z. place_of len z) (cut_end ts s.front s.rest rest s.are s.behind);
      }

  pub unexpected_before : (cut more ts rest : List Token) (len index : ℕ) → ts ≡ cut ++ more → length cut ≡ index + 1 → reads cut (start lang) ≡ Err (kinds rest) → ¬ (rest ≡ []) → first_deep (kinds ts) ≡ Some index →
      IsUnexpectedIn lang ts len (place_of len (drop (length cut - length rest) cut))
  unexpected_before cut more ts rest len index a l e n h =
      let r : Refused lang (kinds cut) (kinds rest) = refused lang (kinds cut) (noted_then cut) (kinds rest) e in
      let s : Split cut r.front (kinds rest) = split cut r.front (kinds rest) r.are in
      let m : ¬ (s.rest ≡ []) = not_empty s.rest rest s.behind n in
      let all : ts ≡ s.front ++ (s.rest ++ more) = a ∙ ap (λ z. z ++ more) s.are ∙ append_assoc s.front s.rest more in
      record {
        front = s.front;
        rest = s.rest ++ more;
        are = all;
        begins = subst (BeginsScriptIn lang) (sym s.before) r.begins;
        stops = stops_more (kinds s.front) s.rest more (subst (λ z. StopsIn lang z (kinds s.rest)) (sym s.before) (subst (λ z. StopsIn lang r.front z) (sym s.behind) r.stops)) m;
        within =
            none_before (kinds s.front) (kinds (s.rest ++ more)) index
            (ap first_deep (sym (kinds_append s.front (s.rest ++ more)) ∙ ap kinds (sym all)) ∙ h)
            (shorter s.rest m (length (kinds s.front)) (length s.front) (length (s.front ++ s.rest)) (kinds_length s.front) (ap length s.are) (length-append s.front s.rest));
        stands = ap (λ z. place_of len z) (cut_end cut s.front s.rest rest s.are s.behind) ∙ place_more len s.rest more m;
      }
    where
      shorter : (xs : List Token) → ¬ (xs ≡ []) → (a b c : ℕ) → a ≡ b → length cut ≡ c → c ≡ b + length xs → a ≤ index
      shorter [] n a b c e f g = absurd (n refl)
      shorter (x ∷ xs) n a b c e f g = omega (arith, l)

  -- the token that lies too deep, where those up to it fit
  pub begun : (ks : List TokenKind) → IsScriptIn lang ks → BeginsScriptIn lang ks
  begun ks s = record { rest = []; script = subst (IsScriptIn lang) (sym (append-nil ks)) s }

  pub begins_all : (ts : List Token) (s : ProcedureSource) (left : List ℕ) → reads ts (start lang) ≡ Ok (s, left) → BeginsScriptIn lang (kinds ts)
  begins_all ts s left e =
      let d = read_derived lang (kinds ts) (noted_then ts) left s e in
      begun (kinds ts) (script_in lang s d.0 d.1)

  pub begins_short : (ts rest : List Token) → reads ts (start lang) ≡ Err (kinds rest) → rest ≡ [] → BeginsScriptIn lang (kinds ts)
  begins_short ts rest e n =
      let r : Refused lang (kinds ts) (kinds rest) = refused lang (kinds ts) (noted_then ts) (kinds rest) e in
      subst (BeginsScriptIn lang) (sym (r.are ∙ ap (λ z. r.front ++ z) (ap kinds n) ∙ append-nil r.front)) r.begins

  pub too_deep : (front more ts : List Token) (t : Token) (index : ℕ) → ts ≡ (front ++ t ∷ []) ++ more → length front ≡ index → BeginsScriptIn lang (kinds (front ++ t ∷ [])) → first_deep (kinds ts) ≡ Some index → IsTooDeepIn lang ts t.from
  too_deep front more ts t index a l b h = record {
    front = front;
    token = t;
    rest = more;
    are = a ∙ append_assoc front (t ∷ []) more;
    deep = h ∙ ap (λ z. Some z) (sym l);
    begins = subst (BeginsScriptIn lang) (kinds_append front (t ∷ [])) b;
    stands = refl;
  }

  deep_is : (ts : List Token) (i : ℕ) (d : Token) (a : At ts i) → BeginsScriptIn lang (kinds (a.front ++ a.token ∷ [])) → first_deep (kinds ts) ≡ Some i → IsTooDeepIn lang ts (get_or ts i d).from
  deep_is ts i d a b h = subst (λ t. IsTooDeepIn lang ts t.from) (sym (a.found d)) (too_deep a.front a.more ts a.token i a.are a.stands b h)

  -- they are a whole script
  pub deep_read : (ts : List Token) (i : ℕ) (d : Token) (s : ProcedureSource) (left : List ℕ) → first_deep (kinds ts) ≡ Some i → reads (take (i + 1) ts) (start lang) ≡ Ok (s, left) → IsTooDeepIn lang ts (get_or ts i d).from
  deep_read ts i d s left h e =
      let a : At ts i = at ts i (index_within ts i h) in
      deep_is ts i d a (begins_all (a.front ++ a.token ∷ []) s left (ap (λ z. reads z (start lang)) (sym (cut_is ts i a)) ∙ e)) h

  -- they end too early
  pub deep_cut : (ts rest : List Token) (i : ℕ) (d : Token) → first_deep (kinds ts) ≡ Some i → reads (take (i + 1) ts) (start lang) ≡ Err (kinds rest) → rest ≡ [] → IsTooDeepIn lang ts (get_or ts i d).from
  deep_cut ts rest i d h e n =
      let a : At ts i = at ts i (index_within ts i h) in
      deep_is ts i d a (begins_short (a.front ++ a.token ∷ []) rest (ap (λ z. reads z (start lang)) (sym (cut_is ts i a)) ∙ e) n) h

  -- one of them doesn't fit
  pub deep_stops : (ts rest : List Token) (i len : ℕ) → first_deep (kinds ts) ≡ Some i → reads (take (i + 1) ts) (start lang) ≡ Err (kinds rest) → ¬ (rest ≡ []) →
      IsUnexpectedIn lang ts len (place_of len (drop (length (take (i + 1) ts) - length rest) (take (i + 1) ts)))
  deep_stops ts rest i len h e n =
      let a : At ts i = at ts i (index_within ts i h) in
      let c : take (i + 1) ts ≡ a.front ++ a.token ∷ [] = cut_is ts i a in
      subst (λ z. IsUnexpectedIn lang ts len (place_of len (drop (length z - length rest) z))) (sym c)
      (unexpected_before (a.front ++ a.token ∷ []) a.more ts rest len i a.are (cut_length a.front a.token i a.stands) (ap (λ z. reads z (start lang)) (sym c) ∙ e) n h)
