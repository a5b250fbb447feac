-- The first token that lies too deep, in the front of some tokens.
use Rattle.std.proofs.Common.{◌≡◌, ℕ, suc, ◌+◌, ◌<◌, ◌≤◌, Bool, true, false, if◌then◌else◌, List, [], ◌∷◌, ◌++◌, length, get_or, drop, drop-cons, drop_of_length-le, add-one, Option, Some, None, refl, sym, ◌∙◌, ap, arith}
use Rattle.std.proofs.lemmas.Option.{none-some, same_Some}
use Rattle.std.specs.Option.{option_map}
use Rattle.ts_trees.specs.declared.token.Token.{Token}
use Rattle.ts_trees.specs.declared.token.TokenKind.{TokenKind}
use Rattle.ts_trees.specs.Spelling.{kinds}
use Rattle.ts_trees.specs.Depth.{Depth, is_deep, after, deep_from, first_deep, shallow}

abbrev later : Option ℕ → Option ℕ
later o = option_map (λ i. i + 1) o

abbrev seen : Bool → Option ℕ → Option ℕ
seen b o = if b then Some 0 else later o

later_none : (o : Option ℕ) → later o ≡ None → o ≡ None
later_none None e = refl
later_none (Some i) e = absurd (none-some _ (sym e))

record Found (o : Option ℕ) (i : ℕ) : Type 0 where
  at : ℕ
  is : o ≡ Some at
  next : at + 1 ≡ i

found : (o : Option ℕ) (i : ℕ) → later o ≡ Some i → Found o i
found None i e = absurd (none-some i e)
found (Some j) i e = record { at = j; is = refl; next = same_Some _ _ e }

-- nothing too deep in the whole, nothing in its front
none_on : (b : Bool) (o r : Option ℕ) → seen b o ≡ None → (o ≡ None → r ≡ None) → seen b r ≡ None
none_on true o r e h = absurd (none-some _ (sym e))
none_on false o r e h = ap later (h (later_none o e))

none_from : (d : Depth) (xs ys : List TokenKind) → deep_from d (xs ++ ys) ≡ None → deep_from d xs ≡ None
none_from d [] ys e = refl
none_from d (x ∷ xs) ys e = none_on (is_deep d x) (deep_from (after d x) (xs ++ ys)) (deep_from (after d x) xs) e (none_from (after d x) xs ys)

pub none_in_front : (xs ys : List TokenKind) → first_deep (xs ++ ys) ≡ None → first_deep xs ≡ None
none_in_front xs ys e = none_from shallow xs ys e

-- none before the first
before_on : (b : Bool) (o r : Option ℕ) (n i : ℕ) → seen b o ≡ Some i → suc n ≤ i → ((j : ℕ) → o ≡ Some j → n ≤ j → r ≡ None) → seen b r ≡ None
before_on true o r n i e h s = let z : 0 ≡ i = same_Some _ _ e in absurd (omega arith)
before_on false o r n i e h s =
    let f : Found o i = found o i e in
    let m : n ≤ f.at = omega (arith, f.next) in
    ap later (s f.at f.is m)

before_from : (d : Depth) (xs ys : List TokenKind) (i : ℕ) → deep_from d (xs ++ ys) ≡ Some i → length xs ≤ i → deep_from d xs ≡ None
before_from d [] ys i e h = refl
before_from d (x ∷ xs) ys i e h =
    before_on (is_deep d x) (deep_from (after d x) (xs ++ ys)) (deep_from (after d x) xs) (length xs) i e h (λ j. before_from (after d x) xs ys j)

pub none_before : (xs ys : List TokenKind) (i : ℕ) → first_deep (xs ++ ys) ≡ Some i → length xs ≤ i → first_deep xs ≡ None
none_before xs ys i e h = before_from shallow xs ys i e h

-- the first stands in each front that is longer
same_on : (b : Bool) (o r : Option ℕ) (n i : ℕ) → seen b o ≡ Some i → i < suc n → ((j : ℕ) → o ≡ Some j → j < n → r ≡ Some j) → seen b r ≡ Some i
same_on true o r n i e h s = e
same_on false o r n i e h s =
    let f : Found o i = found o i e in
    let m : f.at < n = omega (arith, f.next) in
    ap later (s f.at f.is m) ∙ ap (λ z. Some z) f.next

same_from : (d : Depth) (xs ys : List TokenKind) (i : ℕ) → deep_from d (xs ++ ys) ≡ Some i → i < length xs → deep_from d xs ≡ Some i
same_from d [] ys i e h = absurd (omega arith)
same_from d (x ∷ xs) ys i e h =
    same_on (is_deep d x) (deep_from (after d x) (xs ++ ys)) (deep_from (after d x) xs) (length xs) i e h (λ j. same_from (after d x) xs ys j)

pub same_in_front : (xs ys : List TokenKind) (i : ℕ) → first_deep (xs ++ ys) ≡ Some i → i < length xs → first_deep xs ≡ Some i
same_in_front xs ys i e h = same_from shallow xs ys i e h

-- the first stays so, whatever follows
more_on : (b : Bool) (o r : Option ℕ) (i : ℕ) → seen b o ≡ Some i → ((j : ℕ) → o ≡ Some j → r ≡ Some j) → seen b r ≡ Some i
more_on true o r i e s = e
more_on false o r i e s = let f : Found o i = found o i e in ap later (s f.at f.is) ∙ ap (λ z. Some z) f.next

more_from : (d : Depth) (xs ys : List TokenKind) (i : ℕ) → deep_from d xs ≡ Some i → deep_from d (xs ++ ys) ≡ Some i
more_from d [] ys i e = absurd (none-some i e)
more_from d (x ∷ xs) ys i e = more_on (is_deep d x) (deep_from (after d x) xs) (deep_from (after d x) (xs ++ ys)) i e (λ j. more_from (after d x) xs ys j)

pub same_before_more : (xs ys : List TokenKind) (i : ℕ) → first_deep xs ≡ Some i → first_deep (xs ++ ys) ≡ Some i
same_before_more xs ys i e = more_from shallow xs ys i e

-- the first stands among the tokens
within_on : (b : Bool) (o : Option ℕ) (n i : ℕ) → seen b o ≡ Some i → ((j : ℕ) → o ≡ Some j → j < n) → i < suc n
within_on true o n i e s = let z : 0 ≡ i = same_Some _ _ e in omega arith
within_on false o n i e s =
    let f : Found o i = found o i e in
    let m : f.at < n = s f.at f.is in
    omega (arith, f.next)

within_from : (d : Depth) (xs : List TokenKind) (i : ℕ) → deep_from d xs ≡ Some i → i < length xs
within_from d [] i e = absurd (none-some i e)
within_from d (x ∷ xs) i e = within_on (is_deep d x) (deep_from (after d x) xs) (length xs) i e (λ j. within_from (after d x) xs j)

pub deep_within : (xs : List TokenKind) (i : ℕ) → first_deep xs ≡ Some i → i < length xs
deep_within xs i e = within_from shallow xs i e

-- ---- the search, token by token

abbrev shifted : ℕ → Option ℕ → Option ℕ
shifted i o = option_map (λ k. k + i) o

shifted_later : (i : ℕ) (o : Option ℕ) → shifted i (later o) ≡ shifted (i + 1) o
shifted_later i None = refl
shifted_later i (Some k) = ap (λ n. Some n) (omega arith)

deep_at : (ts : List Token) (d : Depth) (i : ℕ) (t : Token) → i < length ts → t ≡ get_or ts i t → deep_from d (kinds (drop i ts)) ≡ seen (is_deep d t.kind) (deep_from (after d t.kind) (kinds (drop (i + 1) ts)))
deep_at ts d i t h e =
    ap (λ z. deep_from d (kinds z)) (drop-cons ts i t h) ∙ ap (λ (x : Token). deep_from d (x.kind ∷ kinds (drop (suc i) ts))) (sym e)
    ∙ ap (λ n. seen (is_deep d t.kind) (deep_from (after d t.kind) (kinds (drop n ts)))) (sym (add-one i))

pub first_here : (ts : List Token) (d : Depth) (i : ℕ) (t : Token) → i < length ts → t ≡ get_or ts i t → true ≡ is_deep d t.kind → first_deep (kinds ts) ≡ option_map (λ k. k + i) (deep_from d (kinds (drop i ts))) → Some i ≡ first_deep (kinds ts)
first_here ts d i t h e b so =
    let rest : Option ℕ = deep_from (after d t.kind) (kinds (drop (i + 1) ts)) in
    let none : i ≡ 0 + i = omega arith in
    ap (λ n. Some n) none ∙ sym (so ∙ ap (shifted i) (deep_at ts d i t h e) ∙ ap (λ z. shifted i (seen z rest)) (sym b))

pub first_later : (ts : List Token) (d : Depth) (i : ℕ) (t : Token) → i < length ts → t ≡ get_or ts i t → false ≡ is_deep d t.kind → first_deep (kinds ts) ≡ option_map (λ k. k + i) (deep_from d (kinds (drop i ts)))
    → first_deep (kinds ts) ≡ option_map (λ k. k + (i + 1)) (deep_from (after d t.kind) (kinds (drop (i + 1) ts)))
first_later ts d i t h e b so =
    let rest : Option ℕ = deep_from (after d t.kind) (kinds (drop (i + 1) ts)) in
    so ∙ ap (shifted i) (deep_at ts d i t h e) ∙ ap (λ z. shifted i (seen z rest)) (sym b) ∙ shifted_later i rest

pub first_none : (ts : List Token) (d : Depth) (i : ℕ) → length ts ≤ i → first_deep (kinds ts) ≡ option_map (λ k. k + i) (deep_from d (kinds (drop i ts))) → None ≡ first_deep (kinds ts)
first_none ts d i h so = sym (so ∙ ap (λ z. shifted i (deep_from d (kinds z))) (drop_of_length-le ts h))
