-- The first place of a name among names: in a longer list, in a part of one, and next to other names.
use Rattle.std.proofs.Common.{◌≡◌, ℕ, suc, zero, ◌+◌, ◌<◌, List, [], ◌∷◌, ◌++◌, length, map, take, Bool, true, false, cond, Option, Some, None, option_map, slice_get, refl, ap, sym, ◌∙◌, arith}
use Rattle.std.specs.Prelude.{bytes_eq, IfSome, is_some}
use Rattle.std.proofs.Common.{subst, get_or}
use Rattle.std.proofs.lemmas.List.{length-take, length-map, take_more, map-append}
use Rattle.std.specs.List.{position_from}
use Rattle.std.specs.Map.{lookup, update}
use Rattle.std.specs.Option.{option_and_then}
use Rattle.std.proofs.lemmas.Bool.{cond_both}
use Rattle.std.proofs.lemmas.Bool.Decides.{nat_tests}
use Rattle.std.proofs.lemmas.Slice.Eq.{bytes_eq-Decides}
use Rattle.mate_num.specs.Lists.{Each}
use Rattle.ts_trees.specs.declared.word.Word.{Word}
use Rattle.ts_proc_names.specs.Places.{place_of_name, place_below, declared_as}
use Rattle.ts_proc_names.specs.Numbers.{kept_or}

later : (k : ℕ) (o : Option ℕ) → option_map (λ i. (k + 1) + i) o ≡ option_map (λ i. k + i) (option_map (λ i. (0 + 1) + i) o)
later k None = refl
later k (Some i) = let e : (k + 1) + i ≡ k + ((0 + 1) + i) = omega arith in ap Some e

-- counted from a later number, the place is as much later
pub position_from-add : {K : Type 0} (t : K → Bool) (k : ℕ) (xs : List K) → position_from t k xs ≡ option_map (λ i. k + i) (position_from t 0 xs)
position_from-add t k [] = refl
position_from-add t k (x ∷ xs) =
    let e : k ≡ k + 0 = omega arith in
    elim (t x) as (λ b. cond b (Some k) (position_from t (k + 1) xs) ≡ option_map (λ i. k + i) (cond b (Some 0) (position_from t (0 + 1) xs))) [
      | true ↦ ap Some e
      | false ↦ position_from-add t (k + 1) xs ∙ later k (position_from t 0 xs) ∙ sym (ap (option_map (λ i. k + i)) (position_from-add t (0 + 1) xs))
    ]

pushed_here : (b : Bool) (k m : ℕ) → k ≡ m → cond b (Some k) None ≡ kept_or None b m
pushed_here true k m e = ap Some e
pushed_here false k m e = refl

-- one more item has its place, unless the test held before
pub position_from-push : {K : Type 0} (t : K → Bool) (k : ℕ) (xs : List K) (y : K) → position_from t k (xs ++ y ∷ []) ≡ kept_or (position_from t k xs) (t y) (k + length xs)
position_from-push t k [] y = let e : k ≡ k + 0 = omega arith in pushed_here (t y) k (k + 0) e
position_from-push t k (x ∷ xs) y =
    let e : (k + 1) + length xs ≡ k + suc (length xs) = omega arith in
    elim (t x) as (λ b. cond b (Some k) (position_from t (k + 1) (xs ++ y ∷ [])) ≡ kept_or (cond b (Some k) (position_from t (k + 1) xs)) (t y) (k + suc (length xs))) [
      | true ↦ refl
      | false ↦ position_from-push t (k + 1) xs y ∙ ap (kept_or (position_from t (k + 1) xs) (t y)) e
    ]

place_below-zero : (o : Option ℕ) → None ≡ place_below 0 o
place_below-zero None = refl
place_below-zero (Some i) = grind (arith, nat_tests)

place_below-later : (n : ℕ) (o : Option ℕ) → option_map (λ i. (0 + 1) + i) (place_below n o) ≡ place_below (suc n) (option_map (λ i. (0 + 1) + i) o)
place_below-later n None = refl
place_below-later n (Some i) = grind (arith, nat_tests)

place_below-first : (n : ℕ) → Some 0 ≡ place_below (suc n) (Some 0)
place_below-first n = grind (arith, nat_tests)

-- among the first items the place is the same, if it is one of theirs
pub position_from-take : {K : Type 0} (t : K → Bool) (n : ℕ) (xs : List K) → position_from t 0 (take n xs) ≡ place_below n (position_from t 0 xs)
position_from-take t zero xs = place_below-zero (position_from t 0 xs)
position_from-take t (suc n) [] = refl
position_from-take t (suc n) (x ∷ xs) =
    elim (t x) as (λ b. cond b (Some 0) (position_from t (0 + 1) (take n xs)) ≡ place_below (suc n) (cond b (Some 0) (position_from t (0 + 1) xs))) [
      | true ↦ place_below-first n
      | false ↦ position_from-add t (0 + 1) (take n xs) ∙ ap (option_map (λ i. (0 + 1) + i)) (position_from-take t n xs) ∙ place_below-later n (position_from t 0 xs)
          ∙ sym (ap (place_below (suc n)) (position_from-add t (0 + 1) xs))
    ]

behind : {A : Type 0} (e : List ℕ × A) (es : List (List ℕ × A)) (o : Option ℕ)
    → option_and_then (λ i. option_map (λ d. d.1) (slice_get es i)) o ≡ option_and_then (λ i. option_map (λ d. d.1) (slice_get (e ∷ es) i)) (option_map (λ i. (0 + 1) + i) o)
behind e es None = refl
behind e es (Some i) = let s : suc i ≡ (0 + 1) + i = omega arith in ap (λ j. option_map (λ d. d.1) (slice_get (e ∷ es) j)) s

-- what stands beside the first key that passes stands at its place
pub lookup-place : {A : Type 0} (t : List ℕ → Bool) (es : List (List ℕ × A))
    → lookup t es ≡ option_and_then (λ i. option_map (λ d. d.1) (slice_get es i)) (position_from t 0 (map (λ d. d.0) es))
lookup-place t [] = refl
lookup-place t (e ∷ es) =
    elim (t e.0) as (λ b. cond b (Some e.1) (lookup t es)
    ≡ option_and_then (λ i. option_map (λ d. d.1) (slice_get (e ∷ es) i)) (cond b (Some 0) (position_from t (0 + 1) (map (λ d. d.0) es)))) [
      | true ↦ refl
      | false ↦ lookup-place t es ∙ behind e es (position_from t 0 (map (λ d. d.0) es))
          ∙ sym (ap (option_and_then (λ i. option_map (λ d. d.1) (slice_get (e ∷ es) i))) (position_from-add t (0 + 1) (map (λ d. d.0) es)))
    ]

-- what holds of a value under a weaker fact
pub if_some : (o : Option ℕ) (P Q : ℕ → Type 0) → ((i : ℕ) → P i → Q i) → IfSome o P → IfSome o Q
if_some None P Q weaker h = tt
if_some (Some i) P Q weaker h = weaker i h

-- a place is that of an item
pub position_from-within : {K : Type 0} (t : K → Bool) (k : ℕ) (xs : List K) → IfSome (position_from t k xs) (λ i. i < k + length xs)
position_from-within t k [] = tt
position_from-within t k (x ∷ xs) =
    elim (t x) as (λ b. IfSome (cond b (Some k) (position_from t (k + 1) xs)) (λ i. i < k + suc (length xs))) [
      | true ↦ omega arith
      | false ↦ if_some (position_from t (k + 1) xs) (λ i. i < (k + 1) + length xs) (λ i. i < k + suc (length xs)) (λ i h. omega arith) (position_from-within t (k + 1) xs)
    ]

-- among the first n names, a place is below n, and that of a name
pub place_of_name-below : (names : List (List ℕ)) (n : ℕ) (name : List ℕ) (r : Option ℕ) → r ≡ place_of_name (take n names) name → IfSome r (λ i. i < n)
place_of_name-below names n name r is =
    let P : Option ℕ → Type 0 = λ o. IfSome o (λ i. i < n) in
    subst P (sym is) (if_some (place_of_name (take n names) name) (λ i. i < 0 + length (take n names)) (λ i. i < n) (λ i h. omega (arith, length-take n names)) (position_from-within (bytes_eq name) 0 (take n names)))

pub place_of_name-within : (names : List (List ℕ)) (n : ℕ) (name : List ℕ) (r : Option ℕ) → r ≡ place_of_name (take n names) name → IfSome r (λ i. i < length names)
place_of_name-within names n name r is =
    let P : Option ℕ → Type 0 = λ o. IfSome o (λ i. i < length names) in
    subst P (sym is) (if_some (place_of_name (take n names) name) (λ i. i < 0 + length (take n names)) (λ i. i < length names) (λ i h. omega (arith, length-take n names)) (position_from-within (bytes_eq name) 0 (take n names)))

nothing : (o : Option ℕ) → is_some o ≡ false → o ≡ None
nothing None e = refl
nothing (Some n) e = cc

something : (o : Option ℕ) (n : ℕ) → is_some o ≡ true → o ≡ kept_or o true n
something None n e = cc
something (Some m) n e = refl

kept : (o : Option ℕ) (n : ℕ) → kept_or o false n ≡ o
kept None n = refl
kept (Some m) n = refl

not_same : (xs ys : List ℕ) → bytes_eq xs ys ≡ false → bytes_eq ys xs ≡ false
not_same xs ys e =
    elim (bytes_eq ys xs) as (λ b. bytes_eq ys xs ≡ b → b ≡ false) [
      | true ↦ λ there. sym ((bytes_eq-Decides xs ys).1 (sym ((bytes_eq-Decides ys xs).0 there))) ∙ e
      | false ↦ λ there. refl
    ] refl

-- a table in which a new name is set has it beside the others
pub updated : (f : List ℕ → Option ℕ) (bs q : List ℕ) (n : ℕ) → is_some (f bs) ≡ false → update bytes_eq f bs (Some n) q ≡ kept_or (f q) (bytes_eq q bs) n
updated f bs q n new =
    elim (bytes_eq bs q) as (λ b. bytes_eq bs q ≡ b → cond b (Some n) (f q) ≡ kept_or (f q) (bytes_eq q bs) n) [
      | true ↦ λ e.
          let same : bs ≡ q = (bytes_eq-Decides bs q).0 e in
          let back : bytes_eq q bs ≡ true = (bytes_eq-Decides q bs).1 (sym same) in
          sym (ap (λ b. kept_or (f q) b n) back ∙ ap (λ o. kept_or o true n) (ap f (sym same) ∙ nothing (f bs) new))
      | false ↦ λ e.
          let back : bytes_eq q bs ≡ false = not_same bs q e in
          sym (ap (λ b. kept_or (f q) b n) back ∙ kept (f q) n)
    ] refl

-- a table in which a name stands already keeps it
pub kept_all : (f : List ℕ → Option ℕ) (bs q : List ℕ) (n : ℕ) → is_some (f bs) ≡ true → f q ≡ kept_or (f q) (bytes_eq q bs) n
kept_all f bs q n there =
    elim (bytes_eq q bs) as (λ b. bytes_eq q bs ≡ b → f q ≡ kept_or (f q) b n) [
      | true ↦ λ e.
          let same : q ≡ bs = (bytes_eq-Decides q bs).0 e in
          something (f q) n (ap (λ o. is_some (f o)) same ∙ there)
      | false ↦ λ e. sym (kept (f q) n)
    ] refl

-- a place among the first n names
pub among_names : (names : List (List ℕ)) (n : ℕ) (name : List ℕ) (o : Option ℕ) → o ≡ place_of_name names name → place_below n o ≡ place_of_name (take n names) name
among_names names n name o is = ap (place_below n) is ∙ sym (position_from-take (bytes_eq name) n names)

-- words by their names
pub position_from-map : (t : List ℕ → Bool) (k : ℕ) (words : List Word) → position_from t k (map (λ w. w.name) words) ≡ position_from (λ w. t w.name) k words
position_from-map t k [] = refl
position_from-map t k (w ∷ ws) = ap (cond (t w.name) (Some k)) (position_from-map t (k + 1) ws)

-- a table of the names so far, with one more
pub added : {A : Type 0} (f : A → List ℕ) (xs : List A) (i : ℕ) (x : A) (name : List ℕ) {o : Option ℕ} → i < length xs → x ≡ get_or xs i x
    → o ≡ place_of_name (map f (take i xs)) name → kept_or o (bytes_eq name (f x)) i ≡ place_of_name (map f (take (i + 1) xs)) name
added f xs i x name {o} within is old =
    let more : take (i + 1) xs ≡ take i xs ++ x ∷ [] = take_more xs i x within ∙ ap (λ y. take i xs ++ y ∷ []) (sym is) in
    let len : i ≡ 0 + length (map f (take i xs)) = omega (arith, length-map (take i xs) f, length-take i xs) in
    sym (ap (λ ys. place_of_name (map f ys) name) more ∙ ap (λ ys. place_of_name ys name) (map-append f (take i xs) (x ∷ []))
    ∙ position_from-push (bytes_eq name) 0 (map f (take i xs)) (f x)
    ∙ ap (λ o. kept_or o (bytes_eq name (f x)) (0 + length (map f (take i xs)))) (sym old)
    ∙ ap (kept_or o (bytes_eq name (f x))) (sym len))

pub place_of_name-within_map : {A : Type 0} (f : A → List ℕ) (xs : List A) (n : ℕ) (name : List ℕ) (r : Option ℕ) → r ≡ place_of_name (take n (map f xs)) name → IfSome r (λ i. i < length xs)
place_of_name-within_map f xs n name r is =
    if_some r (λ i. i < length (map f xs)) (λ i. i < length xs) (λ i h. omega (arith, length-map xs f)) (place_of_name-within (map f xs) n name r is)

keys_of : {A B : Type 0} (f : A → List ℕ) (g : A → B) (n : ℕ) (xs : List A) → map (λ (d : List ℕ × B). d.0) (take n (map (λ x. (f x, g x)) xs)) ≡ take n (map f xs)
keys_of f g zero xs = refl
keys_of f g (suc n) [] = refl
keys_of f g (suc n) (x ∷ xs) = ap (λ ks. f x ∷ ks) (keys_of f g n xs)

values_of : {A B : Type 0} (f : A → List ℕ) (g : A → B) (n : ℕ) (xs : List A) (i : ℕ) (x : A) → i < n → i < length xs → x ≡ get_or xs i x
    → option_map (λ (d : List ℕ × B). d.1) (slice_get (take n (map (λ x. (f x, g x)) xs)) i) ≡ Some (g x)
values_of f g zero xs i x less within is = absurd (omega arith)
values_of f g (suc n) [] i x less within is = absurd (omega arith)
values_of f g (suc n) (y ∷ ys) zero x less within is = ap (λ z. Some (g z)) (sym is)
values_of f g (suc n) (y ∷ ys) (suc i) x less within is = values_of f g n ys i x (omega arith) (omega arith) is

-- what stands beside the first of a name among the first n names
pub declared_none : {A B : Type 0} (f : A → List ℕ) (g : A → B) (n : ℕ) (xs : List A) (name : List ℕ) → place_of_name (take n (map f xs)) name ≡ None
    → declared_as (take n (map (λ x. (f x, g x)) xs)) name ≡ None
declared_none {A} {B} f g n xs name none =
    let es : List (List ℕ × B) = take n (map (λ x. (f x, g x)) xs) in
    lookup-place (bytes_eq name) es ∙ ap (option_and_then (λ i. option_map (λ d. d.1) (slice_get es i))) (ap (λ ks. place_of_name ks name) (keys_of f g n xs) ∙ none)

pub declared_found : {A B : Type 0} (f : A → List ℕ) (g : A → B) (n : ℕ) (xs : List A) (name : List ℕ) (i : ℕ) (x : A) → place_of_name (take n (map f xs)) name ≡ Some i
    → i < n → i < length xs → x ≡ get_or xs i x → declared_as (take n (map (λ x. (f x, g x)) xs)) name ≡ Some (g x)
declared_found {A} {B} f g n xs name i x found less within is =
    let es : List (List ℕ × B) = take n (map (λ x. (f x, g x)) xs) in
    lookup-place (bytes_eq name) es ∙ ap (option_and_then (λ i. option_map (λ d. d.1) (slice_get es i))) (ap (λ ks. place_of_name ks name) (keys_of f g n xs) ∙ found)
    ∙ values_of f g n xs i x less within is

-- what holds of each that is declared holds of the one of a name
pub each-declared : {A : Type 0} (Is : A → Type 0) (known : List (List ℕ × A)) (name : List ℕ) → Each (λ c. Is c.1) known → IfSome (declared_as known name) Is
each-declared Is [] name each = tt
each-declared Is (c ∷ known) name each = cond_both (bytes_eq name c.0) _ _ (λ o. IfSome o Is) (λ _. each.0) (λ _. each-declared Is known name each.1)
