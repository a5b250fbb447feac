-- What a store that is seen shows, resource by resource and seat by seat.
use Rattle.std.proofs.Common.{◌≡◌, ◌<◌, ◌≤◌, ◌⊎◌, ℕ, zero, suc, ◌+◌, Bool, true, false, List, [], ◌∷◌, ◌++◌, length, map, take, refl, sym, ◌∙◌, ap, inl, inr, arith}
use Rattle.std.specs.Prelude.{◌&&◌, slice_index_or}
use Rattle.std.proofs.lemmas.Bool.{cases_lt}
use Rattle.std.proofs.lemmas.List.{take_more, take_all, get_or-map, length-map, map-append}
use Rattle.audit_rules.specs.Shown.{all_below}

pub below-more : (test : ℕ → Bool) (v : ℕ) → test v ≡ true → all_below test v ≡ true → all_below test (v + 1) ≡ true
below-more test v here others =
    ap (all_below test) (let e : v + 1 ≡ suc v = omega arith in e)
    ∙ ap (λ (b : Bool). b && all_below test v) here ∙ others

and-false : (b : Bool) → (b && false) ≡ false
and-false true = refl
and-false false = refl

pub below-fails : (test : ℕ → Bool) (n v : ℕ) → v < n → test v ≡ false → all_below test n ≡ false
below-fails test zero v below fails = absurd (omega arith)
below-fails test (suc n) v below fails = by (cases_lt v n) (below-fails test n v) where
  by : (v < n) ⊎ (n ≤ v) → (v < n → test v ≡ false → all_below test n ≡ false) → all_below test (suc n) ≡ false
  by (inl low) later = ap (λ (b : Bool). test n && b) (later low fails) ∙ and-false (test n)
  by (inr high) later =
      let same : n ≡ v = omega (arith, below, high) in
      ap (λ (b : Bool). b && all_below test n) (ap test same ∙ fails)

-- one more element of a list that is mapped
pub map-more : {A B C : Type 0} (f : A → B) (g : B → C) (xs : List A) (i : ℕ) (x : A) (ys : List C) → i < length xs → x ≡ slice_index_or xs i x → ys ≡ map g (take i (map f xs)) → ys ++ g (f x) ∷ [] ≡ map g (take (i + 1) (map f xs))
map-more {A} {B} {C} f g xs i x ys within is so_far =
    let long = length-map xs f in
    ap (λ (zs : List C). zs ++ g (f x) ∷ []) so_far
    ∙ sym (map-append g (take i (map f xs)) (f x ∷ []))
    ∙ ap (map g)
    (ap (λ (y : B). take i (map f xs) ++ y ∷ []) (ap f is ∙ sym (get_or-map f xs i x (f x) within))
    ∙ sym (take_more (map f xs) i (f x) (omega (arith, long, within))))

-- the element at a place of a list that is mapped
pub map-at : {A B C : Type 0} (f : A → B) (g : B → C) (xs : List A) (ys : List C) (i : ℕ) (x : A) (y : C) → ys ≡ map g (map f xs) → i < length xs → x ≡ slice_index_or xs i x → y ≡ slice_index_or ys i y → y ≡ g (f x)
map-at {A} {B} {C} f g xs ys i x y same within is_x is_y =
    let long = length-map xs f in
    is_y
    ∙ ap (λ (zs : List C). slice_index_or zs i y) same
    ∙ get_or-map g (map f xs) i (f x) y (omega (arith, long, within))
    ∙ ap g (get_or-map f xs i x (f x) within ∙ ap f (sym is_x))

-- all elements of a list that is mapped
pub map-done : {A B C : Type 0} (f : A → B) (g : B → C) (xs : List A) (i : ℕ) (ys : List C) → length xs ≤ i → ys ≡ map g (take i (map f xs)) → ys ≡ map g (map f xs)
map-done {A} {B} {C} f g xs i ys past so_far =
    let long = length-map xs f in
    so_far ∙ ap (map g) (take_all i (map f xs) (omega (arith, long, past)))

pub map-below : {A B C : Type 0} (f : A → B) (g : B → C) (xs : List A) (ys : List C) (i : ℕ) → ys ≡ map g (map f xs) → i < length xs → i < length ys
map-below {A} {B} {C} f g xs ys i same within =
    let long = length-map xs f in
    let longer = length-map (map f xs) g in
    let as_long = ap (λ (zs : List C). length zs) same in
    omega (arith, long, longer, as_long, within)
