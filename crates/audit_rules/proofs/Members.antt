-- Elements of a list, and tests of a list.
use Rattle.std.proofs.Common.{◌≡◌, ◌<◌, ◌⊎◌, ℕ, zero, suc, Bool, true, false, true≢false, List, [], ◌∷◌, length, map, cond, refl, sym, ◌∙◌, ap, arith, inl, inr}
use Rattle.std.specs.Prelude.{Contains, filter, slice_index_or, ◌||◌}
use Rattle.std.specs.List.{list_any, list_all}
use Rattle.std.proofs.lemmas.Bool.{and_from, and_parts, or_left, or_right}

module _ {A : Type 0} where
  pub Contains-nil : (a : A) → Contains [] a → ⊥
  Contains-nil a h = let l : h.0 < 0 = h.1 in absurd (omega (arith, l))

  pub Contains-head : (x : A) (xs : List A) (a : A) → x ≡ a → Contains (x ∷ xs) a
  Contains-head x xs a e = (0, omega arith, e)

  pub Contains-tail : (x : A) (xs : List A) (a : A) → Contains xs a → Contains (x ∷ xs) a
  Contains-tail x xs a h = let l = h.1 in (suc h.0, omega (arith, l), h.2)

  pub Contains-cases : (x : A) (xs : List A) (a : A) → Contains (x ∷ xs) a → (x ≡ a) ⊎ Contains xs a
  Contains-cases x xs a h = by h.0 h.1 h.2 where
    by : (k : ℕ) → k < length (x ∷ xs) → slice_index_or (x ∷ xs) k a ≡ a → (x ≡ a) ⊎ Contains xs a
    by zero l e = inl e
    by (suc k) l e = inr (k, omega (arith, l), e)

  pub Contains-map : (f : A → A) (xs : List A) (a : A) → Contains xs a → Contains (map f xs) (f a)
  Contains-map f [] a h = absurd (Contains-nil a h)
  Contains-map f (x ∷ xs) a h = elim (Contains-cases x xs a h) [
    | inl e ↦ Contains-head (f x) (map f xs) (f a) (ap f e)
    | inr g ↦ Contains-tail (f x) (map f xs) (f a) (Contains-map f xs a g)
  ]

  pub Contains-map_from : (f : A → A) (xs : List A) (b : A) → Contains (map f xs) b → (a : A) × Contains xs a × (f a ≡ b)
  Contains-map_from f [] b h = absurd (Contains-nil b h)
  Contains-map_from f (x ∷ xs) b h = elim (Contains-cases (f x) (map f xs) b h) [
    | inl e ↦ (x, Contains-head x xs x refl, e)
    | inr g ↦ (let k = Contains-map_from f xs b g in (k.0, Contains-tail x xs k.0 k.1, k.2))
  ]

  pub Contains-filter : (t : A → Bool) (xs : List A) (a : A) → Contains xs a → t a ≡ true → Contains (filter t xs) a
  Contains-filter t [] a h passes = absurd (Contains-nil a h)
  Contains-filter t (x ∷ xs) a h passes = by (t x) refl (Contains-cases x xs a h) (λ h. Contains-filter t xs a h passes) where
    by : (b : Bool) → t x ≡ b → (x ≡ a) ⊎ Contains xs a → (Contains xs a → Contains (filter t xs) a) → Contains (cond b (x ∷ filter t xs) (filter t xs)) a
    by true is (inl e) rest = Contains-head x (filter t xs) a e
    by true is (inr h) rest = Contains-tail x (filter t xs) a (rest h)
    by false is (inl e) rest = absurd (true≢false (sym passes ∙ ap t (sym e) ∙ is))
    by false is (inr h) rest = rest h

  pub Contains-filter_from : (t : A → Bool) (xs : List A) (a : A) → Contains (filter t xs) a → Contains xs a × (t a ≡ true)
  Contains-filter_from t [] a h = absurd (Contains-nil a h)
  Contains-filter_from t (x ∷ xs) a h = by (t x) refl h (Contains-filter_from t xs a) where
    by : (b : Bool) → t x ≡ b → Contains (cond b (x ∷ filter t xs) (filter t xs)) a → (Contains (filter t xs) a → Contains xs a × (t a ≡ true)) → Contains (x ∷ xs) a × (t a ≡ true)
    by true is h rest = elim (Contains-cases x (filter t xs) a h) [
      | inl e ↦ (Contains-head x xs a e, ap t (sym e) ∙ is)
      | inr g ↦ (let k = rest g in (Contains-tail x xs a k.0, k.1))
    ]
    by false is h rest = let k = rest h in (Contains-tail x xs a k.0, k.1)

  -- ---- tests

  pub any-has : (t : A → Bool) (xs : List A) (a : A) → Contains xs a → t a ≡ true → list_any t xs ≡ true
  any-has t [] a h passes = absurd (Contains-nil a h)
  any-has t (x ∷ xs) a h passes = elim (Contains-cases x xs a h) [
    | inl e ↦ or_left (t x) (list_any t xs) (ap t e ∙ passes)
    | inr g ↦ or_right (t x) (list_any t xs) (any-has t xs a g passes)
  ]

  pub has-any : (t : A → Bool) (xs : List A) → list_any t xs ≡ true → (a : A) × Contains xs a × (t a ≡ true)
  has-any t [] some = absurd (true≢false (sym some))
  has-any t (x ∷ xs) some = by (t x) refl some (has-any t xs) where
    by : (b : Bool) → t x ≡ b → (b || list_any t xs) ≡ true → (list_any t xs ≡ true → (a : A) × Contains xs a × (t a ≡ true)) → (a : A) × Contains (x ∷ xs) a × (t a ≡ true)
    by true is some rest = (x, Contains-head x xs x refl, is)
    by false is some rest = let k = rest some in (k.0, Contains-tail x xs k.0 k.1, k.2)

  pub all-has : (t : A → Bool) (xs : List A) (a : A) → list_all t xs ≡ true → Contains xs a → t a ≡ true
  all-has t [] a all h = absurd (Contains-nil a h)
  all-has t (x ∷ xs) a all h =
      let parts = and_parts (t x) (list_all t xs) all in
      elim (Contains-cases x xs a h) [ inl e ↦ ap t (sym e) ∙ parts.0 | inr g ↦ all-has t xs a parts.1 g ]

  pub has-all : (t : A → Bool) (xs : List A) → ((a : A) → Contains xs a → t a ≡ true) → list_all t xs ≡ true
  has-all t [] each = refl
  has-all t (x ∷ xs) each = and_from (t x) (list_all t xs) (each x (Contains-head x xs x refl)) (has-all t xs (λ a h. each a (Contains-tail x xs a h)))
