-- Tests of all or some elements of a list, one after another, by what each stands for.
use Rattle.std.proofs.Common.{◌≡◌, ◌<◌, ◌≤◌, ℕ, ◌+◌, Bool, true, false, List, length, map, take, sym, ◌∙◌, ap, subst, arith}
use Rattle.std.specs.Prelude.{All, ◌&&◌, ◌||◌, slice_index_or}
use Rattle.std.specs.List.{list_any, list_all}
use Rattle.std.proofs.lemmas.List.{get_or-map, length-map, take_all}
use Rattle.std.proofs.lemmas.List.Folds.{list_any_more, list_all_more, list_any_at, list_all_at}

-- an element of the list that a slice shows
pub shown : {A : Type 0} (xs ys : List A) (i : ℕ) (x : A) → ys ≡ xs → i < length ys → x ≡ slice_index_or ys i x → (i < length xs) × (x ≡ slice_index_or xs i x)
shown {A} xs ys i x same within is = (subst (λ (l : List A). i < length l) same within, subst (λ (l : List A). x ≡ slice_index_or l i x) same is)

pub past-shown : {A : Type 0} (xs ys : List A) (i : ℕ) → ys ≡ xs → length ys ≤ i → length xs ≤ i
past-shown {A} xs ys i same past = subst (λ (l : List A). length l ≤ i) same past

-- what holds of all holds of it
pub of-all : {A : Type 0} (P : A → Type 0) (xs : List A) (i : ℕ) (x : A) → All P xs → i < length xs → x ≡ slice_index_or xs i x → P x
of-all P xs i x all within is = subst P (sym is) (all i x within)

module _ {A B : Type 0} (f : A → B) (test : B → Bool) (xs : List A) where
  -- the element at a place
  here : (i : ℕ) (x : A) (b : Bool) → i < length xs → x ≡ slice_index_or xs i x → test (f x) ≡ b → test (slice_index_or (map f xs) i (f x)) ≡ b
  here i x b within is passes = ap test (get_or-map f xs i x (f x) within) ∙ ap (λ (y : A). test (f y)) (sym is) ∙ passes

  below : (i : ℕ) → i < length xs → i < length (map f xs)
  below i within = let long = length-map xs f in omega (arith, long, within)

  pub all-more : (i : ℕ) (x : A) → i < length xs → x ≡ slice_index_or xs i x → list_all test (take i (map f xs)) ≡ true → test (f x) ≡ true → list_all test (take (i + 1) (map f xs)) ≡ true
  all-more i x within is so_far passes =
      list_all_more test (map f xs) i (f x) (below i within)
      ∙ ap (λ (b : Bool). b && test (slice_index_or (map f xs) i (f x))) so_far
      ∙ here i x true within is passes

  pub all-fails : (i : ℕ) (x : A) → i < length xs → x ≡ slice_index_or xs i x → test (f x) ≡ false → list_all test (map f xs) ≡ false
  all-fails i x within is fails = list_all_at test (map f xs) i (f x) (below i within) (here i x false within is fails)

  pub all-done : (i : ℕ) → length xs ≤ i → list_all test (take i (map f xs)) ≡ true → list_all test (map f xs) ≡ true
  all-done i past so_far = ap (list_all test) (sym (take_all i (map f xs) (let long = length-map xs f in omega (arith, long, past)))) ∙ so_far

  pub any-more : (i : ℕ) (x : A) → i < length xs → x ≡ slice_index_or xs i x → list_any test (take i (map f xs)) ≡ false → test (f x) ≡ false → list_any test (take (i + 1) (map f xs)) ≡ false
  any-more i x within is so_far fails =
      list_any_more test (map f xs) i (f x) (below i within)
      ∙ ap (λ (b : Bool). b || test (slice_index_or (map f xs) i (f x))) so_far
      ∙ here i x false within is fails

  pub any-found : (i : ℕ) (x : A) → i < length xs → x ≡ slice_index_or xs i x → test (f x) ≡ true → list_any test (map f xs) ≡ true
  any-found i x within is passes = list_any_at test (map f xs) i (f x) (below i within) (here i x true within is passes)

  pub any-done : (i : ℕ) → length xs ≤ i → list_any test (take i (map f xs)) ≡ false → list_any test (map f xs) ≡ false
  any-done i past so_far = ap (list_any test) (sym (take_all i (map f xs) (let long = length-map xs f in omega (arith, long, past)))) ∙ so_far
