-- The first slot of a range that passes a test.
use Rattle.std.proofs.Common.{◌≡◌, ℕ, zero, suc, ◌+◌, ◌-◌, ◌<◌, ◌≤◌, Bool, true, false, cond, List, [], ◌∷◌, get_or, Option, Some, None, refl, sym, ap, ◌∙◌, arith, inl, inr}
use Rattle.std.specs.Prelude.{is_some}
use Rattle.std.specs.List.{find, list_any, range_with_len}
use Rattle.std.specs.Option.{option_or}
use Rattle.std.proofs.lemmas.Bool.{cases_Bool}
use Rattle.std.proofs.lemmas.List.Folds.{list_any_at}
use Rattle.std.proofs.lemmas.List.FromFn.{length-range_with_len, get_or-range_with_len}

-- the first number of a range, and those behind it
pub range_from : (first end : ℕ) → first < end → range_with_len first (end - first) ≡ first ∷ range_with_len (first + 1) (end - (first + 1))
range_from first end below =
    let more : end - first ≡ suc (end - (first + 1)) = omega arith in
    ap (range_with_len first) more

pub find_past : (p : ℕ → Bool) (first end : ℕ) → first < end → p first ≡ false → find p (range_with_len first (end - first)) ≡ find p (range_with_len (first + 1) (end - (first + 1)))
find_past p first end below fails = ap (find p) (range_from first end below) ∙ rw fails refl

pub find_same : (p q : ℕ → Bool) (first n : ℕ) → ((k : ℕ) → first ≤ k → k < first + n → p k ≡ q k) → find p (range_with_len first n) ≡ find q (range_with_len first n)
find_same p q first zero same = refl
find_same p q first (suc n) same =
    let here = same first (omega arith) (omega arith) in
    let rest = find_same p q (first + 1) n (λ k low high. same k (omega arith) (omega arith)) in
    ap (λ (b : Bool). cond b (Some first) (find p (range_with_len (first + 1) n))) here ∙ ap (cond (q first) (Some first)) rest

pub is_some-find : {X : Type 0} (p : X → Bool) (xs : List X) → is_some (find p xs) ≡ list_any p xs
is_some-find p [] = refl
is_some-find p (x ∷ xs) =
    elim (cases_Bool (p x)) [
      | inl passes ↦ rw passes refl
      | inr fails ↦ rw fails (is_some-find p xs)
    ]

pub record IsFoundIn (p : ℕ → Bool) (first n found : ℕ) : Type 0 where
  pub passes : p found ≡ true
  pub low : first ≤ found
  pub high : found < first + n

pub found_in : (p : ℕ → Bool) (first n found : ℕ) → find p (range_with_len first n) ≡ Some found → IsFoundIn p first n found
found_in p first zero found is = absurd cc
found_in p first (suc n) found is =
    elim (cases_Bool (p first)) [
      | inl passes ↦ (
          let one : Some first ≡ Some found = rw passes at is in
          let same : first ≡ found = cc in
          record { passes = ap p (sym same) ∙ passes; low = omega arith; high = omega arith })
      | inr fails ↦ (
          let rest = found_in p (first + 1) n found (rw fails at is) in
          record { passes = rest.passes; low = (let low = rest.low in omega arith); high = (let high = rest.high in omega arith) })
    ]

-- something passes from some slot on, or in all: then something passes in all
pub some_passes : (p : ℕ → Bool) (first end : ℕ) → is_some (option_or (find p (range_with_len first (end - first))) (find p (range_with_len 0 (end - 0)))) ≡ list_any p (range_with_len 0 (end - 0))
some_passes p first end = by (find p (range_with_len first (end - first))) refl
  where
    by : (o : Option ℕ) → find p (range_with_len first (end - first)) ≡ o → is_some (option_or o (find p (range_with_len 0 (end - 0)))) ≡ list_any p (range_with_len 0 (end - 0))
    by None is = is_some-find p (range_with_len 0 (end - 0))
    by (Some found) is =
        let at = found_in p first (end - first) found is in
        let low = at.low in
        let high = at.high in
        let here : get_or (range_with_len 0 (end - 0)) found 0 ≡ found = get_or-range_with_len 0 (end - 0) found 0 (omega arith) ∙ omega arith in
        sym (list_any_at p (range_with_len 0 (end - 0)) found 0 (omega (arith, length-range_with_len 0 (end - 0))) (ap p here ∙ at.passes))

pub find_none : (p : ℕ → Bool) (first n : ℕ) → ((k : ℕ) → first ≤ k → k < first + n → p k ≡ false) → find p (range_with_len first n) ≡ None
find_none p first zero none = refl
find_none p first (suc n) none =
    let fails = none first (omega arith) (omega arith) in
    rw fails (find_none p (first + 1) n (λ k low high. none k (omega arith) (omega arith)))

pub some_at : (p : ℕ → Bool) (end found : ℕ) → found < end → p found ≡ true → is_some (find p (range_with_len 0 (end - 0))) ≡ true
some_at p end found below passes =
    let here : get_or (range_with_len 0 (end - 0)) found 0 ≡ found = get_or-range_with_len 0 (end - 0) found 0 (omega arith) ∙ omega arith in
    is_some-find p (range_with_len 0 (end - 0)) ∙ list_any_at p (range_with_len 0 (end - 0)) found 0 (omega (arith, length-range_with_len 0 (end - 0))) (ap p here ∙ passes)
