-- Lists that a function of the index gives, and the greatest number of a list.
use Rattle.std.proofs.Common.{◌≡◌, ℕ, ◌<◌, ◌≤◌, max, cond, ltb, ◌&&◌, List, [], ◌∷◌, ◌++◌, length, map, set, take, get_or, ◌∙◌, arith, inl, inr}
use Rattle.std.specs.List.{filter, range_with_len}
use Rattle.std.proofs.lemmas.Bool.{cases_eq}
use Rattle.std.proofs.lemmas.Bool.Decides.{nat_tests}
use Rattle.std.proofs.lemmas.List.{get_or-set_same, get_or-set_other, get_or_past, length-set}
use Rattle.std.proofs.lemmas.List.FromFn.{fill_by_all, length-map-range_with_len, get_or-map-range_with_len, take-map-range_with_len}
use Rattle.capsule_exchange.specs.Table.{table}
use Rattle.capsule_exchange.specs.Happenings.{greatest}

-- ---- n values

pub same_values : {X : Type 0} (f g : ℕ → X) (n : ℕ) → ((k : ℕ) → k < n → f k ≡ g k) → map f (range_with_len 0 n) ≡ map g (range_with_len 0 n)
same_values f g n same =
    fill_by_all g (map f (range_with_len 0 n)) n (f 0) (length-map-range_with_len f 0 n) (λ k below.
    get_or-map-range_with_len f 0 n k k (f 0) below (omega arith) ∙ same k below)

-- a write at one place
pub set_value : {X : Type 0} (f g : ℕ → X) (n i : ℕ) → i < n → ((k : ℕ) → k < n → (k ≡ i → ⊥) → f k ≡ g k) → set (map f (range_with_len 0 n)) i (g i) ≡ map g (range_with_len 0 n)
set_value f g n i within others =
    let values = map f (range_with_len 0 n) in
    let long : length values ≡ n = length-map-range_with_len f 0 n in
    let read = λ (k : ℕ) (below : k < n). get_or-map-range_with_len f 0 n k k (f 0) below (omega arith) in
    fill_by_all g (set values i (g i)) n (f 0) (length-set values i (g i) ∙ long) (λ k below.
    elim (cases_eq k i) [
      | inl same ↦ (let here : get_or (set values i (g i)) i (f 0) ≡ g i = get_or-set_same values i (g i) (f 0) (omega arith) in cc)
      | inr other ↦ get_or-set_other values i k (g i) (f 0) other ∙ read k below ∙ others k below other
    ])

-- ---- a value for each index of a fragment

pub same_table : {X : Type 0} (f g : ℕ → X) → ((k : ℕ) → k < 22 → f k ≡ g k) → table f ≡ table g
unfolding table
same_table f g same = same_values f g 22 same

pub set_table : {X : Type 0} (f g : ℕ → X) (i : ℕ) → i < 22 → ((k : ℕ) → k < 22 → (k ≡ i → ⊥) → f k ≡ g k) → set (table f) i (g i) ≡ table g
unfolding table
set_table f g i within others = set_value f g 22 i within others

pub table_at : {X : Type 0} (f : ℕ → X) (i : ℕ) (d : X) → i < 22 → get_or (table f) i d ≡ f i
unfolding table
table_at f i d within = get_or-map-range_with_len f 0 22 i i d within (omega arith)

pub table_past : {X : Type 0} (f : ℕ → X) (i : ℕ) (d : X) → 22 ≤ i → get_or (table f) i d ≡ d
unfolding table
table_past f i d past = get_or_past (map f (range_with_len 0 22)) i d (omega (arith, length-map-range_with_len f 0 22))

pub length-table : {X : Type 0} (f : ℕ → X) → length (table f) ≡ 22
unfolding table
length-table f = length-map-range_with_len f 0 22

pub take-table : {X : Type 0} (f : ℕ → X) (n : ℕ) → n ≤ 22 → take n (table f) ≡ map f (range_with_len 0 n)
unfolding table
take-table f n few = take-map-range_with_len f 0 22 n few

pub table_is : {X : Type 0} (f : ℕ → X) (xs : List X) (d : X) → length xs ≡ 22 → ((k : ℕ) → k < 22 → get_or xs k d ≡ f k) → xs ≡ table f
unfolding table
table_is f xs d long each = fill_by_all f xs 22 d long each

-- ---- the greatest number

pub greatest-append : (xs ys : List ℕ) → greatest (xs ++ ys) ≡ max (greatest xs) (greatest ys)
greatest-append [] ys = omega arith
greatest-append (x ∷ xs) ys = let rest = greatest-append xs ys in omega arith

-- one more number, which counts where it is over a limit
pub greatest_step : (limit most n : ℕ) → max most (greatest (filter (ltb limit) (n ∷ []))) ≡ cond (ltb limit n && ltb most n) n most
greatest_step limit most n = grind (arith, nat_tests)
