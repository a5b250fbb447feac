-- The mask of some indices, bit by bit.
use Rattle.std.proofs.Common.{◌≡◌, ℕ, ◌+◌, ◌*◌, ◌%◌, ◌^◌, ◌<◌, ◌≤◌, Bool, true, false, not, cond, get_or, Option, Some, None, List, [], ◌∷◌, ◌++◌, length, refl, sym, ap, ◌∙◌, arith}
use Rattle.std.specs.Prelude.{bit_and, bit_or, is_some, is_none}
use Rattle.std.specs.Int.Bits.{or_add_and}
use Rattle.std.specs.List.{filter, range_with_len}
use Rattle.std.proofs.Math.Nat.{mod-eq_of_lt}
use Rattle.std.proofs.Math.Pow.{pow-lt}
use Rattle.std.proofs.lemmas.Grind.{common_steps}
use Rattle.std.proofs.lemmas.List.{map-id, get_or_read}
use Rattle.std.proofs.lemmas.List.Elements.{filter-append}
use Rattle.std.proofs.lemmas.List.FromFn.{map-range_with_len_more}
use Rattle.std.proofs.lemmas.List.Sums.{sum_by-append}
use Rattle.std.proofs.lemmas.Nat.Bits.{and_pow, bit_at_above}
use Rattle.arrayvec.specs.ArrayVec.{ArrayVec}
use Rattle.capsule_exchange.specs.Happenings.{mask_of}

pub range_push : (n : ℕ) → range_with_len 0 (n + 1) ≡ range_with_len 0 n ++ n ∷ []
range_push n =
    sym (map-id (range_with_len 0 (n + 1)))
    ∙ map-range_with_len_more (λ (k : ℕ). k) 0 n n (omega arith)
    ∙ ap (λ (ks : List ℕ). ks ++ n ∷ []) (map-id (range_with_len 0 n))

pub filter_push : (p : ℕ → Bool) (n : ℕ) → filter p (range_with_len 0 (n + 1)) ≡ filter p (range_with_len 0 n) ++ cond (p n) (n ∷ []) []
filter_push p n = ap (filter p) (range_push n) ∙ filter-append p (range_with_len 0 n) (n ∷ [])

mask_of_one : (b : Bool) (n : ℕ) → mask_of (cond b (n ∷ []) []) ≡ cond b (2 ^ n) 0
mask_of_one true n = omega arith
mask_of_one false n = refl

pub mask_push : (p : ℕ → Bool) (n : ℕ) → mask_of (filter p (range_with_len 0 (n + 1))) ≡ mask_of (filter p (range_with_len 0 n)) + cond (p n) (2 ^ n) 0
mask_push p n =
    ap mask_of (filter_push p n)
    ∙ sum_by-append (λ (i : ℕ). 2 ^ i) (filter p (range_with_len 0 n)) (cond (p n) (n ∷ []) [])
    ∙ ap (λ (m : ℕ). mask_of (filter p (range_with_len 0 n)) + m) (mask_of_one (p n) n)

-- a bit above all that are set
pub or_above : (mask n : ℕ) → mask < 2 ^ n → bit_or mask (2 ^ n) ≡ mask + 2 ^ n
or_above mask n below =
    let none : bit_and mask (2 ^ n) ≡ 0 = and_pow mask n ∙ ap (λ (b : ℕ). b * 2 ^ n) (bit_at_above mask n n below (omega arith)) ∙ omega arith in
    let both = or_add_and mask (2 ^ n) in
    omega arith

-- ---- the indices with no piece, one after another

abbrev pub mask_upto : List (Option (ArrayVec ℕ)) → ℕ → ℕ
mask_upto places n = mask_of (filter (λ (i : ℕ). is_none (get_or places i None)) (range_with_len 0 n))

-- what was read at the index
read_place : (places : List (Option (ArrayVec ℕ))) (i : ℕ) (place : Option (ArrayVec ℕ)) → i < length places → place ≡ get_or places i place → get_or places i None ≡ place
read_place places i place within read = sym (get_or_read places i place within read None)

none_by : (place : Option (ArrayVec ℕ)) (b : Bool) → is_some place ≡ not b → is_none place ≡ b
none_by None true e = refl
none_by None false e = sym e
none_by (Some piece) true e = sym e
none_by (Some piece) false e = refl

mask_next : (places : List (Option (ArrayVec ℕ))) (i : ℕ) (place : Option (ArrayVec ℕ)) (b : Bool) → i < length places → place ≡ get_or places i place → is_some place ≡ not b
    → mask_upto places (i + 1) ≡ mask_upto places i + cond b (2 ^ i) 0
mask_next places i place b within read is =
    mask_push (λ (k : ℕ). is_none (get_or places k None)) i
    ∙ ap (λ (c : Bool). mask_upto places i + cond c (2 ^ i) 0) (ap is_none (read_place places i place within read) ∙ none_by place b is)

pub mask_with : (places : List (Option (ArrayVec ℕ))) (i mask next : ℕ) (place : Option (ArrayVec ℕ)) → length places ≤ 22 → i < length places → place ≡ get_or places i place → is_some place ≡ false
    → mask ≡ mask_upto places i → mask < 2 ^ i → next ≡ bit_or mask (1 * 2 ^ i % 2 ^ 32) → (next ≡ mask_upto places (i + 1)) × (next < 2 ^ (i + 1))
mask_with places i mask next place few within read is so_far high or =
    let small : 1 * 2 ^ i < 2 ^ 32 = omega (arith, pow-lt {i = i} {j = 32} (omega arith)) in
    let bit : 1 * 2 ^ i % 2 ^ 32 ≡ 2 ^ i = mod-eq_of_lt small ∙ omega arith in
    let now : next ≡ mask + 2 ^ i = or ∙ ap (bit_or mask) bit ∙ or_above mask i high in
    let sum : mask_upto places (i + 1) ≡ mask_upto places i + 2 ^ i = mask_next places i place true within read is in
    (omega arith, grind (arith, common_steps))

pub mask_without : (places : List (Option (ArrayVec ℕ))) (i mask : ℕ) (place : Option (ArrayVec ℕ)) → i < length places → place ≡ get_or places i place → is_some place ≡ true
    → mask ≡ mask_upto places i → mask < 2 ^ i → (mask ≡ mask_upto places (i + 1)) × (mask < 2 ^ (i + 1))
mask_without places i mask place within read is so_far high =
    let sum : mask_upto places (i + 1) ≡ mask_upto places i + 0 = mask_next places i place false within read is in
    (omega arith, grind (arith, common_steps))
