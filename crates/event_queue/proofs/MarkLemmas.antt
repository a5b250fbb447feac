-- Marks, bit by bit.
use Rattle.std.proofs.Common.{◌≡◌, ◌≢◌, ℕ, zero, suc, ◌+◌, ◌-◌, ◌*◌, ◌/◌, ◌%◌, ◌^◌, ◌<◌, ◌≤◌, List, length, get_or, set, replicate, bit_and, bit_or, refl, sym, ◌∙◌, ap, arith, inl, inr}
use Rattle.std.specs.Int.{w64, bit_at, bit_not}
use Rattle.std.proofs.lemmas.Bool.{cases_eq, cases_lt}
use Rattle.std.proofs.lemmas.List.{get_or-set_same, get_or-set_other}
use Rattle.std.proofs.lemmas.Nat.{shr-shr}
use Rattle.std.proofs.lemmas.Nat.Bits.{bit_at-zero, bit_at_above, bit_at_set_same, bit_at_set_other, bit_at_clear_other}

zeros : (n i : ℕ) → ◌≡◌ {A = ℕ} (get_or (replicate n 0) i 0) 0
zeros zero i = refl
zeros (suc n) zero = refl
zeros (suc n) (suc i) = zeros n i

pub bit_of_zeros : (i k : ℕ) → bit_at (get_or (replicate 32 0) i 0) k ≡ 0
bit_of_zeros i k = ap (λ (n : ℕ). bit_at n k) (zeros 32 i) ∙ bit_at-zero k

pub set_here : (ws : List ℕ) (slot : ℕ) → length ws ≡ 32 → slot < 2048 → bit_at (get_or (set ws (slot / 64) (bit_or (get_or ws (slot / 64) 0) (1 * 2 ^ (slot % 64) % 2 ^ 64))) (slot / 64) 0) (slot % 64) ≡ 1
set_here ws slot long below =
    let word : ℕ = bit_or (get_or ws (slot / 64) 0) (1 * 2 ^ (slot % 64) % 2 ^ 64) in
    ap (λ (n : ℕ). bit_at n (slot % 64)) (get_or-set_same ws (slot / 64) word 0 (omega (arith, long, below)))
    ∙ bit_at_set_same w64 (get_or ws (slot / 64) 0) (slot % 64) (omega arith)

-- a word with one bit written, at another slot
other_bit : (ws : List ℕ) (slot word s : ℕ) → s ≢ slot → ((i : ℕ) → i < 64 → i ≢ slot % 64 → bit_at word i ≡ bit_at (get_or ws (slot / 64) 0) i)
    → length ws ≡ 32 → slot < 2048 → bit_at (get_or (set ws (slot / 64) word) (s / 64) 0) (s % 64) ≡ bit_at (get_or ws (s / 64) 0) (s % 64)
other_bit ws slot word s other kept long below = elim (cases_eq (s / 64) (slot / 64)) [
  | inl e ↦ ap (λ (i : ℕ). bit_at (get_or (set ws (slot / 64) word) i 0) (s % 64)) e
      ∙ ap (λ (n : ℕ). bit_at n (s % 64)) (get_or-set_same ws (slot / 64) word 0 (omega (arith, long, below)))
      ∙ kept (s % 64) (omega arith) (λ same. other (omega (arith, same, e)))
      ∙ ap (λ (i : ℕ). bit_at (get_or ws i 0) (s % 64)) (sym e)
  | inr apart ↦ ap (λ (n : ℕ). bit_at n (s % 64)) (get_or-set_other ws (slot / 64) (s / 64) word 0 apart)
]

pub set_elsewhere : (ws : List ℕ) (slot s : ℕ) → length ws ≡ 32 → slot < 2048 → s ≢ slot
    → bit_at (get_or (set ws (slot / 64) (bit_or (get_or ws (slot / 64) 0) (1 * 2 ^ (slot % 64) % 2 ^ 64))) (s / 64) 0) (s % 64) ≡ bit_at (get_or ws (s / 64) 0) (s % 64)
set_elsewhere ws slot s long below other =
    other_bit ws slot (bit_or (get_or ws (slot / 64) 0) (1 * 2 ^ (slot % 64) % 2 ^ 64)) s other (λ i low apart. bit_at_set_other w64 (get_or ws (slot / 64) 0) (slot % 64) (omega arith) i apart) long below

pub clear_elsewhere : (ws : List ℕ) (slot s : ℕ) → length ws ≡ 32 → slot < 2048 → s ≢ slot
    → bit_at (get_or (set ws (slot / 64) (bit_and (get_or ws (slot / 64) 0) (bit_not w64 (1 * 2 ^ (slot % 64) % 2 ^ 64)))) (s / 64) 0) (s % 64) ≡ bit_at (get_or ws (s / 64) 0) (s % 64)
clear_elsewhere ws slot s long below other =
    other_bit ws slot (bit_and (get_or ws (slot / 64) 0) (bit_not w64 (1 * 2 ^ (slot % 64) % 2 ^ 64))) s other
    (λ i low apart. bit_at_clear_other w64 (get_or ws (slot / 64) 0) (slot % 64) (omega arith) i low apart) long below

-- a bit of what is above a place
pub above_bit : (n k i : ℕ) → bit_at (n / 2 ^ k / 2 ^ 1) i ≡ bit_at n (k + 1 + i)
above_bit n k i = ap (λ (m : ℕ). m / 2 ^ i % 2) (shr-shr n k 1) ∙ ap (λ (m : ℕ). m % 2) (shr-shr n (k + 1) i)

-- a bit that is set is within the word
pub set_within : (n i : ℕ) → n < 2 ^ 64 → bit_at n i ≡ 1 → i < 64
set_within n i low set = elim (cases_lt i 64) [ inl under ↦ under | inr over ↦ (let none = bit_at_above n 64 i low over in absurd (omega (arith, none, set))) ]

-- of what is above a slot in its word, a bit that is set is that of a slot
pub above_within : (ws : List ℕ) (slot t : ℕ) → get_or ws (slot / 64) 0 < 2 ^ 64 → slot < 2048 → bit_at (get_or ws (slot / 64) 0 / 2 ^ (slot % 64) / 2 ^ 1) t ≡ 1 → slot % 64 + 1 + t < 64
above_within ws slot t fits below set = set_within (get_or ws (slot / 64) 0) (slot % 64 + 1 + t) fits (sym (above_bit (get_or ws (slot / 64) 0) (slot % 64) t) ∙ set)

-- a slot above another one in its word
above_slot : (ws : List ℕ) (slot i : ℕ) → slot % 64 + 1 + i < 64 → bit_at (get_or ws ((slot + 1 + i) / 64) 0) ((slot + 1 + i) % 64) ≡ bit_at (get_or ws (slot / 64) 0 / 2 ^ (slot % 64) / 2 ^ 1) i
above_slot ws slot i within =
    let word : (slot + 1 + i) / 64 ≡ slot / 64 = omega (arith, within) in
    let place : (slot + 1 + i) % 64 ≡ slot % 64 + 1 + i = omega (arith, within) in
    ap (λ (j : ℕ). bit_at (get_or ws j 0) ((slot + 1 + i) % 64)) word ∙ ap (λ (k : ℕ). bit_at (get_or ws (slot / 64) 0) k) place ∙ sym (above_bit (get_or ws (slot / 64) 0) (slot % 64) i)

above_other : (ws : List ℕ) (slot s : ℕ) → slot < s → slot % 64 + (s - slot) < 64 → bit_at (get_or ws (s / 64) 0) (s % 64) ≡ bit_at (get_or ws (slot / 64) 0 / 2 ^ (slot % 64) / 2 ^ 1) (s - slot - 1)
above_other ws slot s after within =
    let is : s ≡ slot + 1 + (s - slot - 1) = omega (arith, after) in
    ap (λ (k : ℕ). bit_at (get_or ws (k / 64) 0) (k % 64)) is ∙ above_slot ws slot (s - slot - 1) (omega (arith, after, within))

pub above_between : (ws : List ℕ) (slot t : ℕ) → get_or ws (slot / 64) 0 < 2 ^ 64 → slot < 2048 → bit_at (get_or ws (slot / 64) 0 / 2 ^ (slot % 64) / 2 ^ 1) t ≡ 1
    → ((i : ℕ) → i < t → bit_at (get_or ws (slot / 64) 0 / 2 ^ (slot % 64) / 2 ^ 1) i ≡ 0) → (s : ℕ) → slot < s → s < slot + 1 + t → bit_at (get_or ws (s / 64) 0) (s % 64) ≡ 0
above_between ws slot t fits below set first s after before =
    let within = above_within ws slot t fits below set in
    above_other ws slot s after (omega (arith, within, after, before)) ∙ first (s - slot - 1) (omega (arith, after, before))

-- nothing is marked in the rest of the word
pub above_none : (ws : List ℕ) (slot : ℕ) → get_or ws (slot / 64) 0 / 2 ^ (slot % 64) / 2 ^ 1 ≡ 0 → (s : ℕ) → slot < s → s < (slot / 64 + 1) * 64 → bit_at (get_or ws (s / 64) 0) (s % 64) ≡ 0
above_none ws slot none s after before =
    above_other ws slot s after (omega (arith, after, before)) ∙ ap (λ (n : ℕ). bit_at n (s - slot - 1)) none ∙ bit_at-zero (s - slot - 1)

-- a further word, as far as its bits are not set
pub word_more : (ws : List ℕ) (slot word t : ℕ) → t ≤ 64 → ((i : ℕ) → i < t → bit_at (get_or ws word 0) i ≡ 0) → ((s : ℕ) → slot < s → s < word * 64 → bit_at (get_or ws (s / 64) 0) (s % 64) ≡ 0)
    → (s : ℕ) → slot < s → s < word * 64 + t → bit_at (get_or ws (s / 64) 0) (s % 64) ≡ 0
word_more ws slot word t most none before s after low = elim (cases_lt s (word * 64)) [
  | inl under ↦ before s after under
  | inr over ↦ (
      let here : s / 64 ≡ word = omega (arith, over, low, most) in
      ap (λ (i : ℕ). bit_at (get_or ws i 0) (s % 64)) here ∙ none (s % 64) (omega (arith, over, low, most)))
]

pub no_bits : (n : ℕ) → n ≡ 0 → (i : ℕ) → bit_at n i ≡ 0
no_bits n none i = ap (λ (m : ℕ). bit_at m i) none ∙ bit_at-zero i
