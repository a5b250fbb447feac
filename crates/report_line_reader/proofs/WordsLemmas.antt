-- Lemmas on `specs/Words.antt`.
use Rattle.std.proofs.Common.{◌≡◌, ℕ, ◌+◌, ◌<◌, ◌≤◌, suc, Bool, true, false, not, ◌==◌, List, [], ◌∷◌, length, take, drop, Some, refl, sym, ap, ◌∙◌, arith, inl, inr, IsTrue}
use Rattle.std.proofs.lemmas.Bool.{cases_Bool}
use Rattle.std.specs.List.{prefix_len, onto_first}
use Rattle.std.proofs.lemmas.List.Splits.{slice_split-cons_yes, slice_split-cons_no}
use Rattle.report_line_reader.specs.Words.{words_of, words_left, first, rest}

abbrev pub in_word : ℕ → Bool
in_word b = not (b == 32)

abbrev is_space : ℕ → Bool
is_space b = b == 32

pub prefix-space : (b : ℕ) (bs : List ℕ) → (b == 32) ≡ true → prefix_len in_word (b ∷ bs) ≡ 0
prefix-space b bs h = rw h refl

pub prefix-other : (b : ℕ) (bs : List ℕ) → (b == 32) ≡ false → prefix_len in_word (b ∷ bs) ≡ suc (prefix_len in_word bs)
prefix-other b bs h = rw h (omega arith)

-- the words behind a first word that ends at a space
pub words_of-more : (bs : List ℕ) (n : ℕ) → n ≡ prefix_len in_word bs → n < length bs → words_of bs ≡ take n bs ∷ words_of (drop (n + 1) bs)
words_of-more [] n e h = absurd (omega arith)
words_of-more (b ∷ bs) n e h =
    elim (cases_Bool (b == 32)) [
      | inl space ↦
          let none : n ≡ 0 = e ∙ prefix-space b bs space in
          let t : take n (b ∷ bs) ≡ [] = rw none refl in
          let d : drop (n + 1) (b ∷ bs) ≡ bs = rw none refl in
          slice_split-cons_yes is_space b bs space ∙ rw (t, d) refl
      | inr other ↦
          let more : n ≡ suc (prefix_len in_word bs) = e ∙ prefix-other b bs other in
          let t : take n (b ∷ bs) ≡ b ∷ take (prefix_len in_word bs) bs = rw more refl in
          let behind : n + 1 ≡ suc (prefix_len in_word bs + 1) = omega arith in
          let d : drop (n + 1) (b ∷ bs) ≡ drop (prefix_len in_word bs + 1) bs = rw behind refl in
          let ih : words_of bs ≡ take (prefix_len in_word bs) bs ∷ words_of (drop (prefix_len in_word bs + 1) bs) =
          words_of-more bs (prefix_len in_word bs) refl (omega arith) in
          slice_split-cons_no is_space b bs other ∙ ap (onto_first b) ih ∙ rw (t, d) refl
    ]

-- one word
pub words_of-last : (bs : List ℕ) → length bs ≤ prefix_len in_word bs → words_of bs ≡ bs ∷ []
words_of-last [] h = refl
words_of-last (b ∷ bs) h =
    elim (cases_Bool (b == 32)) [
      | inl space ↦ absurd (omega (arith, prefix-space b bs space))
      | inr other ↦ slice_split-cons_no is_space b bs other ∙ ap (onto_first b) (words_of-last bs (omega (arith, prefix-other b bs other)))
    ]

onto_first-some : (b : ℕ) (parts : List (List ℕ)) → onto_first b parts ≡ [] → ⊥
onto_first-some b [] h = cc
onto_first-some b (part ∷ parts) h = cc

-- a line has a word
pub words_of-some : (bs : List ℕ) → words_of bs ≡ [] → ⊥
words_of-some [] h = cc
words_of-some (b ∷ bs) h =
    elim (cases_Bool (b == 32)) [
      | inl space ↦ let e = slice_split-cons_yes is_space b bs space in cc
      | inr other ↦ onto_first-some b (words_of bs) (sym (slice_split-cons_no is_space b bs other) ∙ h)
    ]

-- the next word was the last one
pub taken_last : (over : Bool) (bs : List ℕ) (ws : List (List ℕ)) (n : ℕ) → words_left over bs ≡ ws → over ≡ false → n ≡ prefix_len in_word bs → n ≡ length bs
    → (Some bs ≡ first Some ws) × ([] ≡ rest ws)
taken_last over bs ws n view going e all =
    let left : words_left false bs ≡ ws = rw going at view in
    let one : bs ∷ [] ≡ ws = sym (words_of-last bs (omega arith)) ∙ left in
    (ap (first Some) one, ap rest one)

-- the next word, and more behind it
pub taken : (over : Bool) (bs behind : List ℕ) (ws : List (List ℕ)) (n : ℕ) → words_left over bs ≡ ws → over ≡ false → n ≡ prefix_len in_word bs → n < length bs
    → behind ≡ drop (n + 1) bs → (Some (take n bs) ≡ first Some ws) × (words_left over behind ≡ rest ws)
taken over bs behind ws n view going e part back =
    let left : words_left false bs ≡ ws = rw going at view in
    let one : take n bs ∷ words_of (drop (n + 1) bs) ≡ ws = sym (words_of-more bs n e part) ∙ left in
    let here : words_left over behind ≡ words_of (drop (n + 1) bs) = rw (going, back) refl in
    (ap (first Some) one, here ∙ ap rest one)

-- no word is left exactly where the line is over
pub left_over : (over : Bool) (bs : List ℕ) (ws : List (List ℕ)) → words_left over bs ≡ ws → (IsTrue over → ws ≡ []) × (ws ≡ [] → IsTrue over)
left_over true bs ws view = (λ _. sym view, λ _. refl)
left_over false bs ws view = (λ e. absurd cc, λ e. absurd (words_of-some bs (view ∙ e)))
