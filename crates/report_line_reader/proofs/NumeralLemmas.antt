-- Numbers at the front of a line.
use Rattle.std.proofs.Common.{◌≡◌, ◌<◌, ◌≤◌, ℕ, zero, suc, ◌+◌, ◌^◌, Bool, true, false, ◌==◌, ◌&&◌, nat_lt, List, [], ◌∷◌, length, take, take_all, drop, get_or, Some, None, refl, sym, ap, ◌∙◌, cond, arith, inl, inr}
use Rattle.std.proofs.lemmas.Bool.{cases_Bool, and_parts, lt-ltb}
use Rattle.std.proofs.lemmas.Bool.Decides.{Decides-eqb}
use Rattle.std.specs.Char.{is_ascii_digit}
use Rattle.std.specs.List.{list_all, prefix_len}
use Rattle.std.specs.Str.Parse.{digits_value}
use Rattle.report_line_reader.specs.Spelling.{spelled}
use Rattle.report_line_reader.specs.Numbers.{has_plain_lead, unsigned_of}
use Rattle.report_line_reader.specs.Numerals.{IsLeading, IsFirstNumeral}
use Rattle.report_line_reader.specs.Words.{words_left, first, rest}
use Rattle.report_line_reader.specs.declared.numbers.Numeral.{Numeral}
use Rattle.report_line_reader.proofs.NumberLemmas.{spelled-unsigned_of}
use Rattle.report_line_reader.proofs.WordsLemmas.{in_word, prefix-space, prefix-other, taken, taken_last}

no_space : (b : ℕ) → is_ascii_digit b ≡ true → (b == 32) ≡ false
no_space b digit =
    elim (cases_Bool (b == 32)) [
      | inl space ↦ let same : is_ascii_digit 32 ≡ true = ap is_ascii_digit (sym ((Decides-eqb b 32).0 space)) ∙ digit in cc
      | inr other ↦ other
    ]

-- digits before a space, or before the end, are the first word
digits-word : (line : List ℕ) (k : ℕ) → k ≤ length line → list_all is_ascii_digit (take k line) ≡ true → (k < length line → get_or line k 0 ≡ 32) → k ≡ prefix_len in_word line
digits-word [] zero within all ends = refl
digits-word [] (suc k) within all ends = absurd (omega arith)
digits-word (b ∷ bs) zero within all ends =
    let e : b ≡ 32 = ends (omega arith) in
    let space : (b == 32) ≡ true = rw e refl in
    sym (prefix-space b bs space)
digits-word (b ∷ bs) (suc k) within all ends =
    let parts = and_parts (is_ascii_digit b) (list_all is_ascii_digit (take k bs)) all in
    let ih : k ≡ prefix_len in_word bs = digits-word bs k (omega arith) parts.1 (λ less. ends (omega arith)) in
    ap suc ih ∙ sym (prefix-other b bs (no_space b parts.0))

all-spelled : (word : List ℕ) (n : ℕ) → list_all is_ascii_digit word ≡ true → n ≡ digits_value 10 word → n < 2 ^ 64 → Some n ≡ spelled word
all-spelled word n all value small =
    let less : nat_lt (digits_value 10 word) (2 ^ 64) ≡ true = ap (λ (k : ℕ). nat_lt k (2 ^ 64)) (sym value) ∙ lt-ltb n (2 ^ 64) small in
    ap Some value
    ∙ sym (ap (λ (c : Bool). cond (c && nat_lt (digits_value 10 word) (2 ^ 64)) (Some (digits_value 10 word)) None) all
    ∙ ap (λ (c : Bool). cond c (Some (digits_value 10 word)) None) less)

pub IsLeading-first : (line : List ℕ) (n : Numeral) → IsLeading line n → has_plain_lead (take n.digits line) ≡ true → (n.digits < length line → get_or line n.digits 0 ≡ 32) → IsFirstNumeral line n
IsLeading-first line n leading lead ends = record {
  word = digits-word line n.digits leading.within leading.all ends;
  number = all-spelled (take n.digits line) n.number leading.all leading.value leading.small ∙ spelled-unsigned_of (take n.digits line) lead;
}

-- what the first word denotes
first-denotes : (word : List ℕ) (ws : List (List ℕ)) → Some word ≡ first Some ws → unsigned_of word ≡ first unsigned_of ws
first-denotes word [] is = cc
first-denotes word (w ∷ ws) is = let same : word ≡ w = cc in ap unsigned_of same

-- the number was the last word
pub numeral_last : (over : Bool) (bs : List ℕ) (ws : List (List ℕ)) (n : Numeral) → words_left over bs ≡ ws → over ≡ false → IsFirstNumeral bs n → n.digits ≡ length bs
    → (Some n.number ≡ first unsigned_of ws) × ([] ≡ rest ws)
numeral_last over bs ws n view going numeral all =
    let parts = taken_last over bs ws n.digits view going numeral.word all in
    let whole : take n.digits bs ≡ bs = take_all n.digits bs (omega (arith, all)) in
    (numeral.number ∙ ap unsigned_of whole ∙ first-denotes bs ws parts.0, parts.1)

-- the number, and more behind it
pub numeral_more : (over : Bool) (bs behind : List ℕ) (ws : List (List ℕ)) (n : Numeral) → words_left over bs ≡ ws → over ≡ false → IsFirstNumeral bs n → n.digits < length bs → behind ≡ drop (n.digits + 1) bs
    → (Some n.number ≡ first unsigned_of ws) × (words_left over behind ≡ rest ws)
numeral_more over bs behind ws n view going numeral part back =
    let parts = taken over bs behind ws n.digits view going numeral.word part back in
    (numeral.number ∙ first-denotes (take n.digits bs) ws parts.0, parts.1)
