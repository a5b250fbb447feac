-- Hexadecimal words are read as they are written.
use Rattle.std.proofs.Common.{◌≡◌, ℕ, zero, suc, ◌+◌, ◌*◌, ◌/◌, ◌%◌, ◌<◌, ◌==◌, nat_lt, Bool, true, false, not, ◌&&◌, ◌||◌, List, [], ◌∷◌, length, slice_index, Option, Some, None, Result, Ok, is_some, unwrap_or, refl, sym, ap, subst, ◌∙◌, arith, inl, inr}
use Rattle.std.specs.Prelude.{All}
use Rattle.std.specs.Char.{is_ascii_hexdigit}
use Rattle.std.specs.List.{list_all}
use Rattle.std.specs.Result.{result_unwrap_or}
use Rattle.std.proofs.lemmas.Bool.{and_parts, and_from, ltb-true, eqb-true, eq-eqb, cases_lt}
use Rattle.std.proofs.lemmas.Bool.Decides.{nat_tests}
use Rattle.std.proofs.lemmas.List.Elements.{All-nil, All-cons}
use Rattle.hex.specs.Hex.{decode_of, decode_pairs, encode_lower, encode_with, lower_digits, hex_digit_value, pair_value}
use Rattle.hex.specs.declared.error.FromHexError.{FromHexError}
use Rattle.hex.proofs.HexLemmas.{decode_of-even}
use Rattle.hex.proofs.Pairs.{cons_byte, decode_pairs-ok_pair}
use Rattle.capsule_codec.specs.HexText.{is_hex, bytes_of_digits}
use Rattle.report_line_reader.specs.Hex.{is_lower_digit, is_hex_word}

-- ---- one digit

abbrev value_at_digit : ℕ → ℕ
value_at_digit c = unwrap_or (hex_digit_value c) 99

abbrev is_read : ℕ → Bool
is_read c = not (is_lower_digit c) || ((is_some (hex_digit_value c) && nat_lt (value_at_digit c) 16) && slice_index lower_digits (value_at_digit c) == c)

abbrev all_read : ℕ → Bool
all_read zero = true
all_read (suc n) = is_read n && all_read n

all_read-at : (n k : ℕ) → all_read n ≡ true → k < n → is_read k ≡ true
all_read-at zero k h lt = absurd (omega arith)
all_read-at (suc n) k h lt =
    let parts = and_parts (is_read n) (all_read n) h in
    elim (cases_lt k n) [
      | inl below ↦ all_read-at n k parts.1 below
      | inr top ↦
          let e : k ≡ n = omega arith in
          rw e parts.0
    ]

-- the digit reads as a value that is written as the digit
record Digit (c : ℕ) : Type 0 where
  value : ℕ
  small : value < 16
  reads : hex_digit_value c ≡ Some value
  writes : slice_index lower_digits value ≡ c

some_of : (o : Option ℕ) → is_some o ≡ true → o ≡ Some (unwrap_or o 99)
some_of None h = absurd cc
some_of (Some v) h = refl

lower-small : (c : ℕ) → is_lower_digit c ≡ true → c < 103
lower-small c h = grind (arith, nat_tests, and_parts)

or_then : (a b : Bool) → (not a || b) ≡ true → a ≡ true → b ≡ true
or_then true b h e = h
or_then false b h e = absurd cc

digit : (c : ℕ) → is_lower_digit c ≡ true → Digit c
digit c h =
    let table : all_read 103 ≡ true = refl in
    let read = or_then (is_lower_digit c) _ (all_read-at 103 c table (lower-small c h)) h in
    let parts = and_parts (is_some (hex_digit_value c) && nat_lt (value_at_digit c) 16) (slice_index lower_digits (value_at_digit c) == c) read in
    let inner = and_parts (is_some (hex_digit_value c)) (nat_lt (value_at_digit c) 16) parts.0 in
    record {
      value = value_at_digit c;
      small = ltb-true _ _ inner.1;
      reads = some_of (hex_digit_value c) inner.0;
      writes = eqb-true _ _ parts.1;
    }

-- ---- pairs

record Pairs (i : ℕ) (s : List ℕ) : Type 0 where
  bytes : List ℕ
  reads : decode_pairs i s ≡ Ok bytes
  writes : encode_with lower_digits bytes ≡ s
  small : All (λ (b : ℕ). b < 256) bytes

pair_reads : (a b i : ℕ) (x : Digit a) (y : Digit b) → pair_value a b i ≡ Ok (x.value * 16 + y.value)
pair_reads a b i x y = rw (x.reads, y.reads) refl

pair_writes : (x y : ℕ) (bytes : List ℕ) → x < 16 → y < 16
    → encode_with lower_digits ((x * 16 + y) ∷ bytes) ≡ slice_index lower_digits x ∷ slice_index lower_digits y ∷ encode_with lower_digits bytes
unfolding encode_with
pair_writes x y bytes small less =
    let high : (x * 16 + y) / 16 ≡ x = omega arith in
    let low : (x * 16 + y) % 16 ≡ y = omega arith in
    rw (high, low) refl

pairs : (i : ℕ) (s : List ℕ) → length s % 2 ≡ 0 → list_all is_lower_digit s ≡ true → Pairs i s
unfolding decode_pairs encode_with
pairs i [] even h = record { bytes = []; reads = refl; writes = refl; small = All-nil (λ (b : ℕ). b < 256) }
pairs i (a ∷ []) even h = absurd (omega arith)
pairs i (a ∷ b ∷ s) even h =
    let first = and_parts (is_lower_digit a) (list_all is_lower_digit (b ∷ s)) h in
    let second = and_parts (is_lower_digit b) (list_all is_lower_digit s) first.1 in
    let x : Digit a = digit a first.0 in
    let y : Digit b = digit b second.0 in
    let ih : Pairs (i + 2) s = pairs (i + 2) s (omega arith) second.1 in
    record {
      bytes = (x.value * 16 + y.value) ∷ ih.bytes;
      reads = decode_pairs-ok_pair i a b (x.value * 16 + y.value) s (pair_reads a b i x y) ∙ ap (cons_byte (x.value * 16 + y.value)) ih.reads;
      writes = pair_writes x.value y.value ih.bytes x.small y.small ∙ cc (x.writes, y.writes, ih.writes);
      small = (let high = x.small in let low = y.small in All-cons (λ (b : ℕ). b < 256) (x.value * 16 + y.value) ih.bytes (omega (arith, high, low)) ih.small);
    }

-- ---- words

-- what passes a test passes a weaker one
pub list_all-weaker : {A : Type 0} (p q : A → Bool) (imp : (x : A) → p x ≡ true → q x ≡ true) (xs : List A) → list_all p xs ≡ true → list_all q xs ≡ true
list_all-weaker p q imp [] h = refl
list_all-weaker p q imp (x ∷ xs) h =
    let parts = and_parts (p x) (list_all p xs) h in
    and_from (q x) (list_all q xs) (imp x parts.0) (list_all-weaker p q imp xs parts.1)

pub record IsHex (w : List ℕ) : Type 0 where
  pub some : 0 < length w
  pub even : length w % 2 ≡ 0
  pub digits : list_all is_lower_digit w ≡ true

pub hex_word : (w : List ℕ) → is_hex_word w ≡ true → IsHex w
hex_word w h =
    let parts = and_parts (not (length w == 0) && length w % 2 == 0) (list_all is_lower_digit w) h in
    let more = and_parts (not (length w == 0)) (length w % 2 == 0) parts.0 in
    record { some = grind (arith, nat_tests); even = eqb-true _ _ more.1; digits = parts.1 }

unwrapped : (r : Result (List ℕ) FromHexError) (bytes : List ℕ) → r ≡ Ok bytes → result_unwrap_or r [] ≡ bytes
unwrapped r bytes h = ap (λ (x : Result (List ℕ) FromHexError). result_unwrap_or x []) h

-- they are digits of either case
ascii-digit : (c : ℕ) → is_lower_digit c ≡ true → is_ascii_hexdigit c ≡ true
ascii-digit c h = grind (arith, nat_tests)

pub digits_of_word : (w : List ℕ) → is_hex_word w ≡ true → is_hex w ≡ true
digits_of_word w h =
    let is : IsHex w = hex_word w h in
    and_from (length w % 2 == 0) (list_all is_ascii_hexdigit w) (eq-eqb _ _ is.even) (list_all-weaker is_lower_digit is_ascii_hexdigit ascii-digit w is.digits)

-- the bytes of a word are written as the word
pub encode_lower-bytes_of_digits : (w : List ℕ) → is_hex_word w ≡ true → encode_lower (bytes_of_digits w) ≡ w
encode_lower-bytes_of_digits w h =
    let is : IsHex w = hex_word w h in
    let found : Pairs 0 w = pairs 0 w is.even is.digits in
    ap encode_lower (unwrapped (decode_of w) found.bytes (decode_of-even w is.even ∙ found.reads)) ∙ found.writes

pub small-bytes_of_digits : (w : List ℕ) → is_hex_word w ≡ true → All (λ (b : ℕ). b < 256) (bytes_of_digits w)
small-bytes_of_digits w h =
    let is : IsHex w = hex_word w h in
    let found : Pairs 0 w = pairs 0 w is.even is.digits in
    subst (All (λ (b : ℕ). b < 256)) (sym (unwrapped (decode_of w) found.bytes (decode_of-even w is.even ∙ found.reads))) found.small
