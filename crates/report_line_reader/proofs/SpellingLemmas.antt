-- Digits, one after another.
use Rattle.std.proofs.Common.{◌≡◌, ℕ, ◌^◌, ◌<◌, ◌≤◌, ◌+◌, ◌*◌, nat_lt, Bool, true, false, ◌&&◌, List, length, get_or, take, take_all, Option, None, Some, refl, sym, ◌∙◌, ap, lit≤, cond, arith}
use Rattle.std.specs.List.{list_all}
use Rattle.std.specs.Char.{is_ascii_digit, digit_value}
use Rattle.std.specs.Str.Parse.{digits_value}
use Rattle.std.proofs.lemmas.Bool.{lt-ltb, le-ltb}
use Rattle.std.proofs.lemmas.Str.Parse.{digits_value-take-le}
use Rattle.std.proofs.lemmas.Int.Digits.{digits_value_more}
use Rattle.std.proofs.lemmas.List.Folds.{list_all_more, list_all_at}
use Rattle.report_line_reader.specs.Spelling.{spelled}

-- the bytes before a place are digits, and spell n
pub record HasSpelled (w : List ℕ) (place n : ℕ) : Type 0 where
  pub digits : list_all is_ascii_digit (take place w) ≡ true
  pub value : n ≡ digits_value 10 (take place w)
  pub small : n < 2 ^ 64

and-false : (b : Bool) → (b && false) ≡ false
and-false true = refl
and-false false = refl

-- a digit more
pub spelled-more : (w : List ℕ) (place n m : ℕ) → HasSpelled w place n → place < length w → is_ascii_digit (get_or w place 0) ≡ true
    → m ≡ n * 10 + digit_value (get_or w place 0) → m < 2 ^ 64 → HasSpelled w (place + 1) m
spelled-more w place n m before within digit is small =
    let more = digits_value_more 10 w place within in
    let same = before.value in
    record {
      digits = list_all_more is_ascii_digit w place 0 within ∙ ap (λ (b : Bool). b && is_ascii_digit (get_or w place 0)) before.digits ∙ digit;
      value = omega (arith, same, more, is);
      small = small;
    }

-- what has too many bits with a digit more has so with all of them
too_large : (w : List ℕ) (place n : ℕ) → n ≡ digits_value 10 (take place w) → place < length w
    → 2 ^ 64 ≤ n * 10 + digit_value (get_or w place 0) → 2 ^ 64 ≤ digits_value 10 w
too_large w place n same within large =
    let more = digits_value_more 10 w place within in
    let less = digits_value-take-le 10 w (place + 1) (lit≤ tt) in
    omega (arith, same, more, less, large)

none : (w : List ℕ) (b : Bool) → (list_all is_ascii_digit w && nat_lt (digits_value 10 w) (2 ^ 64)) ≡ b → b ≡ false → None ≡ spelled w
none w b is fails = sym (ap (λ (c : Bool). cond c (Some (digits_value 10 w)) None) (is ∙ fails))

-- a byte that is no digit, or makes the number too large
pub spelled-none : (w : List ℕ) (place n : ℕ) → HasSpelled w place n → place < length w
    → (is_ascii_digit (get_or w place 0) ≡ true → 2 ^ 64 ≤ n * 10 + digit_value (get_or w place 0)) → None ≡ spelled w
spelled-none w place n before within fails = by (is_ascii_digit (get_or w place 0)) refl where
  by : (b : Bool) → is_ascii_digit (get_or w place 0) ≡ b → None ≡ spelled w
  by true digit =
      let large = too_large w place n before.value within (fails digit) in
      none w _ (ap (λ (c : Bool). list_all is_ascii_digit w && c) (le-ltb (digits_value 10 w) (2 ^ 64) large) ∙ and-false (list_all is_ascii_digit w)) refl
  by false other =
      none w _ (ap (λ (c : Bool). c && nat_lt (digits_value 10 w) (2 ^ 64)) (list_all_at is_ascii_digit w place 0 within other)) refl

-- all of them, where the number has no more than 64 bits
pub spelled-all : (w : List ℕ) (place n : ℕ) → HasSpelled w place n → length w ≤ place → Some n ≡ spelled w
spelled-all w place n before end =
    let digits : list_all is_ascii_digit w ≡ true = ap (list_all is_ascii_digit) (sym (take_all place w end)) ∙ before.digits in
    let value : n ≡ digits_value 10 w = before.value ∙ ap (digits_value 10) (take_all place w end) in
    let less : nat_lt (digits_value 10 w) (2 ^ 64) ≡ true = ap (λ (k : ℕ). nat_lt k (2 ^ 64)) (sym value) ∙ lt-ltb n (2 ^ 64) before.small in
    ap Some value
    ∙ sym (ap (λ (c : Bool). cond (c && nat_lt (digits_value 10 w) (2 ^ 64)) (Some (digits_value 10 w)) None) digits
    ∙ ap (λ (c : Bool). cond c (Some (digits_value 10 w)) None) less)
