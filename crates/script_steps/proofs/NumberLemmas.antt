-- Numbers in words.
use Rattle.std.proofs.Common.{sym, ◌≡◌, ℕ, ℤ, pos, neg_ℤ, ◌^◌, ◌<◌, ◌≤◌, Bool, true, false, ◌&&◌, ◌==◌, not, nat_le, cond, List, [], ◌∷◌, length, Result, Ok, Err, zero, suc, get_or, take, take_all, ◌+◌, ◌*◌, lit<, lit≤, refl, ◌∙◌, ap, subst, arith}
use Rattle.mate_num.specs.Results.{result_map}
use Rattle.std.specs.List.{list_all}
use Rattle.std.specs.Char.{is_ascii_digit, digit_value}
use Rattle.std.specs.Cmp.Derive.{both_true}
use Rattle.std.specs.Str.{IsUtf8}
use Rattle.std.specs.Str.Parse.{digits_value}
use Rattle.std.proofs.lemmas.Bool.{and_parts, leb-true}
use Rattle.std.proofs.lemmas.Bool.Decides.{nat_tests}
use Rattle.std.proofs.lemmas.Str.{IsUtf8-from_ascii}
use Rattle.std.proofs.lemmas.Str.Parse.{digits_value-take-le}
use Rattle.std.proofs.lemmas.Int.Digits.{digits_value_more}
use Rattle.std.specs.Int.{w16}
use mir.Val.{SFits}
use Rattle.script_steps.specs.declared.fault.Cause.{Cause}
use Rattle.script_steps.specs.declared.fault.Cause.TheVariants.{Number, Range}
use Rattle.script_steps.specs.Words.{TakenWords, and_then, found, printed, within, is_numeral, number_read, a_number, value_read, a_value, is_printable}

-- where a digit more is too much, so are all
pub overflows : (w : List ℕ) (place n : ℕ) → n ≡ digits_value 10 (take place w) → place < length w
    → 2 ^ 64 ≤ n * 10 + digit_value (get_or w place 0) → 2 ^ 64 ≤ digits_value 10 w
overflows w place n same within large =
    let more = digits_value_more 10 w place within in
    let less = digits_value-take-le 10 w (place + 1) (lit≤ tt) in
    omega (arith, same, more, less, large)

-- a digit more
pub one_more_digit : (w : List ℕ) (place n m : ℕ) → n ≡ digits_value 10 (take place w) → place < length w
    → m ≡ n * 10 + digit_value (get_or w place 0) → m ≡ digits_value 10 (take (place + 1) w)
one_more_digit w place n m same within is =
    let more = digits_value_more 10 w place within in
    omega (arith, same, more, is)

-- all digits
pub all_digits : (w : List ℕ) (place n : ℕ) → n ≡ digits_value 10 (take place w) → length w ≤ place → n ≡ digits_value 10 w
all_digits w place n same end = same ∙ ap (digits_value 10) (take_all place w end)

-- a word that isn't empty, and whose characters are all digits
pub is_numeral-whole : (w : List ℕ) (place : ℕ) → list_all is_ascii_digit (take place w) ≡ true → length w ≤ place
    → false ≡ (length w == 0) → is_numeral w ≡ true
is_numeral-whole w place digits end some =
    let all : list_all is_ascii_digit w ≡ true = rw (take_all place w end) at digits in
    rw (← some) all

ascii_at : (b : ℕ) → is_printable b ≡ true → b < 128
ascii_at b h = grind (arith, nat_tests, and_parts)

-- printable characters are text
all_ascii : (w : List ℕ) → list_all is_printable w ≡ true → (i : ℕ) → get_or w i 0 < 128
all_ascii [] h i = lit< tt
all_ascii (b ∷ w) h zero = ascii_at b (and_parts (is_printable b) (list_all is_printable w) h).0
all_ascii (b ∷ w) h (suc i) = all_ascii w (and_parts (is_printable b) (list_all is_printable w) h).1 i

pub IsUtf8-printable : (w : List ℕ) → list_all is_printable w ≡ true → IsUtf8 w
IsUtf8-printable w h = IsUtf8-from_ascii w (all_ascii w h)

-- ---- numbers

digit-printable : (b : ℕ) → is_ascii_digit b ≡ true → is_printable b ≡ true
digit-printable b h = grind (arith, nat_tests, and_parts)

pub digits-printable : (w : List ℕ) → list_all is_ascii_digit w ≡ true → list_all is_printable w ≡ true
digits-printable [] h = refl
digits-printable (b ∷ w) h =
    let parts = and_parts (is_ascii_digit b) (list_all is_ascii_digit w) h in
    both_true (digit-printable b parts.0) (digits-printable w parts.1)

-- a word that spells a number has printable characters
number-printed : (low high : ℕ) (outside : Cause) (w : List ℕ) (n : ℕ) → Ok n ≡ within low high outside (number_read w) → printed w ≡ Ok w
number-printed low high outside w n is = by (is_numeral w) refl
  where
    by : (b : Bool) → is_numeral w ≡ b → printed w ≡ Ok w
    by true e =
        let digits = and_parts (not (length w == 0)) (list_all is_ascii_digit w) e in
        rw (digits-printable w digits.1) refl
    by false e = let none : Ok n ≡ within low high outside (Err Number) = rw e at is in absurd (cc)

-- it is read as that number
pub number-read : (low high : ℕ) (outside : Cause) (w : List ℕ) (words : List (List ℕ)) (n : ℕ) → Ok n ≡ within low high outside (number_read w)
    → a_number low high outside (w ∷ words) ≡ Ok (record { value = n; rest = words })
unfolding a_number
number-read low high outside w words n is = rw (number-printed low high outside w n is) (rw (sym is) refl)

-- ---- values

within_high : (low high : ℕ) (outside : Cause) (r : Result ℕ Cause) (n : ℕ) → within low high outside r ≡ Ok n → n ≤ high
within_high low high outside (Ok m) n e = by (nat_le low m && nat_le m high) refl e
  where
    by : (b : Bool) → (nat_le low m && nat_le m high) ≡ b → cond {A = Result ℕ Cause} b (Ok m) (Err outside) ≡ Ok n → n ≤ high
    by true t e =
        let same : m ≡ n = cc in
        let small : m ≤ high = leb-true m high (and_parts (nat_le low m) (nat_le m high) t).1 in
        omega arith
    by false t e = absurd (cc)
within_high low high outside (Err cause) n e = absurd (cc)

signed_fits : (sign : ℕ → ℤ) (r : Result ℕ Cause) (v : ℤ) → result_map sign r ≡ Ok v → ((n : ℕ) → r ≡ Ok n → SFits w16 (sign n)) → SFits w16 v
signed_fits sign (Ok n) v e fits =
    let same : sign n ≡ v = cc in
    let P : ℤ → Type 0 = λ z. SFits w16 z in
    subst P same (fits n refl)
signed_fits sign (Err cause) v e fits = absurd (cc)

minus_fits : (n : ℕ) → n ≤ 32768 → SFits w16 (neg_ℤ (pos n))
minus_fits zero h = record { sfits = lit< tt }
minus_fits (suc n) h = record { sfits = omega arith }

value_of_fits : (w : List ℕ) (v : ℤ) → value_read w ≡ Ok v → SFits w16 v
value_of_fits [] v e = absurd (cc)
value_of_fits (byte ∷ bytes) v e = by (byte == 45) e
  where
    by : (b : Bool) → cond b (result_map (λ n. neg_ℤ (pos n)) (within 0 32768 Range (number_read bytes))) (result_map pos (within 0 32767 Range (number_read (byte ∷ bytes)))) ≡ Ok v → SFits w16 v
    by true e = signed_fits (λ n. neg_ℤ (pos n)) (within 0 32768 Range (number_read bytes)) v e (λ n h. minus_fits n (within_high 0 32768 Range (number_read bytes) n h))
    by false e = signed_fits pos (within 0 32767 Range (number_read (byte ∷ bytes))) v e
        (λ n h. let small : n ≤ 32767 = within_high 0 32767 Range (number_read (byte ∷ bytes)) n h in record { sfits = omega arith })

abbrev value_or : Result (TakenWords ℤ) Cause → Result ℤ Cause
value_or (Ok t) = Ok t.value
value_or (Err cause) = Err cause

value_found : (r : Result ℤ Cause) (words : List (List ℕ)) (t : TakenWords ℤ) → found r words ≡ Ok t → r ≡ Ok t.value
value_found (Ok v) words t e = ap value_or e
value_found (Err cause) words t e = absurd (cc)

-- a value is a 16-bit number
pub value_fits : (words : List (List ℕ)) (t : TakenWords ℤ) → a_value words ≡ Ok t → SFits w16 t.value
unfolding a_value
value_fits [] t e = absurd (cc)
value_fits (w ∷ words) t e = by (printed w) e
  where
    by : (r : Result (List ℕ) Cause) → and_then (λ w. found (value_read w)) (found r words) ≡ Ok t → SFits w16 t.value
    by (Ok text) e = value_of_fits text t.value (value_found (value_read text) words t e)
    by (Err cause) e = absurd (cc)
