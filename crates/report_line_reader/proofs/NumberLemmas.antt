-- Numbers and values are read as they are written.
use Rattle.std.proofs.Common.{◌≡◌, ℕ, zero, suc, ◌^◌, ◌<◌, ◌≤◌, ◌==◌, nat_lt, Bool, true, false, not, ◌&&◌, ◌||◌, cond, List, [], ◌∷◌, length, get_or, Option, Some, None, refl, sym, ap, subst, ◌∙◌, arith, rules, inl, inr}
use Rattle.std.specs.Char.{is_ascii_digit}
use Rattle.std.specs.Prelude.{ℤ, pos, negsuc}
use Rattle.std.specs.List.{list_all}
use Rattle.std.specs.Option.{option_and_then}
use Rattle.std.specs.Fmt.{decimal, signed_decimal}
use Rattle.std.specs.Str.Parse.{digits_value}
use Rattle.std.proofs.lemmas.Str.Parse.{IsNumeralModel, numerals_by_value}
use Rattle.std.proofs.lemmas.Fmt.{digits_decimal, digits_value-decimal, decimal-digits_value, decimal_nonempty, first_decimal, decimal_digit}
use Rattle.std.proofs.lemmas.Bool.{and_parts, and_from, lt-ltb, eqb-true, cond-true, cond-false, cases_Bool, cases_lt}
use Rattle.std.proofs.lemmas.Bool.Decides.{nat_tests}
use Rattle.report_line_reader.specs.Spelling.{spelled}
use Rattle.report_line_reader.specs.Numbers.{is_plain_numeral, has_plain_lead, below_limit, unsigned_of, below_of, negative, positive, value_of}
use Rattle.report_line_reader.proofs.OptionLemmas.{steps, when_some, below_some}

own : IsNumeralModel (λ ds. list_all is_ascii_digit ds ≡ true) (digits_value 10)
own = numerals_by_value _ (search rules)

-- digits, at least one, and only one where the first is `0`
pub record IsPlain (w : List ℕ) : Type 0 where
  pub digits : list_all is_ascii_digit w ≡ true
  pub some : 0 < length w
  pub lead : get_or w 0 0 ≡ 48 → length w ≡ 1

lead_of : (b n : ℕ) → (not (b == 48) || n == 0) ≡ true → b ≡ 48 → n ≡ 0
lead_of b n h e = grind (arith, nat_tests)

of_lead : (b n : ℕ) → (b ≡ 48 → suc n ≡ 1) → (not (b == 48) || n == 0) ≡ true
of_lead b n h = grind (arith, nat_tests)

pub plain : (w : List ℕ) → is_plain_numeral w ≡ true → IsPlain w
plain [] h = absurd cc
plain (b ∷ bs) h =
    let parts = and_parts (list_all is_ascii_digit (b ∷ bs)) (not (b == 48) || length bs == 0) h in
    record { digits = parts.0; some = omega arith; lead = λ e. (let z : length bs ≡ 0 = lead_of b (length bs) parts.1 e in omega arith) }

plain-is_plain_numeral : (w : List ℕ) → IsPlain w → is_plain_numeral w ≡ true
plain-is_plain_numeral [] p = absurd (omega (arith, p.some))
plain-is_plain_numeral (b ∷ bs) p = and_from (list_all is_ascii_digit (b ∷ bs)) (not (b == 48) || length bs == 0) p.digits (of_lead b (length bs) p.lead)

-- what digits and a lead decide, and how large the number is
by_lead : (digits lead small : Bool) (n : ℕ) → lead ≡ true → cond (digits && small) (Some n) None ≡ cond {A = Option ℕ} (digits && lead) (cond small (Some n) None) None
by_lead true true small n is = refl
by_lead false true small n is = refl
by_lead digits false small n is = absurd (cc)

no_lead : (digits lead : Bool) (o : Option ℕ) → lead ≡ false → None ≡ cond {A = Option ℕ} (digits && lead) o None
no_lead true false o is = refl
no_lead false false o is = refl
no_lead digits true o is = absurd (cc)

-- what the digits spell is the number, if the lead is plain
pub spelled-unsigned_of : (w : List ℕ) → has_plain_lead w ≡ true → spelled w ≡ unsigned_of w
spelled-unsigned_of w is = by_lead (list_all is_ascii_digit w) (has_plain_lead w) (nat_lt (digits_value 10 w) (2 ^ 64)) (digits_value 10 w) is

pub none-unsigned_of : (w : List ℕ) → has_plain_lead w ≡ false → None ≡ unsigned_of w
none-unsigned_of w is = no_lead (list_all is_ascii_digit w) (has_plain_lead w) (below_limit (2 ^ 64) (digits_value 10 w)) is

-- ---- numbers

lead-decimal : (n : ℕ) → n < 2 ^ 64 → get_or (decimal n) 0 0 ≡ 48 → length (decimal n) ≡ 1
lead-decimal n h e =
    elim (cases_lt 0 n) [
      | inl some ↦ absurd (omega (arith, first_decimal n some h))
      | inr none ↦ let z : n < 10 = omega arith in ap length (decimal_digit n z)
    ]

pub plain-decimal : (n : ℕ) → n < 2 ^ 64 → IsPlain (decimal n)
plain-decimal n h = record { digits = digits_decimal own n h; some = decimal_nonempty n h; lead = lead-decimal n h }

pub unsigned_of-decimal : (n : ℕ) → n < 2 ^ 64 → unsigned_of (decimal n) ≡ Some n
unsigned_of-decimal n h =
    cond-true (is_plain_numeral (decimal n)) _ _ (plain-is_plain_numeral (decimal n) (plain-decimal n h)) ∙ ap (below_limit (2 ^ 64)) (digits_value-decimal own n h)
    ∙ cond-true (nat_lt n (2 ^ 64)) _ _ (lt-ltb _ _ h)

pub decimal-unsigned_of : (w : List ℕ) (n : ℕ) → unsigned_of w ≡ Some n → decimal n ≡ w
decimal-unsigned_of w n h =
    let numeral = when_some (is_plain_numeral w) (below_limit (2 ^ 64) (digits_value 10 w)) n h in
    let below = below_some (digits_value 10 w) (2 ^ 64) n numeral.1 in
    let is : IsPlain w = plain w numeral.0 in
    ap decimal (sym below.1) ∙ decimal-digits_value own w is.digits is.some is.lead below.0

pub below_of-decimal : (limit n : ℕ) → n < limit → limit ≤ 2 ^ 64 → below_of limit (decimal n) ≡ Some n
below_of-decimal limit n h most =
    ap (option_and_then (below_limit limit)) (unsigned_of-decimal n (omega arith)) ∙ cond-true (nat_lt n limit) _ _ (lt-ltb _ _ h)

-- a number that a word tells is written so
pub record Tells (limit : ℕ) (w : List ℕ) (n : ℕ) : Type 0 where
  pub word : w ≡ decimal n
  pub below : n < limit

pub decimal-below_of : (limit : ℕ) (w : List ℕ) (n : ℕ) → below_of limit w ≡ Some n → Tells limit w n
decimal-below_of limit w n h =
    let read = steps (below_limit limit) (unsigned_of w) n h in
    let below = below_some read.step limit n read.gives in
    record { word = sym (decimal-unsigned_of w n (read.was ∙ ap Some below.1)); below = (let P : ℕ → Type 0 = λ m. m < limit in subst P below.1 below.0) }

-- ---- values

-- a value of 16 bits
abbrev pub IsValue : ℤ → Type 0
IsValue (pos n) = n < 32768
IsValue (negsuc n) = n < 32768

digit_not_minus : (b : ℕ) (bs : List ℕ) → list_all is_ascii_digit (b ∷ bs) ≡ true → (b == 45) ≡ false
digit_not_minus b bs h = let here : is_ascii_digit b ≡ true = (and_parts (is_ascii_digit b) (list_all is_ascii_digit bs) h).0 in grind (arith, nat_tests, and_parts)

value_of-digits : (w : List ℕ) (n : ℕ) → IsPlain w → unsigned_of w ≡ Some n → n < 32768 → value_of w ≡ Some (pos n)
value_of-digits [] n p e h = absurd (omega (arith, p.some))
value_of-digits (b ∷ bs) n p e h =
    cond-false (b == 45) _ _ (digit_not_minus b bs p.digits) ∙ ap (option_and_then positive) e ∙ cond-true (nat_lt n 32768) _ _ (lt-ltb _ _ h)

pub value_of-signed : (v : ℤ) → IsValue v → value_of (signed_decimal v) ≡ Some v
value_of-signed (pos n) h = value_of-digits (decimal n) n (plain-decimal n (omega arith)) (unsigned_of-decimal n (omega arith)) h
value_of-signed (negsuc n) h = ap (option_and_then negative) (unsigned_of-decimal (suc n) (omega arith)) ∙ cond-true (nat_lt n 32768) _ _ (lt-ltb _ _ h)

negative-some : (n : ℕ) (v : ℤ) (w : List ℕ) → negative n ≡ Some v → decimal n ≡ w → 45 ∷ w ≡ signed_decimal v
negative-some zero v w h e = absurd cc
negative-some (suc n) v w h e =
    let parts = when_some (nat_lt n 32768) (Some (negsuc n)) v h in
    let same : negsuc n ≡ v = cc (parts.1) in
    ap (λ (x : List ℕ). 45 ∷ x) (sym e) ∙ ap signed_decimal same

positive-some : (n : ℕ) (v : ℤ) (w : List ℕ) → positive n ≡ Some v → decimal n ≡ w → w ≡ signed_decimal v
positive-some n v w h e =
    let parts = when_some (nat_lt n 32768) (Some (pos n)) v h in
    let same : pos n ≡ v = cc (parts.1) in
    sym e ∙ ap signed_decimal same

pub signed-value_of : (w : List ℕ) (v : ℤ) → value_of w ≡ Some v → w ≡ signed_decimal v
signed-value_of [] v h = absurd cc
signed-value_of (b ∷ bs) v h =
    elim (cases_Bool (b == 45)) [
      | inl minus ↦
          let e : option_and_then negative (unsigned_of bs) ≡ Some v = sym (cond-true (b == 45) _ _ minus) ∙ h in
          let read = steps negative (unsigned_of bs) v e in
          ap (λ (x : ℕ). x ∷ bs) (eqb-true b 45 minus) ∙ negative-some read.step v bs read.gives (decimal-unsigned_of bs read.step read.was)
      | inr digit ↦
          let e : option_and_then positive (unsigned_of (b ∷ bs)) ≡ Some v = sym (cond-false (b == 45) _ _ digit) ∙ h in
          let read = steps positive (unsigned_of (b ∷ bs)) v e in
          positive-some read.step v (b ∷ bs) read.gives (decimal-unsigned_of (b ∷ bs) read.step read.was)
    ]
