-- The versions and the numbers that words say.
use Rattle.std.proofs.Common.{◌≡◌, ℕ, zero, suc, nat_lt, nat_le, ◌<◌, ◌≤◌, ◌^◌, List, [], ◌∷◌, length, get_or, true, false, ◌&&◌, None, Some, Result, Ok, Err, refl, sym, ◌∙◌, ap, subst, inl, inr, decimal, codes, arith}
use Rattle.std.specs.Char.{is_ascii_digit}
use Rattle.std.specs.Int.{is_in_range}
use Rattle.std.specs.List.{list_all}
use Rattle.std.specs.Str.{all_ascii_digits, bytes_eq}
use Rattle.std.specs.Str.Parse.{ParsesUnsigned, digits_value}
use Rattle.std.proofs.lemmas.Bool.{and_parts, and_from, cases_lt, false≢true, leb-true, le-leb, lt-ltb, le-ltb}
use Rattle.std.proofs.lemmas.Fmt.{decimal-digits_value, decimal_digit}
use Rattle.std.proofs.lemmas.Result.{OkIff-at_ok, OkIff-at_err}
use Rattle.std.proofs.lemmas.Str.Parse.{IsNumeralModel, numerals_by_value, tells_all_ascii_digits, parse_digits}
use Rattle.command_line.specs.Commands.{is_counting, version_said, number_said}

digits_agree : (ds : List ℕ) → list_all is_ascii_digit ds ≡ all_ascii_digits ds
digits_agree [] = refl
digits_agree (d ∷ ds) = ap (λ b. is_ascii_digit d && b) (digits_agree ds)

model : IsNumeralModel (λ ds. all_ascii_digits ds ≡ true) (digits_value 10)
model = numerals_by_value (λ ds. all_ascii_digits ds ≡ true) tells_all_ascii_digits

-- digits, the first of them no 0
pub record IsCounting (ds : List ℕ) : Type 0 where
  pub digits : all_ascii_digits ds ≡ true
  pub some : 0 < length ds
  pub first : get_or ds 0 0 ≡ 48 → ⊥

not_zero : (d : ℕ) → 49 ≤ d → d ≡ 48 → ⊥
not_zero d low e = omega arith

pub counting : (ds : List ℕ) → is_counting ds ≡ true → IsCounting ds
counting [] h = absurd (false≢true h)
counting (d ∷ ds) h =
    let parts = and_parts (is_in_range 49 57 d) (list_all is_ascii_digit ds) h in
    let range = and_parts (nat_le 49 d) (nat_le d 57) parts.0 in
    let low : 49 ≤ d = leb-true 49 d range.0 in
    let digit : is_ascii_digit d ≡ true = and_from (nat_le 48 d) (nat_le d 57) (le-leb 48 d (omega arith)) range.1 in
    record {
      digits = and_from (is_ascii_digit d) (all_ascii_digits ds) digit (sym (digits_agree ds) ∙ parts.1);
      some = omega arith;
      first = not_zero d low;
    }

not_small : (m n : ℕ) → (m < n → ⊥) → nat_lt m n ≡ false
not_small m n h = elim (cases_lt m n) [ inl low ↦ absurd (h low) | inr high ↦ le-ltb m n high ]

-- such digits are not 0
pub counting-low : (ds : List ℕ) → is_counting ds ≡ true → digits_value 10 ds < 2 ^ 32 → 1 ≤ digits_value 10 ds
counting-low ds h small = of (digits_value 10 ds) refl where
  c : IsCounting ds
  c = counting ds h

  back : decimal (digits_value 10 ds) ≡ ds
  back = decimal-digits_value model ds c.digits c.some (λ e. absurd (c.first e)) (omega arith)

  of : (n : ℕ) → digits_value 10 ds ≡ n → 1 ≤ digits_value 10 ds
  of zero e = absurd (c.first (ap (λ xs. get_or xs 0 0) (sym back ∙ ap decimal e ∙ decimal_digit 0 (omega arith))))
  of (suc n) e = omega arith

pub parsed_version : {E : Type 0} (ds : List ℕ) (r : Result ℕ E) (v : ℕ) → is_counting ds ≡ true → ParsesUnsigned 32 10 ds r → r ≡ Ok v
    → (version_said ds ≡ Some v) × (1 ≤ v)
parsed_version ds r v h parses e =
    let c = counting ds h in
    let P : Type 0 = (0 < length ds) × (digits_value 10 ds < 2 ^ 32) in
    let at = OkIff-at_ok r P (digits_value 10 ds) v (parse_digits model 32 ds r parses c.digits) e in
    let small : nat_lt (digits_value 10 ds) (2 ^ 32) ≡ true = lt-ltb (digits_value 10 ds) (2 ^ 32) at.0.1 in
    let value : version_said ds ≡ Some (digits_value 10 ds) = rw (h, small) refl in
    (subst (λ n. version_said ds ≡ Some n) (sym at.1) value, subst (λ n. 1 ≤ n) (sym at.1) (counting-low ds h at.0.1))

pub unparsed_version : {E : Type 0} (ds : List ℕ) (r : Result ℕ E) (fault : E) → is_counting ds ≡ true → ParsesUnsigned 32 10 ds r → r ≡ Err fault
    → version_said ds ≡ None
unparsed_version ds r fault h parses e =
    let c = counting ds h in
    let P : Type 0 = (0 < length ds) × (digits_value 10 ds < 2 ^ 32) in
    let large = OkIff-at_err r P (digits_value 10 ds) fault (parse_digits model 32 ds r parses c.digits) e in
    let test : nat_lt (digits_value 10 ds) (2 ^ 32) ≡ false = not_small (digits_value 10 ds) (2 ^ 32) (λ small. large (c.some, small)) in
    rw (h, test) refl

-- ---- numbers

pub parsed_number : {E : Type 0} (ds : List ℕ) (r : Result ℕ E) (v : ℕ) → bytes_eq ds (codes "0") ≡ false → is_counting ds ≡ true → ParsesUnsigned 64 10 ds r → r ≡ Ok v → number_said ds ≡ Some v
parsed_number ds r v other h parses e =
    let c = counting ds h in
    let P : Type 0 = (0 < length ds) × (digits_value 10 ds < 2 ^ 64) in
    let at = OkIff-at_ok r P (digits_value 10 ds) v (parse_digits model 64 ds r parses c.digits) e in
    let small : nat_lt (digits_value 10 ds) (2 ^ 64) ≡ true = lt-ltb (digits_value 10 ds) (2 ^ 64) at.0.1 in
    let value : number_said ds ≡ Some (digits_value 10 ds) = rw (other, h, small) refl in
    subst (λ n. number_said ds ≡ Some n) (sym at.1) value

pub unparsed_number : {E : Type 0} (ds : List ℕ) (r : Result ℕ E) (fault : E) → bytes_eq ds (codes "0") ≡ false → is_counting ds ≡ true → ParsesUnsigned 64 10 ds r → r ≡ Err fault
    → number_said ds ≡ None
unparsed_number ds r fault other h parses e =
    let c = counting ds h in
    let P : Type 0 = (0 < length ds) × (digits_value 10 ds < 2 ^ 64) in
    let large = OkIff-at_err r P (digits_value 10 ds) fault (parse_digits model 64 ds r parses c.digits) e in
    let test : nat_lt (digits_value 10 ds) (2 ^ 64) ≡ false = not_small (digits_value 10 ds) (2 ^ 64) (λ small. large (c.some, small)) in
    rw (other, h, test) refl
