-- Written words have no space and no LF in them, so a line is split into its words again.
use Rattle.std.proofs.Common.{◌≡◌, ℕ, zero, suc, ◌/◌, ◌%◌, ◌^◌, ◌<◌, ◌==◌, nat_lt, nat_le, Bool, true, false, not, ◌&&◌, ◌||◌, List, [], ◌∷◌, ◌++◌, length, slice_index, get_or, refl, ap, subst, ◌∙◌, arith, inl, inr, append-nil}
use Rattle.std.specs.Char.{is_ascii_digit}
use Rattle.std.specs.Prelude.{ℤ, pos, negsuc, All, FitsSigned}
use Rattle.std.specs.Int.{w16}
use Rattle.std.specs.List.{list_all}
use Rattle.std.specs.Fmt.{decimal, signed_decimal}
use Rattle.std.proofs.lemmas.Bool.{and_parts, and_from, cases_lt}
use Rattle.std.proofs.lemmas.Bool.Decides.{nat_tests}
use Rattle.std.proofs.lemmas.List.{get_or_past}
use Rattle.std.proofs.lemmas.List.Elements.{All-nil, All-cons}
use Rattle.std.proofs.lemmas.List.Splits.{slice_split_none, slice_split_at}
use Rattle.hex.specs.Hex.{encode_lower, encode_with, lower_digits, IsBytes}
use Rattle.vm_shape.specs.Names.{is_name, has_form, begins_name, continues_name}
use Rattle.report_writer.specs.Words.{word}
use Rattle.report_line_reader.specs.Words.{words_of}
use Rattle.report_line_reader.specs.Hex.{is_lower_digit}
use Rattle.mate_journal.specs.Ranges.{IsByteList}
use Rattle.report_line_reader.proofs.NumberLemmas.{plain-decimal, IsValue}
use Rattle.report_line_reader.proofs.HexLemmas.{list_all-weaker}
use Rattle.report_line_reader.proofs.StoreLemmas.{joined}

-- a byte above the space
abbrev pub is_above : ℕ → Bool
is_above b = nat_lt 32 b

abbrev pub is_written : List ℕ → Bool
is_written w = list_all is_above w

-- ---- tests on each byte

pub list_all-both : {A : Type 0} (p : A → Bool) (xs ys : List A) → list_all p xs ≡ true → list_all p ys ≡ true → list_all p (xs ++ ys) ≡ true
list_all-both p [] ys h k = k
list_all-both p (x ∷ xs) ys h k =
    let parts = and_parts (p x) (list_all p xs) h in
    and_from (p x) (list_all p (xs ++ ys)) parts.0 (list_all-both p xs ys parts.1 k)

pub list_all-none : {A : Type 0} (p q : A → Bool) (imp : (x : A) → p x ≡ true → q x ≡ false) (xs : List A) → list_all p xs ≡ true → All (λ (x : A). q x ≡ false) xs
list_all-none p q imp [] h = All-nil (λ (x : _). q x ≡ false)
list_all-none p q imp (x ∷ xs) h =
    let parts = and_parts (p x) (list_all p xs) h in
    All-cons (λ (x : _). q x ≡ false) x xs (imp x parts.0) (list_all-none p q imp xs parts.1)

-- ---- a line is split

above-no_space : (b : ℕ) → is_above b ≡ true → (b == 32) ≡ false
above-no_space b h = grind (arith, nat_tests)

pub words_of-joined : (w : List ℕ) (ws : List (List ℕ)) → is_written w ≡ true → list_all is_written ws ≡ true → words_of (w ++ joined ws) ≡ w ∷ ws
words_of-joined w [] h k =
    ap words_of (append-nil w) ∙ slice_split_none (λ b. b == 32) w (list_all-none is_above (λ b. b == 32) above-no_space w h)
words_of-joined w (v ∷ vs) h k =
    let parts = and_parts (is_written v) (list_all is_written vs) k in
    slice_split_at (λ b. b == 32) w 32 (v ++ joined vs) (list_all-none is_above (λ b. b == 32) above-no_space w h) refl
    ∙ ap (λ (x : List (List ℕ)). w ∷ x) (words_of-joined v vs parts.0 parts.1)

-- a byte of a line, so no LF
abbrev pub in_line : ℕ → Bool
in_line b = not (b == 10)

above-in_line : (b : ℕ) → is_above b ≡ true → in_line b ≡ true
above-in_line b h = grind (arith, nat_tests)

pub joined-in_line : (ws : List (List ℕ)) → list_all is_written ws ≡ true → list_all in_line (joined ws) ≡ true
joined-in_line [] h = refl
joined-in_line (w ∷ ws) h =
    let parts = and_parts (is_written w) (list_all is_written ws) h in
    let here : list_all in_line (word w) ≡ true = list_all-weaker is_above in_line above-in_line w parts.0 in
    list_all-both in_line (word w) (joined ws) here (joined-in_line ws parts.1)

pub line-in_line : (w : List ℕ) (ws : List (List ℕ)) → is_written w ≡ true → list_all is_written ws ≡ true → list_all in_line (w ++ joined ws) ≡ true
line-in_line w ws h k = list_all-both in_line w (joined ws) (list_all-weaker is_above in_line above-in_line w h) (joined-in_line ws k)

-- ---- numbers and values

digit-above : (b : ℕ) → is_ascii_digit b ≡ true → is_above b ≡ true
digit-above b h = grind (arith, nat_tests, and_parts)

pub written-decimal : (n : ℕ) → n < 2 ^ 64 → is_written (decimal n) ≡ true
written-decimal n h = list_all-weaker is_ascii_digit is_above digit-above (decimal n) (plain-decimal n h).digits

-- a digit or `-`
abbrev pub in_value : ℕ → Bool
in_value b = is_ascii_digit b || b == 45

digit-in_value : (b : ℕ) → is_ascii_digit b ≡ true → in_value b ≡ true
digit-in_value b h = ap (λ (x : Bool). x || b == 45) h

pub in_value-signed : (v : ℤ) → IsValue v → list_all in_value (signed_decimal v) ≡ true
in_value-signed (pos n) h = list_all-weaker is_ascii_digit in_value digit-in_value (decimal n) (plain-decimal n (omega arith)).digits
in_value-signed (negsuc n) h = list_all-weaker is_ascii_digit in_value digit-in_value (decimal (suc n)) (plain-decimal (suc n) (omega arith)).digits

pub signed-some : (v : ℤ) → IsValue v → 0 < length (signed_decimal v)
signed-some (pos n) h = (plain-decimal n (omega arith)).some
signed-some (negsuc n) h = omega arith

in_value-above : (b : ℕ) → in_value b ≡ true → is_above b ≡ true
in_value-above b h = grind (arith, nat_tests, and_parts)

pub written-signed : (v : ℤ) → IsValue v → is_written (signed_decimal v) ≡ true
written-signed v h = list_all-weaker in_value is_above in_value-above (signed_decimal v) (in_value-signed v h)

pub IsValue-fits : (v : ℤ) → FitsSigned w16 v → IsValue v
IsValue-fits (pos n) h = h.sfits
IsValue-fits (negsuc n) h = h.sfits

-- ---- names

begins-above : (b : ℕ) → begins_name b ≡ true → is_above b ≡ true
begins-above b h = grind (arith, nat_tests, and_parts)

continues-above : (b : ℕ) → continues_name b ≡ true → is_above b ≡ true
continues-above b h = grind (arith, nat_tests, and_parts)

form-written : (w : List ℕ) → has_form w ≡ true → is_written w ≡ true
form-written [] h = absurd cc
form-written (c ∷ cs) h =
    let parts = and_parts (nat_lt (length cs) 16 && begins_name c) (list_all continues_name cs) h in
    let head = and_parts (nat_lt (length cs) 16) (begins_name c) parts.0 in
    and_from (is_above c) (is_written cs) (begins-above c head.1) (list_all-weaker continues_name is_above continues-above cs parts.1)

pub name-written : (w : List ℕ) → is_name w ≡ true → is_written w ≡ true
name-written w h = form-written w (and_parts (has_form w) _ h).0

-- ---- bytes as digits

abbrev all_lower : ℕ → Bool
all_lower zero = true
all_lower (suc n) = is_lower_digit (slice_index lower_digits n) && all_lower n

all_lower-at : (n k : ℕ) → all_lower n ≡ true → k < n → is_lower_digit (slice_index lower_digits k) ≡ true
all_lower-at zero k h lt = absurd (omega arith)
all_lower-at (suc n) k h lt =
    let parts = and_parts (is_lower_digit (slice_index lower_digits n)) (all_lower n) h in
    elim (cases_lt k n) [
      | inl below ↦ all_lower-at n k parts.1 below
      | inr top ↦
          let e : n ≡ k = omega arith in
          subst (λ (m : ℕ). is_lower_digit (slice_index lower_digits m) ≡ true) e parts.0
    ]

lower-at : (k : ℕ) → k < 16 → is_lower_digit (slice_index lower_digits k) ≡ true
lower-at k h = let table : all_lower 16 ≡ true = refl in all_lower-at 16 k table h

pub lower-encode : (bytes : List ℕ) → IsBytes bytes → list_all is_lower_digit (encode_lower bytes) ≡ true
unfolding encode_with
lower-encode [] h = refl
lower-encode (b ∷ bs) h =
    let this : b < 256 = h 0 in
    let more : IsBytes bs = λ i. h (suc i) in
    let high : b / 16 < 16 = omega arith in
    let low : b % 16 < 16 = omega arith in
    and_from (is_lower_digit (slice_index lower_digits (b / 16))) _ (lower-at (b / 16) high)
    (and_from (is_lower_digit (slice_index lower_digits (b % 16))) _ (lower-at (b % 16) low) (lower-encode bs more))

lower-above : (b : ℕ) → is_lower_digit b ≡ true → is_above b ≡ true
lower-above b h = grind (arith, nat_tests, and_parts)

pub written-encode : (bytes : List ℕ) → IsBytes bytes → is_written (encode_lower bytes) ≡ true
written-encode bytes h = list_all-weaker is_lower_digit is_above lower-above (encode_lower bytes) (lower-encode bytes h)

pub bytes-list : (bytes : List ℕ) → IsByteList bytes → IsBytes bytes
bytes-list bytes h i =
    elim (cases_lt i (length bytes)) [
      | inl in_range ↦ h i 0 in_range
      | inr past ↦ let e : get_or bytes i 0 ≡ 0 = get_or_past bytes i 0 past in omega (arith, e)
    ]
