-- Hexadecimal digits decode, and what was encoded is read again.
use Rattle.std.proofs.Common.{◌≡◌, ℕ, ◌-◌, ◌*◌, ◌%◌, ◌≤◌, true, false, eqb, ltb, List, [], ◌∷◌, length, take, get_or, Result, Ok, Err, refl, sym, ap, ◌∙◌, arith, inl, inr}
use Rattle.std.specs.Prelude.{MatchResult}
use Rattle.std.specs.Char.{is_ascii_hexdigit}
use Rattle.std.specs.List.{list_all, suffix_len, AllPass}
use Rattle.std.specs.Result.{result_unwrap_or}
use Rattle.std.proofs.lemmas.Bool.{and_parts, and_from, eqb-true, eq-eqb, le-ltb, not_from_true, cond-false, cases_lt}
use Rattle.std.proofs.lemmas.Bool.Decides.{nat_tests}
use Rattle.std.proofs.lemmas.List.{take_all, nil_from_length}
use Rattle.std.proofs.lemmas.List.Sums.{AllPass-from_list_all, list_all-from_AllPass, suffix_len-take_no}
use Rattle.hex.specs.Hex.{IsBytes, decode_of, decode_sized, encode_lower, lower_digits, is_hex_digit}
use Rattle.hex.specs.declared.error.FromHexError.{FromHexError}
use Rattle.hex.proofs.HexLemmas.{decode_of-digits, decode_of-ok, decode_of-encode_lower, decode_sized-twice, length-encode_with}
use Rattle.capsule_codec.specs.HexText.{is_blank_byte, trimmed, is_hex, bytes_of_digits, image_of_digits, image_in}

digit_is : (c : ℕ) → is_ascii_hexdigit c ≡ is_hex_digit c
digit_is c = grind (arith, nat_tests)

digits_are : (text : List ℕ) → list_all is_ascii_hexdigit text ≡ list_all is_hex_digit text
digits_are [] = refl
digits_are (c ∷ text) = rw (digit_is c, digits_are text) refl

-- an even number of digits decodes
decode_of-is_hex : (digits : List ℕ) → is_hex digits ≡ true → decode_of digits ≡ Ok (bytes_of_digits digits)
decode_of-is_hex digits known =
    let parts = and_parts (eqb (length digits % 2) 0) (list_all is_ascii_hexdigit digits) known in
    let all : AllPass is_hex_digit digits = AllPass-from_list_all is_hex_digit digits (sym (digits_are digits) ∙ parts.1) in
    let found = decode_of-digits digits (eqb-true _ _ parts.0) all in
    found.1 ∙ ap Ok (sym (ap (λ (r : Result (List ℕ) FromHexError). result_unwrap_or r []) found.1))

decodes_at : (read : Result (List ℕ) FromHexError) (bytes : List ℕ) (r : Result Unit FromHexError) (out : List ℕ) → read ≡ Ok bytes
    → MatchResult read (λ bytes. (r ≡ Ok tt) × (out ≡ bytes)) (λ e. r ≡ Err e) → (r ≡ Ok tt) × (out ≡ bytes)
decodes_at (Ok found) bytes r out same h = let e : found ≡ bytes = cc same in (h.0, h.1 ∙ e)
decodes_at (Err fault) bytes r out same h = absurd cc

-- what decoded failed in no way
pub never-fails : (r : Result Unit FromHexError) (fault : FromHexError) → r ≡ Ok tt → r ≡ Err fault → ⊥
never-fails r fault ok err = let e : ◌≡◌ {A = Result Unit FromHexError} (Ok tt) (Err fault) = sym ok ∙ err in absurd cc

-- into room for as many bytes as digits tell, they decode
pub decodes : (digits : List ℕ) (n : ℕ) (r : Result Unit FromHexError) (out : List ℕ) → is_hex digits ≡ true → length digits ≡ 2 * n
    → MatchResult (decode_sized digits n) (λ bytes. (r ≡ Ok tt) × (out ≡ bytes)) (λ e. r ≡ Err e) → (r ≡ Ok tt) × (out ≡ bytes_of_digits digits)
decodes digits n r out known twice h =
    decodes_at (decode_sized digits n) (bytes_of_digits digits) r out (decode_sized-twice digits n twice ∙ decode_of-is_hex digits known) h

-- ---- what was encoded

no_blank : (c : ℕ) → is_ascii_hexdigit c ≡ true → is_blank_byte c ≡ false
no_blank c h = grind (arith, nat_tests)

-- digits have no trailing blank
trimmed-digits : (digits : List ℕ) → AllPass is_ascii_hexdigit digits → trimmed digits ≡ digits
trimmed-digits digits all =
    elim (cases_lt 0 (length digits)) [
      | inl some ↦
          let last = no_blank (get_or digits (length digits - 1) 0) (all (length digits - 1) 0 (omega arith)) in
          let none : suffix_len is_blank_byte (take (length digits) digits) ≡ 0 = suffix_len-take_no is_blank_byte digits (length digits) 0 some (omega arith) last in
          let whole : take (length digits) digits ≡ digits = take_all (length digits) digits (omega arith) in
          let same : suffix_len is_blank_byte digits ≡ 0 = rw whole at none in
          let kept : length digits - suffix_len is_blank_byte digits ≡ length digits = omega arith in
          rw kept whole
      | inr empty ↦ rw (nil_from_length digits (omega arith)) refl
    ]

pub image_in-encode_lower : (image : List ℕ) → IsBytes image → length image ≤ 1056 → image_in (encode_lower image) ≡ Ok (record { items = image })
image_in-encode_lower image fits short =
    let text = encode_lower image in
    let len : length text ≡ 2 * length image = length-encode_with lower_digits image in
    let back : decode_of text ≡ Ok image = decode_of-encode_lower image fits in
    let digits = decode_of-ok text image back in
    let all : list_all is_ascii_hexdigit text ≡ true = digits_are text ∙ list_all-from_AllPass is_hex_digit text digits.1 in
    let known : is_hex text ≡ true = and_from _ _ (eq-eqb _ _ digits.0) all in
    let long : ltb 2112 (length text) ≡ false = le-ltb _ _ (omega arith) in
    let bytes : bytes_of_digits text ≡ image = ap (λ (r : Result (List ℕ) FromHexError). result_unwrap_or r []) back in
    ap image_of_digits (trimmed-digits text (AllPass-from_list_all is_ascii_hexdigit text all))
    ∙ cond-false _ _ _ (not_from_true _ known)
    ∙ cond-false _ _ _ long
    ∙ rw bytes refl
