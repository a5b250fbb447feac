-- A word that is a numeral, found by its first byte that is no digit.
use Rattle.mate_num.specs.Results.{result_map}
use Rattle.script_steps.specs.declared.fault.Cause.TheVariants.{Range}
use Rattle.std.proofs.Common.{◌≡◌, ℕ, ℤ, pos, [], ◌<◌, true, false, not, ◌==◌, List, ◌∷◌, length, take, drop, get_or, Some, Result, Ok, Err, refl, sym, ◌∙◌, ap, arith}
use Rattle.std.specs.List.{list_all, prefix_len}
use Rattle.std.specs.Char.{is_ascii_digit}
use Rattle.std.specs.Cmp.Derive.{both_true}
use Rattle.std.proofs.lemmas.Bool.{and_parts}
use Rattle.std.proofs.lemmas.Bool.Decides.{nat_tests}
use Rattle.std.proofs.lemmas.List.{at_drop_more, get_or-take, length-take-le}
use Rattle.std.proofs.lemmas.List.Sums.{prefix_len_is}
use Rattle.vm_shape.proofs.DescriptionLemmas.{list_all-at}
use Rattle.script_steps.specs.declared.fault.Cause.{Cause}
use Rattle.script_steps.specs.declared.words.Leading.{Leading}
use Rattle.script_steps.specs.Lines.{is_blank, split_words}
use Rattle.script_steps.specs.Words.{ReadsWords, TakesNumeral, AreLeadingDigits, SpellsNumber, begins_with_word, within, value_read, a_number, a_value}
use Rattle.script_steps.proofs.NumberLemmas.{digits-printable}
use Rattle.script_steps.proofs.SplitLemmas.{IsCut, a_word_is_next, front_len}

digit-no_blank : (b : ℕ) → is_ascii_digit b ≡ true → not (is_blank b) ≡ true
digit-no_blank b is = grind (arith, nat_tests, and_parts)

-- the word ends where its digits do
digits-end : (from : List ℕ) (l : Leading) → AreLeadingDigits from l → begins_with_word (drop l.digits from) ≡ false → front_len is_blank from ≡ l.digits
digits-end from l leads ends =
    prefix_len_is (λ b. not (is_blank b)) from l.digits 0 leads.within
    (λ k below. let within = leads.within in let short = length-take-le l.digits from leads.within in
    digit-no_blank (get_or from k 0) (ap is_ascii_digit (sym (get_or-take l.digits from k 0 below)) ∙ list_all-at is_ascii_digit (take l.digits from) k 0 leads.all_digits (omega (arith, below, short))))
    (λ below. sym (at_drop_more begins_with_word from l.digits 0 below) ∙ ends)

pub takes-number : (old from new : List ℕ) (l : Leading) → from ≡ drop (prefix_len is_blank old) old → AreLeadingDigits from l → new ≡ drop l.digits from → begins_with_word new ≡ false
    → TakesNumeral (split_words old) (split_words new) l.number
takes-number old from new l blanks leads behind ends =
    let end = digits-end from l leads (ap begins_with_word (sym behind) ∙ ends) in
    let word = take l.digits from in
    let long = length-take-le l.digits from leads.within in
    let some = leads.some in
    let longer : 0 < length word = omega (arith, long, some) in
    let cut : IsCut old from word new = record { blanks = blanks; front = ap (λ (n : ℕ). take n from) (sym end); back = behind ∙ ap (λ (n : ℕ). drop n from) (sym end) } in
    let there : not (length word == 0) ≡ true = grind (arith, nat_tests) in
    record { word = word; cut = a_word_is_next old from word new cut longer; spells = (both_true there leads.all_digits, leads.spelled) }

-- such a word is read as its number
pub number-taken : (low high : ℕ) (outside : Cause) (before after : List (List ℕ)) (n : ℕ) (r : Result ℕ Cause) → TakesNumeral before after n → r ≡ within low high outside (Ok n)
    → ReadsWords (λ n. n) (a_number low high outside) before r after
unfolding a_number
number-taken low high outside before after n (Ok m) takes is =
    let digits = and_parts (not (length takes.word == 0)) (list_all is_ascii_digit takes.word) takes.spells.0 in
    rw (takes.cut, digits-printable takes.word digits.1, takes.spells.0, ← takes.spells.1, ← is) refl
number-taken low high outside before after n (Err cause) takes is =
    let digits = and_parts (not (length takes.word == 0)) (list_all is_ascii_digit takes.word) takes.spells.0 in
    rw (takes.cut, digits-printable takes.word digits.1, takes.spells.0, ← takes.spells.1, ← is) refl

-- a numeral is no minus
digit-no_minus : (b : ℕ) → is_ascii_digit b ≡ true → (b == 45) ≡ false
digit-no_minus b is = grind (arith, nat_tests, and_parts)

value-numeral : (w : List ℕ) (n : ℕ) → SpellsNumber w (Some n) → value_read w ≡ result_map pos (within 0 32767 Range (Ok n))
value-numeral [] n spells = absurd (let f : false ≡ true = spells.0 in cc)
value-numeral (b ∷ bytes) n spells =
    let digits = and_parts (not (length (b ∷ bytes) == 0)) (list_all is_ascii_digit (b ∷ bytes)) spells.0 in
    let first = and_parts (is_ascii_digit b) (list_all is_ascii_digit bytes) digits.1 in
    rw (digit-no_minus b first.0, spells.0, ← spells.1) refl

-- and as its value
pub value-taken : (before after : List (List ℕ)) (n : ℕ) (r : Result ℤ Cause) → TakesNumeral before after n → r ≡ result_map pos (within 0 32767 Range (Ok n))
    → ReadsWords (λ v. v) a_value before r after
unfolding a_value
value-taken before after n (Ok v) takes is =
    let digits = and_parts (not (length takes.word == 0)) (list_all is_ascii_digit takes.word) takes.spells.0 in
    rw (takes.cut, digits-printable takes.word digits.1, value-numeral takes.word n takes.spells, ← is) refl
value-taken before after n (Err cause) takes is =
    let digits = and_parts (not (length takes.word == 0)) (list_all is_ascii_digit takes.word) takes.spells.0 in
    rw (takes.cut, digits-printable takes.word digits.1, value-numeral takes.word n takes.spells, ← is) refl
