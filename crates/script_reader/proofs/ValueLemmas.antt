-- The values of a series, read to the end of the line.
use Rattle.std.proofs.Common.{◌≡◌, ℕ, ◌+◌, ◌<◌, ◌≤◌, ℤ, List, [], ◌∷◌, ◌++◌, length, Result, Ok, Err, refl, sym, ◌∙◌, ap, arith, length-append}
use Rattle.script_steps.specs.declared.fault.Cause.{Cause}
use Rattle.script_steps.specs.declared.fault.Cause.TheVariants.{Word}
use Rattle.script_steps.specs.Words.{found, a_value, values_from}
use Rattle.script_steps.proofs.PayloadLemmas.{one_value, by_value, by_fault, nothing_to_read}
use Rattle.script_reader.specs.WorldWords.{some_values}

-- some values were read, and the words after them are left
pub record IsReadOn (all : List (List ℕ)) (values : List ℤ) (rest : List (List ℕ)) : Type 0 where
  pub whole : found (values_from [] all) [] ≡ found (values_from values rest) []
  pub some : 1 ≤ length values + length rest

pub read_first : (all : List (List ℕ)) → 1 ≤ length all → IsReadOn all [] all
read_first all some = record { whole = refl; some = omega arith }

pub read_on : (all old new : List (List ℕ)) (values : List ℤ) (v : ℤ) → IsReadOn all values old → a_value old ≡ Ok (record { value = v; rest = new }) → IsReadOn all (values ++ v ∷ []) new
read_on all [] new values v r e = absurd (let no : Ok (record { value = v; rest = new }) ≡ Err Word = nothing_to_read _ e in cc)
read_on all (w ∷ words) new values v r e =
    let next : ℤ → Result (List ℤ) Cause = λ v. values_from (values ++ v ∷ []) words in
    let front = by_value next (a_value (w ∷ [])) words new v (sym (one_value w words) ∙ e) in
    let len : length (values ++ v ∷ []) ≡ length values + 1 = length-append values (v ∷ []) in
    record { whole = r.whole ∙ ap (λ r. found r []) (front.0 ∙ ap (values_from (values ++ v ∷ [])) front.1); some = omega (arith, len) }

pub one_less_word : (old new : List (List ℕ)) (v : ℤ) → a_value old ≡ Ok (record { value = v; rest = new }) → length new < length old
one_less_word [] new v e = absurd (let no : Ok (record { value = v; rest = new }) ≡ Err Word = nothing_to_read _ e in cc)
one_less_word (w ∷ words) new v e =
    let front = by_value (λ v. Ok []) (a_value (w ∷ [])) words new v (sym (one_value w words) ∙ e) in
    let same : length words ≡ length new = ap length front.1 in
    omega arith

some_words : (all : List (List ℕ)) → 1 ≤ length all → some_values all ≡ found (values_from [] all) []
some_words [] some = absurd (omega arith)
some_words (w ∷ words) some = refl

pub no_words : (all : List (List ℕ)) → length all ≡ 0 → some_values all ≡ Err Word
no_words [] none = refl
no_words (w ∷ words) none = absurd (omega arith)

pub fails_on : (all old : List (List ℕ)) (values : List ℤ) (cause : Cause) → 1 ≤ length all → IsReadOn all values old → 0 < length old → a_value old ≡ Err cause → some_values all ≡ Err cause
fails_on all [] values cause begun r some e = absurd (omega arith)
fails_on all (w ∷ words) values cause begun r some e =
    let next : ℤ → Result (List ℤ) Cause = λ v. values_from (values ++ v ∷ []) words in
    some_words all begun ∙ r.whole ∙ ap (λ r. found r []) (by_fault next (a_value (w ∷ [])) words cause (sym (one_value w words) ∙ e))

pub all_read : (all rest : List (List ℕ)) (values : List ℤ) → 1 ≤ length all → IsReadOn all values rest → length rest ≡ 0 → some_values all ≡ Ok (record { value = values; rest = rest })
all_read all (w ∷ rest) values begun r done = absurd (omega arith)
all_read all [] values begun r done = some_words all begun ∙ r.whole
