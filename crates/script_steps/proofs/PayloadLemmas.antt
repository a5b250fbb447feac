-- Values in words.
use Rattle.std.proofs.Common.{◌≡◌, ℕ, suc, ◌+◌, ◌-◌, ◌<◌, ◌≤◌, ℤ, List, [], ◌∷◌, ◌++◌, length, take, drop, Result, Ok, Err, refl, sym, ◌∙◌, ap, arith, length-append}
use Rattle.mate_num.specs.Results.{result_map}
use Rattle.std.proofs.Math.Seq.{take-nil, drop-nil}
use Rattle.script_steps.specs.declared.fault.Cause.{Cause}
use Rattle.script_steps.specs.declared.fault.Cause.TheVariants.{Word}
use Rattle.mate_num.specs.Store.{payload}
use Rattle.script_steps.specs.Words.{TakenWords, found, and_then, printed, value_read, a_value, values_from, then_more, a_payload}

-- so many values were read, and the words after them are left
pub record IsReadTo (all : List (List ℕ)) (values : List ℤ) (rest : List (List ℕ)) : Type 0 where
  pub few : length values ≤ 10
  pub whole : values_from [] (take 10 all) ≡ values_from values (take (10 - length values) rest)
  pub after : drop 10 all ≡ drop (10 - length values) rest

abbrev pub with_rest : List (List ℕ) → Result (TakenWords ℤ) Cause → Result (TakenWords ℤ) Cause
with_rest words (Ok t) = Ok (record { value = t.value; rest = words })
with_rest words (Err cause) = Err cause

found_again : (r : Result ℤ Cause) (words : List (List ℕ)) → found r words ≡ with_rest words (found r [])
found_again (Ok v) words = refl
found_again (Err cause) words = refl

-- what a word is doesn't depend on the words behind it
pub one_value : (w : List ℕ) (words : List (List ℕ)) → a_value (w ∷ words) ≡ with_rest words (a_value (w ∷ []))
unfolding a_value
one_value w words = by (printed w)
  where
    by : (r : Result (List ℕ) Cause) → and_then (λ w. found (value_read w)) (found r words) ≡ with_rest words (and_then (λ w. found (value_read w)) (found r []))
    by (Ok text) = found_again (value_read text) words
    by (Err cause) = refl

pub nothing_to_read : (r : Result (TakenWords ℤ) Cause) → a_value [] ≡ r → r ≡ Err Word
unfolding a_value
nothing_to_read r e = sym e

abbrev value_or : ℤ → Result (TakenWords ℤ) Cause → ℤ
value_or other (Ok t) = t.value
value_or other (Err cause) = other

abbrev rest_or : List (List ℕ) → Result (TakenWords ℤ) Cause → List (List ℕ)
rest_or other (Ok t) = t.rest
rest_or other (Err cause) = other

pub by_value : (next : ℤ → Result (List ℤ) Cause) (r : Result (TakenWords ℤ) Cause) (words rest : List (List ℕ)) (v : ℤ) → with_rest words r ≡ Ok (record { value = v; rest = rest })
    → (then_more next r ≡ next v) × (words ≡ rest)
by_value next (Ok t) words rest v e = (ap next (ap (value_or v) e), ap (rest_or rest) e)
by_value next (Err cause) words rest v e = absurd cc

pub by_fault : (next : ℤ → Result (List ℤ) Cause) (r : Result (TakenWords ℤ) Cause) (words : List (List ℕ)) (cause : Cause) → with_rest words r ≡ Err cause
    → then_more next r ≡ Err cause
by_fault next (Ok t) words cause e = absurd cc
by_fault next (Err fault) words cause e = cc

pub read_none : (all : List (List ℕ)) → IsReadTo all [] all
read_none all = record { few = omega arith; whole = refl; after = refl }

one_less : (n : ℕ) → n < 10 → 10 - n ≡ suc (10 - (n + 1))
one_less n h = omega arith

pub read_more : (all old new : List (List ℕ)) (values : List ℤ) (v : ℤ) → IsReadTo all values old → length values < 10 → a_value old ≡ Ok (record { value = v; rest = new })
    → IsReadTo all (values ++ v ∷ []) new
read_more all [] new values v r h e = absurd (let no : Ok (record { value = v; rest = new }) ≡ Err Word = nothing_to_read _ e in cc)
read_more all (w ∷ words) new values v r h e =
    let k : ℕ = 10 - (length values + 1) in
    let less : 10 - length values ≡ suc k = one_less (length values) h in
    let len : length (values ++ v ∷ []) ≡ length values + 1 = length-append values (v ∷ []) in
    let next : ℤ → Result (List ℤ) Cause = λ v. values_from (values ++ v ∷ []) (take k words) in
    let front = by_value next (a_value (w ∷ [])) words new v (sym (one_value w words) ∙ e) in
    record {
      few = omega (arith, len);
      whole = r.whole ∙ rw less (front.0 ∙ rw (len, front.1) refl);
      after = r.after ∙ rw less (rw (len, front.1) refl);
    }

pub read_fails : (all old : List (List ℕ)) (values : List ℤ) (cause : Cause) → IsReadTo all values old → length values < 10 → 0 < length old → a_value old ≡ Err cause
    → a_payload all ≡ Err cause
unfolding a_payload
read_fails all [] values cause r h some e = absurd (omega arith)
read_fails all (w ∷ words) values cause r h some e =
    let k : ℕ = 10 - (length values + 1) in
    let less : 10 - length values ≡ suc k = one_less (length values) h in
    let next : ℤ → Result (List ℤ) Cause = λ v. values_from (values ++ v ∷ []) (take k words) in
    let fails : values_from [] (take 10 all) ≡ Err cause = r.whole ∙ rw less (by_fault next (a_value (w ∷ [])) words cause (sym (one_value w words) ∙ e)) in
    ap (λ r. found (result_map payload r) (drop 10 all)) fails

pub read_full : (all rest : List (List ℕ)) (values : List ℤ) → IsReadTo all values rest → 10 ≤ length values → a_payload all ≡ Ok (record { value = payload values; rest = rest })
unfolding a_payload
read_full all rest values r full =
    let none : 10 - length values ≡ 0 = omega arith in
    ap (λ r. found (result_map payload r) (drop 10 all)) (r.whole ∙ ap (λ n. values_from values (take n rest)) none) ∙ ap (λ ws. found (result_map payload (Ok values)) ws) (r.after ∙ ap (λ n. drop n rest) none)

pub read_done : (all rest : List (List ℕ)) (values : List ℤ) → IsReadTo all values rest → length rest ≡ 0 → a_payload all ≡ Ok (record { value = payload values; rest = rest })
unfolding a_payload
read_done all (w ∷ rest) values r done = absurd (omega arith)
read_done all [] values r done = ap (λ r. found (result_map payload r) (drop 10 all)) (r.whole ∙ ap (values_from values) (take-nil (10 - length values))) ∙ ap (λ ws. found (result_map payload (Ok values)) ws) (r.after ∙ drop-nil (10 - length values))
