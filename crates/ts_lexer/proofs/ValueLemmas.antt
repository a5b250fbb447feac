-- The value of digits, digit by digit.
use Rattle.std.proofs.Common.{◌≡◌, ℕ, ◌+◌, ◌-◌, ◌*◌, ◌<◌, ◌≤◌, zero, suc, nat_lt, nat_le, if◌then◌else◌, List, [], ◌∷◌, length, get_or, drop, Option, Some, None, sym, ◌∙◌, ap, subst, arith}
use Rattle.std.specs.Option.{SomeIff}
use Rattle.std.proofs.lemmas.Bool.{cond-true, cond-false, and_parts, leb-true, lt-ltb, le-ltb}
use Rattle.std.proofs.lemmas.List.{drop_more, drop_all}
use Rattle.ts_trees.specs.Cut.{is_digit}
use Rattle.ts_lexer.specs.Spans.{Passes, digits_value}
use Rattle.ts_lexer.proofs.CutLemmas.{value_of-ge}

pub digit_at : (ds : List ℕ) (i : ℕ) → Passes is_digit ds → i < length ds → 48 ≤ get_or ds i 0
digit_at [] i p h = absurd (omega arith)
digit_at (d ∷ ds) zero p h = leb-true 48 d (and_parts (nat_le 48 d) (nat_le d 57) p.0).0
digit_at (d ∷ ds) (suc i) p h = digit_at ds i p.1 (omega arith)

-- so many digits were read, and no value over 65535 was met
pub record IsReadTo (ds : List ℕ) (i v : ℕ) : Type 0 where
  pub whole : digits_value 0 ds ≡ digits_value v (drop i ds)
  pub small : v ≤ 65535

-- the value with one more digit is no more than the whole
value_more : (ds : List ℕ) (i v : ℕ) → IsReadTo ds i v → i < length ds → v * 10 + (get_or ds i 0 - 48) ≤ digits_value 0 ds
value_more ds i v u h =
    let e : digits_value 0 ds ≡ digits_value (v * 10 + (get_or ds i 0 - 48)) (drop (i + 1) ds) = u.whole ∙ ap (digits_value v) (drop_more ds i 0 h) in
    omega (arith, value_of-ge (v * 10 + (get_or ds i 0 - 48)) (drop (i + 1) ds))

none_since : (o : Option ℕ) (P : Type 0) (w : ℕ) → SomeIff o P w → o ≡ None → P → ⊥
none_since None P w h e = h
none_since (Some x) P w h e = cc

over : (n : ℕ) (r : Option ℕ) → r ≡ None → 65535 < n → r ≡ (if nat_lt 65535 n then None else Some n)
over n r e h = e ∙ sym (cond-true (nat_lt 65535 n) None (Some n) (lt-ltb 65535 n h))

pub over_by_product : (ds : List ℕ) (i v : ℕ) (o r : Option ℕ) → IsReadTo ds i v → i < length ds → SomeIff o (v * 10 < 65536) (v * 10) → o ≡ None → r ≡ None
    → r ≡ (if nat_lt 65535 (digits_value 0 ds) then None else Some (digits_value 0 ds))
over_by_product ds i v o r u h s e n =
    let no : v * 10 < 65536 → ⊥ = none_since o (v * 10 < 65536) (v * 10) s e in
    over (digits_value 0 ds) r n (omega (arith, value_more ds i v u h))

pub over_by_sum : (ds : List ℕ) (i v m d : ℕ) (o r : Option ℕ) → IsReadTo ds i v → i < length ds → m ≡ v * 10 → d ≡ get_or ds i 0 - 48 → SomeIff o (m + d < 65536) (m + d) → o ≡ None → r ≡ None
    → r ≡ (if nat_lt 65535 (digits_value 0 ds) then None else Some (digits_value 0 ds))
over_by_sum ds i v m d o r u h p q s e n =
    let no : m + d < 65536 → ⊥ = none_since o (m + d < 65536) (m + d) s e in
    over (digits_value 0 ds) r n (omega (arith, value_more ds i v u h))

pub whole_value : (ds : List ℕ) (i v : ℕ) → IsReadTo ds i v → length ds ≤ i → Some v ≡ (if nat_lt 65535 (digits_value 0 ds) then None else Some (digits_value 0 ds))
whole_value ds i v u h =
    let e : digits_value 0 ds ≡ v = u.whole ∙ ap (digits_value v) (drop_all i ds h) in
    ap (λ n. Some n) (sym e) ∙ sym (cond-false (nat_lt 65535 (digits_value 0 ds)) None (Some (digits_value 0 ds)) (le-ltb 65535 (digits_value 0 ds) (let P : ℕ → Type 0 = λ n. n ≤ 65535 in subst P (sym e) u.small)))
