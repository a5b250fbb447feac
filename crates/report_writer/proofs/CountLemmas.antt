-- One item more is counted.
use Rattle.std.proofs.Common.{◌≡◌, ℕ, ◌+◌, ◌<◌, Bool, true, false, List, length, take, get_or, refl, ap, sym, ◌∙◌, arith}
use Rattle.std.specs.Prelude.{count_by}
use Rattle.std.proofs.lemmas.List.Sums.{count_by_more_yes, count_by_more_no}
use Rattle.report_writer.specs.Brief.{one_if}

count-at : {A : Type 0} (p : A → Bool) (xs : List A) (i : ℕ) (x : A) → i < length xs → x ≡ get_or xs i x → (b : Bool) → p x ≡ b
    → count_by p (take (i + 1) xs) ≡ count_by p (take i xs) + one_if (p x)
count-at p xs i x h is true e = omega (arith, count_by_more_yes p xs i x h (ap p (sym is) ∙ e), ap one_if e)
count-at p xs i x h is false e = omega (arith, count_by_more_no p xs i x h (ap p (sym is) ∙ e), ap one_if e)

pub count-next : {A : Type 0} (p : A → Bool) (xs : List A) (i : ℕ) (x : A) → i < length xs → x ≡ get_or xs i x
    → count_by p (take (i + 1) xs) ≡ count_by p (take i xs) + one_if (p x)
count-next p xs i x h is = count-at p xs i x h is (p x) refl
