-- Marks in a list, by place.
use Rattle.std.proofs.Common.{◌≡◌, ℕ, ◌<◌, ◌≤◌, List, Bool, true, false, length, refl, ap, sym, ◌∙◌, arith, get_or, replicate, inl, inr}
use Rattle.std.specs.Prelude.{◌==◌, ◌⊎◌, if◌then◌else◌}
use Rattle.std.proofs.Math.ListN.{set}
use Rattle.std.proofs.lemmas.Bool.{eqb-true, eqb-false, cases_lt}
use Rattle.std.proofs.lemmas.List.{get_or-set_same, get_or-set_other, get_or-replicate, get_or_past, length-replicate}
use Rattle.mate_code.specs.Verification.{given, mark}
use Rattle.mate_code.specs.Verification as verification
use Rattle.code_verifier.specs.declared.marks.Mark.{Mark}
use Rattle.code_verifier.specs.declared.marks.Mark.TheVariants.{Blank}
use Rattle.code_verifier.specs.Marks.{mark_in, marks_in}

-- a write at a place gives it one more depth
pub marks_in-set : (marks : List Mark) (place depth : ℕ) (m : Mark) → place < length marks → mark_in m ≡ given (mark_in (get_or marks place Blank)) depth → marks_in (set marks place m) ≡ mark place depth (marks_in marks)
marks_in-set marks place depth m lt is = λ i. λ q. at q (q == place) refl i where
  at : (q : ℕ) (b : Bool) → (q == place) ≡ b → mark_in (get_or (set marks place m) q Blank) ≡ (if b then given (mark_in (get_or marks q Blank)) depth else mark_in (get_or marks q Blank))
  at q true same =
      let e : q ≡ place = eqb-true q place same in
      ap (λ (k : ℕ). mark_in (get_or (set marks place m) k Blank)) e
      ∙ ap mark_in (get_or-set_same marks place m Blank lt) ∙ is
      ∙ ap (λ (k : ℕ). given (mark_in (get_or marks k Blank)) depth) (sym e)
  at q false other = ap mark_in (get_or-set_other marks place q m Blank (eqb-false q place other))

blank-replicate : (n q : ℕ) → get_or (replicate n Blank) q Blank ≡ Blank
blank-replicate n q = by (cases_lt q n) where
  by : (q < n) ⊎ (n ≤ q) → get_or (replicate n Blank) q Blank ≡ Blank
  by (inl lt) = get_or-replicate n q Blank Blank lt
  by (inr le) = get_or_past (replicate n Blank) q Blank (let e = length-replicate n Blank in omega arith)

-- no place has a depth
pub marks_in-blank : (n : ℕ) → marks_in (replicate n Blank) ≡ (λ _. verification.Blank)
marks_in-blank n = λ i. λ q. mark_in (blank-replicate n q i)
