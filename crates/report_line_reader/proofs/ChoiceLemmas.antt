-- A word names the one of some choices whose word it is.
use Rattle.std.proofs.Common.{◌≡◌, ℕ, List, [], ◌∷◌, Some, sym, ap, ◌∙◌, inl, inr}
use Rattle.std.specs.Str.{bytes_eq}
use Rattle.std.proofs.lemmas.Bool.{cases_Bool, cond-true, cond-false}
use Rattle.std.proofs.lemmas.Slice.Eq.{bytes_eq-Decides}
use Rattle.report_line_reader.specs.Fields.{named_among}

-- the word of what it names
pub named_among-word : {A : Type 0} (word_of : A → List ℕ) (choices : List A) (word : List ℕ) (a : A) → named_among word_of choices word ≡ Some a → word ≡ word_of a
named_among-word word_of [] word a h = absurd cc
named_among-word word_of (c ∷ cs) word a h =
    elim (cases_Bool (bytes_eq (word_of c) word)) [
      | inl here ↦
          let e : Some c ≡ Some a = sym (cond-true (bytes_eq (word_of c) word) _ _ here) ∙ h in
          let same : c ≡ a = cc in
          sym ((bytes_eq-Decides (word_of c) word).0 here) ∙ ap word_of same
      | inr later ↦ named_among-word word_of cs word a (sym (cond-false (bytes_eq (word_of c) word) _ _ later) ∙ h)
    ]
