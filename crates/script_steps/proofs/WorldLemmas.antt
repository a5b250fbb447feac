-- The series of a world, with one changed.
use Rattle.std.proofs.Common.{◌≡◌, ℕ, zero, suc, ◌<◌, ℤ, List, [], ◌∷◌, ◌++◌, length, slice_index_or, slice_set, Result, Ok, Err, MatchResult, ◌∙◌, ap, arith}
use Rattle.script_steps.specs.declared.world.Series.{Series}
use Rattle.script_steps.specs.World.{with_values}

abbrev pub valued : Series → List ℤ → Series
valued s values = record s { values = values }

pub set-with_values : (place : ℕ) (series : List Series) (s : Series) (more values : List ℤ) → place < length series → s ≡ slice_index_or series place s → values ≡ s.values ++ more
    → slice_set series place (valued s values) ≡ with_values place more series
set-with_values place [] s more values lt is e = absurd (omega arith)
set-with_values zero (t ∷ series) s more values lt is e = ap (λ (x : Series). valued x values ∷ series) is ∙ ap (λ v. valued t v ∷ series) (e ∙ ap (λ (x : Series). x.values ++ more) is)
set-with_values (suc place) (t ∷ series) s more values lt is e = ap (λ r. t ∷ r) (set-with_values place series s more values (omega arith) is e)

pub set-same_values : (place : ℕ) (series : List Series) (s : Series) (values : List ℤ) → place < length series → s ≡ slice_index_or series place s → values ≡ s.values
    → slice_set series place (valued s values) ≡ series
set-same_values place [] s values lt is e = absurd (omega arith)
set-same_values zero (t ∷ series) s values lt is e = ap (λ (x : Series). valued x values ∷ series) is ∙ ap (λ v. valued t v ∷ series) (e ∙ ap (λ (x : Series). x.values) is)
set-same_values (suc place) (t ∷ series) s values lt is e = ap (λ r. t ∷ r) (set-same_values place series s values (omega arith) is e)

pub set-appended : {E : Type 0} (place : ℕ) (series old : List Series) (s : Series) (value : ℤ) (values : List ℤ) (r : Result (Unit {0}) E) → series ≡ old → place < length old → s ≡ slice_index_or series place s
    → MatchResult r (λ _. values ≡ s.values ++ value ∷ []) (λ _. values ≡ s.values)
    → MatchResult r (λ _. slice_set series place (valued s values) ≡ with_values place (value ∷ []) old) (λ _. slice_set series place (valued s values) ≡ old)
set-appended place series old s value values (Ok u) same lt is e = set-with_values place series s (value ∷ []) values (rw same lt) is e ∙ ap (with_values place (value ∷ [])) same
set-appended place series old s value values (Err fault) same lt is e = set-same_values place series s values (rw same lt) is e ∙ same
