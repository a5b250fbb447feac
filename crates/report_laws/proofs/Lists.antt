-- Lists that can't differ are the same.
use Rattle.std.proofs.Common.{◌≡◌, ℕ, zero, suc, List, [], ◌∷◌, ◌++◌, length, take, drop, refl, sym, ◌∙◌, ap, subst, inl, inr}
use Rattle.std.specs.Prelude.{ℤ, pos, negsuc, slice_index_or}
use Rattle.std.proofs.lemmas.Bool.Decides.{eqb_tells}
use Rattle.arrayvec.specs.ArrayVec.{ArrayVec}

pub nat-same : (a b : ℕ) → ((a ≡ b → ⊥) → ⊥) → a ≡ b
nat-same a b not_other = elim (eqb_tells a b) [ inl t ↦ t.1 | inr u ↦ absurd (not_other u.1) ]

int-same : (a b : ℤ) → ((a ≡ b → ⊥) → ⊥) → a ≡ b
int-same (pos a) (pos b) not_other = ap pos (nat-same a b (λ other. not_other (λ e. let h : pos a ≡ pos b = e in let i : a ≡ b = cc in other i)))
int-same (pos a) (negsuc b) not_other = absurd (not_other (λ e. let h : pos a ≡ negsuc b = e in cc))
int-same (negsuc a) (pos b) not_other = absurd (not_other (λ e. let h : negsuc a ≡ pos b = e in cc))
int-same (negsuc a) (negsuc b) not_other = ap negsuc (nat-same a b (λ other. not_other (λ e. let h : negsuc a ≡ negsuc b = e in let i : a ≡ b = cc in other i)))

pub ints-same : (xs ys : List ℤ) → ((xs ≡ ys → ⊥) → ⊥) → xs ≡ ys
ints-same [] [] not_other = refl
ints-same [] (y ∷ ys) not_other = absurd (not_other (λ e. let h : [] ≡ y ∷ ys = e in cc))
ints-same (x ∷ xs) [] not_other = absurd (not_other (λ e. let h : x ∷ xs ≡ [] = e in cc))
ints-same (x ∷ xs) (y ∷ ys) not_other =
    let first : x ≡ y = int-same x y (λ other. not_other (λ e. let h : x ∷ xs ≡ y ∷ ys = e in let i : x ≡ y = cc in other i)) in
    let others : xs ≡ ys = ints-same xs ys (λ other. not_other (λ e. let h : x ∷ xs ≡ y ∷ ys = e in let i : xs ≡ ys = cc in other i)) in
    ap (λ (z : ℤ). z ∷ xs) first ∙ ap (λ (zs : List ℤ). y ∷ zs) others

-- lists of one length with the same value at each place
pub ints-by_place : (xs ys : List ℤ) → length xs ≡ length ys → ((v : ℕ) → take 1 (drop v xs) ≡ take 1 (drop v ys)) → xs ≡ ys
ints-by_place [] [] long each = refl
ints-by_place [] (y ∷ ys) long each = cc
ints-by_place (x ∷ xs) [] long each = cc
ints-by_place (x ∷ xs) (y ∷ ys) long each =
    let h : x ∷ [] ≡ y ∷ [] = each zero in
    let first : x ≡ y = cc in
    let same_length : length xs ≡ length ys = cc in
    ap (λ (z : ℤ). z ∷ xs) first ∙ ap (λ (zs : List ℤ). y ∷ zs) (ints-by_place xs ys same_length (λ v. each (suc v)))

abbrev empty : ArrayVec ℤ
empty = record { items = [] }

pub buffers-by_place : (xs ys : List (ArrayVec ℤ)) → length xs ≡ length ys → ((b : ℕ) → (slice_index_or xs b empty).items ≡ (slice_index_or ys b empty).items) → xs ≡ ys
buffers-by_place [] [] long each = refl
buffers-by_place [] (y ∷ ys) long each = cc
buffers-by_place (x ∷ xs) [] long each = cc
buffers-by_place (x ∷ xs) (y ∷ ys) long each =
    let first : x ≡ y = ap (λ (zs : List ℤ). let v : ArrayVec ℤ = record { items = zs } in v) (each zero) in
    let same_length : length xs ≡ length ys = cc in
    ap (λ (z : ArrayVec ℤ). z ∷ xs) first ∙ ap (λ (zs : List (ArrayVec ℤ)). y ∷ zs) (buffers-by_place xs ys same_length (λ b. each (suc b)))
