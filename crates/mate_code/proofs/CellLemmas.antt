-- Lemmas on cells: what a write leaves of a store.
use Rattle.std.proofs.Common.{◌≡◌, ℕ, zero, suc, ℤ, pos, List, [], ◌∷◌, Bool, true, false, length, get_or, set, refl, ap, sym, ◌∙◌, arith}
use Rattle.std.specs.Prelude.{◌==◌}
use Rattle.std.proofs.lemmas.List.{length-set, get_or-set_other}
use Rattle.std.proofs.lemmas.Bool.{eqb-false, eq-eqb}
use Rattle.arrayvec.specs.ArrayVec.{ArrayVec}
use Rattle.mate_num.specs.Store.{payload}
use Rattle.mate_num.specs.declared.resource.Resource.{Resource}
use Rattle.mate_num.specs.declared.resource.Resource.TheVariants.{Shared, Buffer, Device}
use Rattle.mate_num.specs.declared.store.Store.{Store}
use Rattle.mate_code.specs.Cells.{read, write, number_in, AreAsLong, Agree}
use Rattle.mate_num.specs.Uses.{is_same_resource}

get_or-set_apart : {X : Type 0} (xs : List X) (i j : ℕ) (x d : X) → i == j ≡ false → get_or (set xs i x) j d ≡ get_or xs j d
get_or-set_apart xs i j x d apart = get_or-set_other xs i j x d (λ e. eqb-false i j apart (sym e))

-- the same write of lists that are as long
get_or-set_both : {X : Type 0} (xs ys : List X) (i j : ℕ) (x d : X) → length xs ≡ length ys → get_or xs j d ≡ get_or ys j d → get_or (set xs i x) j d ≡ get_or (set ys i x) j d
get_or-set_both [] [] i j x d e same = refl
get_or-set_both [] (y ∷ ys) i j x d e same = absurd (omega arith)
get_or-set_both (y ∷ xs) [] i j x d e same = absurd (omega arith)
get_or-set_both (y ∷ xs) (z ∷ ys) zero zero x d e same = refl
get_or-set_both (y ∷ xs) (z ∷ ys) zero (suc j) x d e same = same
get_or-set_both (y ∷ xs) (z ∷ ys) (suc i) zero x d e same = same
get_or-set_both (y ∷ xs) (z ∷ ys) (suc i) (suc j) x d e same = get_or-set_both xs ys i j x d (omega arith) same

one : {a b : ℤ} → a ≡ b → ◌≡◌ {A = List ℤ} (a ∷ []) (b ∷ [])
one e = ap (λ (x : ℤ). x ∷ []) e

-- what a write leaves of every other cell
pub read-write_other : (s : Store) (r q : Resource) (cell : List ℤ) → is_same_resource r q ≡ false → read (write s r cell) q ≡ read s q
read-write_other s (Shared v) (Shared w) cell apart = one (get_or-set_apart s.shared.items v.0 w.0 (number_in cell) (pos 0) apart)
read-write_other s (Shared v) (Buffer b) cell apart = refl
read-write_other s (Shared v) (Device d) cell apart = refl
read-write_other s (Buffer b) (Shared w) cell apart = refl
read-write_other s (Buffer b) (Buffer c) cell apart =
    ap (λ (p : ArrayVec ℤ). p.items) (get_or-set_apart s.buffers.items b.0 c.0 (payload cell) (payload []) apart)
read-write_other s (Buffer b) (Device d) cell apart = refl
read-write_other s (Device d) q cell apart = refl

pub write-AreAsLong : (s : Store) (r : Resource) (cell : List ℤ) → AreAsLong (write s r cell) s
write-AreAsLong s (Shared v) cell = record { shared = length-set s.shared.items v.0 (number_in cell); buffers = refl }
write-AreAsLong s (Buffer b) cell = record { shared = refl; buffers = length-set s.buffers.items b.0 (payload cell) }
write-AreAsLong s (Device d) cell = record { shared = refl; buffers = refl }

same_parts : {a b : List ℤ} → a ≡ b → payload a ≡ payload b
same_parts e = ap payload e

read-write_both : (s t : Store) (r q : Resource) (cell : List ℤ) → AreAsLong s t → read s q ≡ read t q → read (write s r cell) q ≡ read (write t r cell) q
read-write_both s t (Shared v) (Shared w) cell long same =
    one (get_or-set_both s.shared.items t.shared.items v.0 w.0 (number_in cell) (pos 0) long.shared (ap number_in same))
read-write_both s t (Shared v) (Buffer b) cell long same = same
read-write_both s t (Shared v) (Device d) cell long same = same
read-write_both s t (Buffer b) (Shared w) cell long same = same
read-write_both s t (Buffer b) (Buffer c) cell long same =
    ap (λ (p : ArrayVec ℤ). p.items) (get_or-set_both s.buffers.items t.buffers.items b.0 c.0 (payload cell) (payload []) long.buffers (same_parts same))
read-write_both s t (Buffer b) (Device d) cell long same = same
read-write_both s t (Device d) q cell long same = same

pub write-Agree : (test : Resource → Bool) (s t : Store) (r : Resource) (cell : List ℤ) → Agree test s t → Agree test (write s r cell) (write t r cell)
write-Agree test s t r cell agree =
    let a = write-AreAsLong s r cell in
    let b = write-AreAsLong t r cell in
    record {
      as_long = record { shared = a.shared ∙ agree.as_long.shared ∙ sym b.shared; buffers = a.buffers ∙ agree.as_long.buffers ∙ sym b.buffers };
      same = λ q in'. read-write_both s t r q cell agree.as_long (agree.same q in');
    }

pub is_same-refl : (r : Resource) → is_same_resource r r ≡ true
is_same-refl (Shared v) = eq-eqb v.0 v.0 refl
is_same-refl (Buffer b) = eq-eqb b.0 b.0 refl
is_same-refl (Device d) = eq-eqb d.0 d.0 refl
