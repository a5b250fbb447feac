-- Stores that are filled item by item.
use Rattle.std.proofs.Common.{◌≡◌, ◌<◌, ◌≤◌, ℕ, zero, suc, ◌+◌, ℤ, Bool, true, List, [], ◌∷◌, ◌++◌, length, take, set, get_or, refl, ap, sym, ◌∙◌, subst, arith, Result, Ok, Err, get_or-set_same}
use Rattle.std.specs.Prelude.{⊤, nat_lt, if◌then◌else◌}
use Rattle.std.proofs.lemmas.Bool.Decides.{nat_tests}
use Rattle.std.proofs.lemmas.List.{set-set, take_more, length-take-le}
use Rattle.arrayvec.specs.ArrayVec.{ArrayVec}
use Rattle.mate_num.specs.Store.{payload, buffer_at, set_buffer, appended}
use Rattle.mate_num.specs.declared.call.FaultKind.{FaultKind}
use Rattle.mate_num.specs.declared.call.FaultKind.TheVariants.{BufferFull}
use Rattle.mate_num.specs.declared.store.Store.{Store}
use Rattle.node_heap.specs.Changes.{ChangesBuffer}

-- the first list over the front of the second
abbrev pub overlaid : {A : Type 0} → List A → List A → List A
overlaid [] ys = ys
overlaid (x ∷ xs) [] = []
overlaid (x ∷ xs) (y ∷ ys) = x ∷ overlaid xs ys

pub overlaid-more : {A : Type 0} (xs ys : List A) (i : ℕ) (d : A) → i < length xs → length xs ≤ length ys → set (overlaid (take i xs) ys) i (get_or xs i d) ≡ overlaid (take (i + 1) xs) ys
overlaid-more [] ys i d h le = absurd (omega arith)
overlaid-more (x ∷ xs) [] i d h le = absurd (omega arith)
overlaid-more (x ∷ xs) (y ∷ ys) zero d h le = refl
overlaid-more (x ∷ xs) (y ∷ ys) (suc i) d h le =
    let e : suc i + 1 ≡ suc (i + 1) = omega arith in
    rw e (ap (λ zs. x ∷ zs) (overlaid-more xs ys i d (omega arith) (omega arith)))

pub overlaid-whole : {A : Type 0} (xs ys : List A) (n : ℕ) → length xs ≤ n → length xs ≡ length ys → overlaid (take n xs) ys ≡ xs
overlaid-whole [] [] zero le same = refl
overlaid-whole [] [] (suc n) le same = refl
overlaid-whole [] (y ∷ ys) n le same = absurd (omega arith)
overlaid-whole (x ∷ xs) [] n le same = absurd (omega arith)
overlaid-whole (x ∷ xs) (y ∷ ys) zero le same = absurd (omega arith)
overlaid-whole (x ∷ xs) (y ∷ ys) (suc n) le same = ap (λ zs. x ∷ zs) (overlaid-whole xs ys n (omega arith) (omega arith))

pub length-overlaid : {A : Type 0} (xs ys : List A) → length xs ≤ length ys → length (overlaid xs ys) ≡ length ys
length-overlaid [] ys le = refl
length-overlaid (x ∷ xs) [] le = absurd (omega arith)
length-overlaid (x ∷ xs) (y ∷ ys) le = ap suc (length-overlaid xs ys (omega arith))

-- ---- a buffer

-- one more value finds room
pub append-more : (s : Store) (b : ℕ) (xs : List ℤ) (i : ℕ) (x d : ℤ) (result : Result ⊤ FaultKind) (old new : Store) → b < length s.buffers.items → i < length xs → length xs ≤ 10 → x ≡ get_or xs i d
    → old ≡ set_buffer s b (take i xs) → ChangesBuffer old b (appended (buffer_at old b) x) result new → (result ≡ Ok tt) × (new ≡ set_buffer s b (take (i + 1) xs))
append-more s b xs i x d result old new below within few is old_is changes =
    let v : List ℤ = take i xs in
    let O : Store → Type 0 = λ o. ChangesBuffer o b (appended (buffer_at o b) x) result new in
    let before : buffer_at (set_buffer s b v) b ≡ v = ap (λ (p : ArrayVec ℤ). p.items) (get_or-set_same s.buffers.items b (payload v) (payload []) below) in
    let B : List ℤ → Type 0 = λ ys. ChangesBuffer (set_buffer s b v) b (appended ys x) result new in
    let long : length v ≡ i = length-take-le i xs (omega arith) in
    let room : nat_lt (length v) 10 ≡ true = rw long (grind (arith, nat_tests)) in
    let R : Bool → Type 0 = λ w. ChangesBuffer (set_buffer s b v) b (if w then Ok (v ++ x ∷ []) else Err BufferFull) result new in
    let done = subst R room (subst B before (subst O old_is changes)) in
    let more : v ++ x ∷ [] ≡ take (i + 1) xs = ap (λ (y : ℤ). v ++ y ∷ []) is ∙ sym (take_more xs i d within) in (
      done.0,
      done.1
          ∙ ap (λ (r : List (ArrayVec ℤ)). let t : Store = record { shared = s.shared; buffers = record { items = r } } in t) (set-set s.buffers.items b (payload v) (payload (v ++ x ∷ [])))
          ∙ ap (λ (ys : List ℤ). set_buffer s b ys) more,
    )
