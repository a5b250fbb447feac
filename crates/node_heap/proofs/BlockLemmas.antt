-- Lemmas on the block of values: what a buffer's row is, and what a write leaves.
use Rattle.std.proofs.Common.{◌≡◌, ℕ, zero, suc, ◌+◌, ◌*◌, ◌<◌, ◌≤◌, ℤ, List, [], ◌∷◌, take, drop, length, get_or, set, replicate, refl, ap, sym, subst, ◌∙◌, arith}
use Rattle.std.specs.List.{All}
use Rattle.std.proofs.lemmas.List.{drop-drop, drop-set-add, drop-set-lt, take-set-le}
use Rattle.arrayvec.specs.ArrayVec.{ArrayVec}
use Rattle.mate_num.specs.Store.{payload}
use Rattle.node_heap.specs.Blocks.{rows}

pub length-rows : (ns : List ℕ) (vs : List ℤ) → length (rows ns vs) ≡ length ns
length-rows [] vs = refl
length-rows (n ∷ ns) vs = ap suc (length-rows ns (drop 10 vs))

next_row : (b : ℕ) (vs : List ℤ) → drop (b * 10) (drop 10 vs) ≡ drop (suc b * 10) vs
next_row b vs = drop-drop (b * 10) 10 vs ∙ ap (λ (k : ℕ). drop k vs) (omega arith)

-- the row of one buffer
pub rows_at : (ns : List ℕ) (vs : List ℤ) (b : ℕ) (d : ArrayVec ℤ) → b < length ns → get_or (rows ns vs) b d ≡ payload (take (get_or ns b 0) (drop (b * 10) vs))
rows_at [] vs b d h = absurd (omega arith)
rows_at (n ∷ ns) vs zero d h = refl
rows_at (n ∷ ns) vs (suc b) d h =
    rows_at ns (drop 10 vs) b d (omega arith) ∙ ap (λ (xs : List ℤ). payload (take (get_or ns b 0) xs)) (next_row b vs)

-- a write at a place of one buffer
pub rows-set_value : (ns : List ℕ) (vs : List ℤ) (b i : ℕ) (x : ℤ) → All (λ n. n ≤ 10) ns → b < length ns → i < 10 → rows ns (set vs (b * 10 + i) x) ≡ set (rows ns vs) b (payload (take (get_or ns b 0) (set (drop (b * 10) vs) i x)))
rows-set_value [] vs b i x fit h small = absurd (omega arith)
rows-set_value (n ∷ ns) vs zero i x fit h small =
    let e : 0 * 10 + i ≡ i = omega arith in
    let P : ℕ → Type 0 = λ k. rows (n ∷ ns) (set vs k x) ≡ payload (take n (set vs i x)) ∷ rows ns (drop 10 vs) in
    subst P (sym e) (ap (λ (ys : List ℤ). payload (take n (set vs i x)) ∷ rows ns ys) (drop-set-lt 10 vs i x small))
rows-set_value (n ∷ ns) vs (suc b) i x fit h small =
    let k : ℕ = b * 10 + i in
    let e : suc b * 10 + i ≡ 10 + k = omega arith in
    let Right : List (ArrayVec ℤ) = set (rows (n ∷ ns) vs) (suc b) (payload (take (get_or ns b 0) (set (drop (suc b * 10) vs) i x))) in
    let P : ℕ → Type 0 = λ k. rows (n ∷ ns) (set vs k x) ≡ Right in
    let here : take n (set vs (10 + k) x) ≡ take n vs = take-set-le n vs (10 + k) x (omega (arith, fit 0 0 (omega arith))) in
    let there : rows ns (set (drop 10 vs) k x) ≡ set (rows ns (drop 10 vs)) b (payload (take (get_or ns b 0) (set (drop (b * 10) (drop 10 vs)) i x))) =
    rows-set_value ns (drop 10 vs) b i x (λ k d h. fit (suc k) d (omega arith)) (omega arith) small in
    subst P (sym e) (rw (here, drop-set-add 10 vs k x, there, next_row b vs) refl)

-- another length of one buffer
pub rows-set_length : (ns : List ℕ) (vs : List ℤ) (b m : ℕ) → b < length ns → rows (set ns b m) vs ≡ set (rows ns vs) b (payload (take m (drop (b * 10) vs)))
rows-set_length [] vs b m h = absurd (omega arith)
rows-set_length (n ∷ ns) vs zero m h = refl
rows-set_length (n ∷ ns) vs (suc b) m h =
    ap (λ (r : List (ArrayVec ℤ)). payload (take n vs) ∷ r) (rows-set_length ns (drop 10 vs) b m (omega arith))
    ∙ ap (λ (ys : List ℤ). payload (take n vs) ∷ set (rows ns (drop 10 vs)) b (payload (take m ys))) (next_row b vs)

-- empty buffers
pub rows-empty : (k : ℕ) (vs : List ℤ) → rows (replicate k 0) vs ≡ replicate k (payload [])
rows-empty zero vs = refl
rows-empty (suc k) vs = ap (λ (r : List (ArrayVec ℤ)). payload [] ∷ r) (rows-empty k (drop 10 vs))
