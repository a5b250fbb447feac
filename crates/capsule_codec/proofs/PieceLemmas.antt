-- The pieces of an image make it, and pieces of right lengths are those of the image that they make.
use Rattle.std.proofs.Common.{◌≡◌, ℕ, zero, suc, ◌+◌, ◌*◌, ◌<◌, ◌≤◌, List, [], ◌∷◌, ◌++◌, length, map, take, drop, refl, sym, ap, subst, ◌∙◌, arith, inl, inr}
use Rattle.std.specs.Fork.{slice_chunk}
use Rattle.std.specs.Int.{div_ceil}
use Rattle.std.specs.List.{concat, range_with_len}
use Rattle.std.specs.Simd.{first_chunks}
use Rattle.std.proofs.lemmas.Bool.{cases_order, le-leb, lt-leb}
use Rattle.std.proofs.lemmas.Bool.Decides.{nat_tests}
use Rattle.std.proofs.lemmas.Grind.{div_ceil_times}
use Rattle.std.proofs.lemmas.Nat.{row_fits}
use Rattle.std.proofs.lemmas.List.{append-nil, length-take-le, length-drop, length-append, take_all, take_at, drop_at, drop-drop, take-append-drop, nil_from_length}
use Rattle.capsule_codec.specs.Fragments.{piece_len, count_of, pieces_of, AreCut}

-- ---- cutting from the front

chunk_after : (xs : List ℕ) (size k : ℕ) → slice_chunk xs size (k + 1) ≡ slice_chunk (drop size xs) size k
chunk_after xs size k =
    let later : drop (k * size) (drop size xs) ≡ drop (size + k * size) xs = drop-drop (k * size) size xs in
    let place : (k + 1) * size ≡ size + k * size = omega arith in
    ap (λ (n : ℕ). take size (drop n xs)) place ∙ ap (take size) (sym later)

chunks_after : (xs : List ℕ) (size a n : ℕ) → map (slice_chunk xs size) (range_with_len (a + 1) n) ≡ map (slice_chunk (drop size xs) size) (range_with_len a n)
chunks_after xs size a zero = refl
chunks_after xs size a (suc n) = rw (chunk_after xs size a, chunks_after xs size (a + 1) n) refl

-- chunks by their numbers are chunks from the front
chunks_are : (size n : ℕ) (xs : List ℕ) → map (slice_chunk xs size) (range_with_len 0 n) ≡ first_chunks size n xs
chunks_are size zero xs = refl
chunks_are size (suc n) xs =
    let start : 0 * size ≡ 0 = omega arith in
    let first : slice_chunk xs size 0 ≡ take size xs = ap (λ (k : ℕ). take size (drop k xs)) start in
    let others : map (slice_chunk xs size) (range_with_len 1 n) ≡ first_chunks size n (drop size xs) = chunks_after xs size 0 n ∙ chunks_are size n (drop size xs) in
    rw (first, others) refl

concat-first_chunks : (size n : ℕ) (xs : List ℕ) → length xs ≤ n * size → concat (first_chunks size n xs) ≡ xs
concat-first_chunks size zero xs short = sym (nil_from_length xs (omega arith))
concat-first_chunks size (suc n) xs short =
    let more : suc n * size ≡ size + n * size = omega arith in
    let rest = concat-first_chunks size n (drop size xs) (omega (arith, length-drop size xs)) in
    ap (λ (ys : List ℕ). take size xs ++ ys) rest ∙ take-append-drop size xs

-- all but the last one have the size
AreCut-first_chunks : (size n : ℕ) (xs : List ℕ) → length xs ≤ n * size → n * size < length xs + size → AreCut size (first_chunks size n xs)
AreCut-first_chunks size zero xs high low = tt
AreCut-first_chunks size (suc zero) xs high low =
    let one : suc zero * size ≡ size = omega arith in
    let whole : take size xs ≡ xs = take_all size xs (omega arith) in
    rw whole (omega arith, omega arith)
AreCut-first_chunks size (suc (suc n)) xs high low =
    let more : suc (suc n) * size ≡ size + suc n * size = omega arith in
    let next : suc n * size ≡ size + n * size = omega arith in
    let left = length-drop size xs in
    (length-take-le size xs (omega arith), AreCut-first_chunks size (suc n) (drop size xs) (omega arith) (omega arith))

-- chunks of the size, put together, are cut to the same chunks
first_chunks-concat : (size : ℕ) (pieces : List (List ℕ)) → AreCut size pieces → first_chunks size (length pieces) (concat pieces) ≡ pieces
first_chunks-concat size [] cut = refl
first_chunks-concat size (last ∷ []) cut =
    let whole : take size (last ++ []) ≡ last = rw append-nil (take_all size last cut.1) in
    rw whole refl
first_chunks-concat size (piece ∷ next ∷ pieces) cut =
    let rest = concat (next ∷ pieces) in
    let first : take size (piece ++ rest) ≡ piece = take_at piece rest size cut.0 in
    let after : drop size (piece ++ rest) ≡ rest = drop_at piece rest size cut.0 in
    rw (first, after, first_chunks-concat size (next ∷ pieces) cut.1) refl

-- how many pieces of this size there are
pub record Counts (len size count : ℕ) : Type 0 where
  pub enough : len ≤ count * size
  pub needed : count * size < len + size

counted : (len size : ℕ) → 0 < size → Counts len size (div_ceil len size)
counted len size some = let h = div_ceil_times len size some in record { enough = h.0; needed = h.1 }

length-concat : (size : ℕ) (pieces : List (List ℕ)) → 0 < size → AreCut size pieces → Counts (length (concat pieces)) size (length pieces)
length-concat size [] some cut = record { enough = omega arith; needed = omega arith }
length-concat size (last ∷ []) some cut =
    let one : suc zero * size ≡ size = omega arith in
    let whole : length (last ++ []) ≡ length last = rw append-nil refl in
    record { enough = rw (whole, one) cut.1; needed = rw (whole, one) (omega (arith, cut.0)) }
length-concat size (piece ∷ next ∷ pieces) some cut =
    let more : suc (suc (length pieces)) * size ≡ size + suc (length pieces) * size = omega arith in
    let both = length-append piece (concat (next ∷ pieces)) in
    let h : Counts (length (concat (next ∷ pieces))) size (suc (length pieces)) = length-concat size (next ∷ pieces) some cut.1 in
    let len = cut.0 in
    record { enough = omega (arith, h.enough); needed = omega (arith, h.needed) }

fewer : (len size c k : ℕ) → Counts len size c → Counts len size k → c < k → ⊥
fewer len size c k a b lt = let h = row_fits c size k size lt (omega arith) in omega (arith, a.enough, b.needed)

same_count : (len size c k : ℕ) → Counts len size c → Counts len size k → c ≡ k
same_count len size c k a b =
    elim (cases_order c k) [
      | inl same ↦ same
      | inr other ↦ elim other [ inl lt ↦ absurd (fewer len size c k a b lt) | inr gt ↦ absurd (fewer len size k c b a gt) ]
    ]

-- ---- the pieces of an image

some_piece : (len : ℕ) → 0 < piece_len len
some_piece len = grind (arith, nat_tests)

pieces_are : (image : List ℕ) → pieces_of image ≡ first_chunks (piece_len (length image)) (count_of image) image
pieces_are image = chunks_are (piece_len (length image)) (count_of image) image

pub pieces_whole : (image : List ℕ) → concat (pieces_of image) ≡ image
pieces_whole image =
    ap concat (pieces_are image)
    ∙ concat-first_chunks (piece_len (length image)) (count_of image) image (counted (length image) (piece_len (length image)) (some_piece (length image))).enough

pub pieces_cut : (image : List ℕ) → AreCut (piece_len (length image)) (pieces_of image)
pieces_cut image =
    let size = piece_len (length image) in
    let h = counted (length image) size (some_piece (length image)) in
    subst (AreCut size) (sym (pieces_are image)) (AreCut-first_chunks size (count_of image) image h.enough h.needed)

pub pieces_one : (a b : List ℕ) → pieces_of a ≡ pieces_of b → a ≡ b
pieces_one a b same = sym (pieces_whole a) ∙ ap concat same ∙ pieces_whole b

pieces_again : (size : ℕ) (pieces : List (List ℕ)) → 0 < size → AreCut size pieces → piece_len (length (concat pieces)) ≡ size → pieces_of (concat pieces) ≡ pieces
pieces_again size pieces some cut sized =
    let image = concat pieces in
    let count : div_ceil (length image) size ≡ length pieces = same_count (length image) size _ _ (counted (length image) size some) (length-concat size pieces some cut) in
    pieces_are image ∙ rw (sized, count) (first_chunks-concat size pieces cut)

pub pieces_short : (pieces : List (List ℕ)) → AreCut 24 pieces → length pieces ≤ 22 → pieces_of (concat pieces) ≡ pieces
pieces_short pieces cut few =
    let h = length-concat 24 pieces (omega arith) cut in
    let low : length (concat pieces) ≤ 528 = omega (arith, h.enough) in
    let size : piece_len (length (concat pieces)) ≡ 24 = rw le-leb refl in
    pieces_again 24 pieces (omega arith) cut size

pub pieces_long : (pieces : List (List ℕ)) → AreCut 48 pieces → 528 < length (concat pieces) → pieces_of (concat pieces) ≡ pieces
pieces_long pieces cut many =
    let size : piece_len (length (concat pieces)) ≡ 48 = rw lt-leb refl in
    pieces_again 48 pieces (omega arith) cut size
