-- Where the first and the last END of a stream stand, and bytes without escapes.
use Rattle.std.proofs.Common.{◌≡◌, ◌∙◌, ap, sym, refl, ℕ, zero, suc, ◌+◌, ◌<◌, Bool, true, false, List, [], ◌∷◌, ◌++◌, Option, Some, None, length, take, drop, slice_index, arith, append_assoc, append-nil}
use Rattle.std.specs.Prelude.{◌==◌, ◌||◌, if◌then◌else◌, is_some}
use Rattle.std.specs.List.{flat_map, list_any}
use Rattle.std.proofs.lemmas.Bool.{false_from_ne_true}
use Rattle.std.proofs.lemmas.List.{length-drop}
use Rattle.std.proofs.lemmas.List.Concat.{flat_map-cons}
use Rattle.memchr.specs.Find.{is_byte, IsFirstByte, IsLastByte}
use Rattle.slip_gateway.specs.Pieces.{IsFirstPiece}
use Rattle.slip_gateway.specs.Stream.{is_end_byte, closed_pieces, rest_behind, with_byte, unescaped, frame_of, frames, unfinished}
use Rattle.slip_gateway.specs.declared.slip.TheConstants.{END, ESC}

-- the byte stands nowhere before this place
abbrev Absent : ℕ → List ℕ → ℕ → Type 0
Absent byte bs n = (k : ℕ) → k < n → (slice_index bs k == byte) ≡ false

-- ---- the first END

closed-none : (begun bs : List ℕ) → Absent END bs (length bs) → closed_pieces begun bs ≡ []
closed-none begun [] none = refl
closed-none begun (b ∷ bs) none =
    ap (λ (t : Bool). if t then begun ∷ closed_pieces [] bs else closed_pieces (begun ++ b ∷ []) bs) (none 0 (omega arith))
    ∙ closed-none (begun ++ b ∷ []) bs (λ k lt. none (suc k) (omega (arith, lt)))

rest-none : (begun bs : List ℕ) → Absent END bs (length bs) → rest_behind begun bs ≡ begun ++ bs
rest-none begun [] none = sym (append-nil begun)
rest-none begun (b ∷ bs) none =
    ap (λ (t : Bool). if t then rest_behind [] bs else rest_behind (begun ++ b ∷ []) bs) (none 0 (omega arith))
    ∙ rest-none (begun ++ b ∷ []) bs (λ k lt. none (suc k) (omega (arith, lt))) ∙ append_assoc begun (b ∷ []) bs

closed-cut : (begun bs : List ℕ) (n : ℕ) → n < length bs → Absent END bs n → (slice_index bs n == END) ≡ true
    → closed_pieces begun bs ≡ (begun ++ take n bs) ∷ closed_pieces [] (drop (suc n) bs)
closed-cut begun [] n lt before here = absurd (omega (arith, lt))
closed-cut begun (b ∷ bs) zero lt before here =
    ap (λ (t : Bool). if t then begun ∷ closed_pieces [] bs else closed_pieces (begun ++ b ∷ []) bs) here
    ∙ ap (λ (p : List ℕ). p ∷ closed_pieces [] bs) (sym (append-nil begun))
closed-cut begun (b ∷ bs) (suc n) lt before here =
    ap (λ (t : Bool). if t then begun ∷ closed_pieces [] bs else closed_pieces (begun ++ b ∷ []) bs) (before 0 (omega arith))
    ∙ closed-cut (begun ++ b ∷ []) bs n (omega (arith, lt)) (λ k l. before (suc k) (omega (arith, l))) here
    ∙ ap (λ (p : List ℕ). p ∷ closed_pieces [] (drop (suc n) bs)) (append_assoc begun (b ∷ []) (take n bs))

-- ---- the last END

rest-last : (begun bs : List ℕ) (n : ℕ) → n < length bs → ((k : ℕ) → n < k → k < length bs → (slice_index bs k == END) ≡ false)
    → (slice_index bs n == END) ≡ true → rest_behind begun bs ≡ drop (suc n) bs
rest-last begun [] n lt behind here = absurd (omega (arith, lt))
rest-last begun (b ∷ bs) zero lt behind here =
    ap (λ (t : Bool). if t then rest_behind [] bs else rest_behind (begun ++ b ∷ []) bs) here
    ∙ rest-none [] bs (λ k l. behind (suc k) (omega arith) (omega (arith, l)))
rest-last begun (b ∷ bs) (suc n) lt behind here =
    by (is_end_byte b) (λ front. rest-last front bs n (omega (arith, lt)) (λ k l h. behind (suc k) (omega (arith, l)) (omega (arith, h))) here) where
      by : (t : Bool) → ((front : List ℕ) → rest_behind front bs ≡ drop (suc n) bs) → (if t then rest_behind [] bs else rest_behind (begun ++ b ∷ []) bs) ≡ drop (suc n) bs
      by true more = more []
      by false more = more (begun ++ b ∷ [])

-- ---- what the searches find

-- without an END there is no frame, and all bytes are left
pub no_frames : (bs : List ℕ) → IsFirstByte (is_byte END) bs None → frames bs ≡ []
no_frames bs none = ap (λ (ps : List (List ℕ)). flat_map frame_of ps) (closed-none [] bs (λ k lt. false_from_ne_true _ (none k (omega arith) lt)))

pub first_cut : (bs : List ℕ) (n : ℕ) → IsFirstByte (is_byte END) bs (Some n) → IsFirstPiece bs (take n bs) (drop (n + 1) bs)
first_cut bs n found =
    let lt : n < length bs = found.0.high in
    let on : suc n ≡ n + 1 = omega arith in
    let cut = closed-cut [] bs n lt (λ k l. false_from_ne_true _ (found.0.before k (omega arith) l)) found.1 in
    record {
      gives = ap (λ (ps : List (List ℕ)). flat_map frame_of ps) cut ∙ flat_map-cons frame_of (take n bs) (closed_pieces [] (drop (suc n) bs))
          ∙ ap (λ (k : ℕ). frame_of (take n bs) ++ frames (drop k bs)) on;
      shorter = let l = length-drop (n + 1) bs in omega (arith, lt, l);
    }

pub all_left : (bs : List ℕ) → IsLastByte (is_byte END) bs None → unfinished bs ≡ bs
all_left bs none = rest-none [] bs (λ k lt. false_from_ne_true _ (none k (omega arith) lt))

pub left_behind : (bs : List ℕ) (n : ℕ) → IsLastByte (is_byte END) bs (Some n) → unfinished bs ≡ drop (n + 1) bs
left_behind bs n found =
    let on : suc n ≡ n + 1 = omega arith in
    rest-last [] bs n found.0.high (λ k l h. false_from_ne_true _ (found.0.after k (omega (arith, l)) h)) found.1 ∙ ap (λ (k : ℕ). drop k bs) on

-- ---- bytes without an ESC stand for themselves

plain : (bs : List ℕ) → Absent ESC bs (length bs) → unescaped false bs ≡ Some bs
plain [] none = refl
plain (b ∷ bs) none =
    ap (λ (t : Bool). if t then unescaped true bs else with_byte b (unescaped false bs)) (none 0 (omega arith))
    ∙ ap (λ (o : Option (List ℕ)). with_byte b o) (plain bs (λ k lt. none (suc k) (omega (arith, lt))))

pub no_escape : (bs : List ℕ) → IsFirstByte (is_byte ESC) bs None → unescaped false bs ≡ Some bs
no_escape bs none = plain bs (λ k lt. false_from_ne_true _ (none k (omega arith) lt))

pub none_found : (bs : List ℕ) (r : Option ℕ) (t : Bool) → IsFirstByte (is_byte ESC) bs r → t ≡ is_some r → t ≡ false → unescaped false bs ≡ Some bs
none_found bs None t found is shut = no_escape bs found
none_found bs (Some n) t found is shut = absurd (cc)

-- ---- whether an ESC is there

any_none : (bs : List ℕ) → Absent ESC bs (length bs) → list_any (is_byte ESC) bs ≡ false
any_none [] none = refl
any_none (b ∷ bs) none =
    ap (λ (t : Bool). t || list_any (is_byte ESC) bs) (none 0 (omega arith)) ∙ any_none bs (λ k lt. none (suc k) (omega (arith, lt)))

or_yes : (t : Bool) → (t || true) ≡ true
or_yes true = refl
or_yes false = refl

any_at : (bs : List ℕ) (n : ℕ) → n < length bs → (slice_index bs n == ESC) ≡ true → list_any (is_byte ESC) bs ≡ true
any_at [] n lt here = absurd (omega (arith, lt))
any_at (b ∷ bs) zero lt here = ap (λ (t : Bool). t || list_any (is_byte ESC) bs) here
any_at (b ∷ bs) (suc n) lt here = ap (λ (t : Bool). is_byte ESC b || t) (any_at bs n (omega (arith, lt)) here) ∙ or_yes (is_byte ESC b)

pub found_any : (bs : List ℕ) (r : Option ℕ) (t : Bool) → IsFirstByte (is_byte ESC) bs r → t ≡ is_some r → t ≡ list_any (is_byte ESC) bs
found_any bs None t found is = is ∙ sym (any_none bs (λ k lt. false_from_ne_true _ (found k (omega arith) lt)))
found_any bs (Some n) t found is = is ∙ sym (any_at bs n found.0.high found.1)
