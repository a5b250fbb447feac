-- How the pieces of a stream compose.
use Rattle.std.proofs.Common.{◌≡◌, ℕ, Bool, true, false, List, [], ◌∷◌, ◌++◌, refl, ap, ◌∙◌}
use Rattle.std.specs.Prelude.{if◌then◌else◌}
use Rattle.std.specs.List.{flat_map}
use Rattle.std.proofs.lemmas.Grind.{flat_map-append}
use Rattle.slip_gateway.specs.Stream.{is_end_byte, closed_pieces, rest_behind, frame_of, frames_behind, frames, unfinished}

closed-append : (begun xs ys : List ℕ) → closed_pieces begun (xs ++ ys) ≡ closed_pieces begun xs ++ closed_pieces (rest_behind begun xs) ys
closed-append begun [] ys = refl
closed-append begun (x ∷ xs) ys = by (is_end_byte x) (closed-append [] xs ys) (closed-append (begun ++ x ∷ []) xs ys) where
  by : (t : Bool) → closed_pieces [] (xs ++ ys) ≡ closed_pieces [] xs ++ closed_pieces (rest_behind [] xs) ys
      → closed_pieces (begun ++ x ∷ []) (xs ++ ys) ≡ closed_pieces (begun ++ x ∷ []) xs ++ closed_pieces (rest_behind (begun ++ x ∷ []) xs) ys
      → (if t then begun ∷ closed_pieces [] (xs ++ ys) else closed_pieces (begun ++ x ∷ []) (xs ++ ys))
      ≡ (if t then begun ∷ closed_pieces [] xs else closed_pieces (begun ++ x ∷ []) xs) ++ closed_pieces (if t then rest_behind [] xs else rest_behind (begun ++ x ∷ []) xs) ys
  by true anew on = ap (λ (ps : List (List ℕ)). begun ∷ ps) anew
  by false anew on = on

pub rest_behind-append : (begun xs ys : List ℕ) → rest_behind begun (xs ++ ys) ≡ rest_behind (rest_behind begun xs) ys
rest_behind-append begun [] ys = refl
rest_behind-append begun (x ∷ xs) ys = by (is_end_byte x) (rest_behind-append [] xs ys) (rest_behind-append (begun ++ x ∷ []) xs ys) where
  by : (t : Bool) → rest_behind [] (xs ++ ys) ≡ rest_behind (rest_behind [] xs) ys
      → rest_behind (begun ++ x ∷ []) (xs ++ ys) ≡ rest_behind (rest_behind (begun ++ x ∷ []) xs) ys
      → (if t then rest_behind [] (xs ++ ys) else rest_behind (begun ++ x ∷ []) (xs ++ ys))
      ≡ rest_behind (if t then rest_behind [] xs else rest_behind (begun ++ x ∷ []) xs) ys
  by true anew on = anew
  by false anew on = on

pub frames_behind-append : (begun xs ys : List ℕ) → frames_behind begun (xs ++ ys) ≡ frames_behind begun xs ++ frames_behind (rest_behind begun xs) ys
frames_behind-append begun xs ys =
    ap (λ (ps : List (List ℕ)). flat_map frame_of ps) (closed-append begun xs ys)
    ∙ flat_map-append frame_of (closed_pieces begun xs) (closed_pieces (rest_behind begun xs) ys)

pub frames-append : (first second : List ℕ) → frames (first ++ second) ≡ frames first ++ frames_behind (unfinished first) second
frames-append first second = frames_behind-append [] first second

pub rest-append : (first second : List ℕ) → unfinished (first ++ second) ≡ rest_behind (unfinished first) second
rest-append first second = rest_behind-append [] first second
