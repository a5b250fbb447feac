-- What holds of each two items of a list, from its first item on; and lists that are made item by item.
use Rattle.std.proofs.Common.{◌≡◌, ℕ, suc, ◌+◌, ◌<◌, ◌≤◌, List, [], ◌∷◌, ◌++◌, length, get_or, take, map, ap, sym, ◌∙◌, arith}
use Rattle.std.proofs.lemmas.List.{take_all, take_more, map_more}
use Rattle.std.specs.List.{All, AllPairs}
use Rattle.arrayvec.specs.ArrayVec.{ArrayVec}

pub AllPairs-head : {X : Type 0} (R : X → X → Type 0) (x : X) (xs : List X) → AllPairs R (x ∷ xs) → All (R x) xs
AllPairs-head R x xs pairs = λ i d h. pairs 0 (suc i) d (omega arith) (omega arith)

pub AllPairs-tail : {X : Type 0} (R : X → X → Type 0) (x : X) (xs : List X) → AllPairs R (x ∷ xs) → AllPairs R xs
AllPairs-tail R x xs pairs = λ i j d h k. pairs (suc i) (suc j) d (omega arith) (omega arith)

-- one more item is copied
pub take_pushed : {X : Type 0} (xs : List X) (i : ℕ) (x y : X) (ys more : List X) → i < length xs → x ≡ get_or xs i x → y ≡ x → ys ≡ take i xs → more ≡ ys ++ y ∷ []
    → more ≡ take (i + 1) xs
take_pushed xs i x y ys more within at same so_far pushed =
    pushed ∙ ap (λ l. l ++ y ∷ []) so_far ∙ ap (λ z. take i xs ++ z ∷ []) (same ∙ at) ∙ sym (take_more xs i x within)

-- all items are copied
array : {X : Type 0} → List X → ArrayVec X
array xs = record { items = xs }

pub taken_all : {X : Type 0} (xs : List X) (i : ℕ) (copy whole : ArrayVec X) → length xs ≤ i → xs ≡ whole.items → copy.items ≡ take i xs → copy ≡ whole
unfolding array
taken_all xs i copy whole past same so_far = ap array (so_far ∙ take_all i xs past ∙ same)

-- what f gives for one more item
pub map_pushed : {X Y : Type 0} (f : X → Y) (xs : List X) (i : ℕ) (x : X) (y : Y) (ys more : List Y) → i < length xs → x ≡ get_or xs i x → y ≡ f x → ys ≡ map f (take i xs) → more ≡ ys ++ y ∷ []
    → more ≡ map f (take (i + 1) xs)
map_pushed f xs i x y ys more within at is so_far pushed =
    pushed ∙ ap (λ l. l ++ y ∷ []) so_far ∙ ap (λ z. map f (take i xs) ++ z ∷ []) (is ∙ ap f at) ∙ sym (map_more f xs i x within)
