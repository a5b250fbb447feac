-- Lists that grow at their end.
use Rattle.std.proofs.Common.{◌≡◌, ℕ, zero, suc, ◌+◌, ◌<◌, ◌≤◌, List, [], ◌∷◌, ◌++◌, map, replicate, refl, sym, ◌∙◌, ap, add-one, arith}
use Rattle.std.specs.List.{All, AllPairs, range_with_len}
use Rattle.std.proofs.lemmas.List.{map_push, append_assoc}
use Rattle.std.proofs.lemmas.List.Elements.{All-nil, All-cons, All-tail}
use Rattle.std.proofs.lemmas.List.Kept.{AllPairs-cons}
use Rattle.vm_shape.proofs.ListLemmas.{AllPairs-head, AllPairs-tail}

range_push : (a n : ℕ) → range_with_len a (suc n) ≡ range_with_len a n ++ (a + n) ∷ []
range_push a zero = ap (λ x. x ∷ []) (omega arith)
range_push a (suc n) = ap (λ r. a ∷ r) (range_push (a + 1) n ∙ ap (λ x. range_with_len (a + 1) n ++ x ∷ []) (omega arith))

-- one item more behind those that were made so far
map_range_push : {X : Type 0} (f : ℕ → X) (before : List X) (a n : ℕ) → before ++ map f (range_with_len a (n + 1)) ≡ (before ++ map f (range_with_len a n)) ++ f (a + n) ∷ []
map_range_push f before a n =
    ap (λ k. before ++ map f (range_with_len a k)) (add-one n) ∙ ap (λ r. before ++ map f r) (range_push a n) ∙ ap (λ r. before ++ r) (map_push f (range_with_len a n) (a + n))
    ∙ sym (append_assoc before (map f (range_with_len a n)) (f (a + n) ∷ []))

-- a turn of a loop that makes items from numbers
pub map_range_step : {X : Type 0} (f : ℕ → X) (before items new : List X) (a n k j : ℕ) (x : X) → items ≡ before ++ map f (range_with_len a n) → new ≡ items ++ x ∷ [] → x ≡ f j → a + n ≡ j → k ≡ n + 1
    → new ≡ before ++ map f (range_with_len a k)
map_range_step f before items new a n k j x so_far pushed is at next =
    pushed ∙ ap (λ is. is ++ x ∷ []) so_far ∙ ap (λ y. (before ++ map f (range_with_len a n)) ++ y ∷ []) (is ∙ ap f (sym at)) ∙ sym (map_range_push f before a n)
    ∙ ap (λ m. before ++ map f (range_with_len a m)) (sym next)

replicate_end : {X : Type 0} (n : ℕ) (x : X) → x ∷ replicate n x ≡ replicate n x ++ x ∷ []
replicate_end zero x = refl
replicate_end (suc n) x = ap (λ r. x ∷ r) (replicate_end n x)

pub replicate_push : {X : Type 0} (before : List X) (n : ℕ) (x : X) → before ++ replicate (n + 1) x ≡ (before ++ replicate n x) ++ x ∷ []
replicate_push before n x = ap (λ k. before ++ replicate k x) (add-one n) ∙ ap (λ r. before ++ r) (replicate_end n x) ∙ sym (append_assoc before (replicate n x) (x ∷ []))

-- ---- what holds of each item, and of each two

pub no_pairs : {X : Type 0} (R : X → X → Type 0) → AllPairs R []
no_pairs R = λ i j d h k. absurd (omega arith)

pub all_made : {X : Type 0} (P : X → Type 0) (f : ℕ → X) (a n : ℕ) → ((i : ℕ) → a ≤ i → i < a + n → P (f i)) → All P (map f (range_with_len a n))
all_made P f a zero each = All-nil P
all_made P f a (suc n) each =
    All-cons P (f a) (map f (range_with_len (a + 1) n)) (each a (omega arith) (omega arith)) (all_made P f (a + 1) n (λ i low high. each i (omega arith) (omega arith)))

pub pairs_made : {X : Type 0} (R : X → X → Type 0) (f : ℕ → X) (a n : ℕ) → ((i j : ℕ) → a ≤ i → i < j → j < a + n → R (f i) (f j)) → AllPairs R (map f (range_with_len a n))
pairs_made R f a zero each = no_pairs R
pairs_made R f a (suc n) each =
    AllPairs-cons R (f a) (map f (range_with_len (a + 1) n)) (all_made (R (f a)) f (a + 1) n (λ i low high. each a i (omega arith) (omega arith) (omega arith)))
    (pairs_made R f (a + 1) n (λ i j low lt high. each i j (omega arith) lt (omega arith)))

all_front : {X : Type 0} (P : X → Type 0) (x : X) (xs : List X) → All P (x ∷ xs) → P x
all_front P x xs all = all 0 x (omega arith)

append_all : {X : Type 0} (P : X → Type 0) (xs ys : List X) → All P xs → All P ys → All P (xs ++ ys)
append_all P [] ys front back = back
append_all P (x ∷ xs) ys front back = All-cons P x (xs ++ ys) (all_front P x xs front) (append_all P xs ys (All-tail P x xs front) back)

pub pairs_append : {X : Type 0} (R : X → X → Type 0) (xs ys : List X) → AllPairs R xs → AllPairs R ys → All (λ x. All (R x) ys) xs → AllPairs R (xs ++ ys)
pairs_append R [] ys front back across = back
pairs_append R (x ∷ xs) ys front back across =
    AllPairs-cons R x (xs ++ ys) (append_all (R x) xs ys (AllPairs-head R x xs front) (all_front (λ x. All (R x) ys) x xs across))
    (pairs_append R xs ys (AllPairs-tail R x xs front) back (All-tail (λ x. All (R x) ys) x xs across))
