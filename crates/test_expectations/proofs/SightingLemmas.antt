-- What numbered items gave so far, with one item more.
use Rattle.std.proofs.Common.{◌≡◌, ℕ, ◌+◌, ◌<◌, ◌≤◌, List, ◌++◌, ◌∷◌, length, drop, get_or, ap, sym, ◌∙◌, append_assoc, add-one}
use Rattle.std.proofs.lemmas.List.{drop_more, at_drop_all, append-nil}
use Rattle.test_expectations.specs.Sightings.{by_number}

pub by_number-next : {X Y : Type 0} (f : ℕ → X → List Y) (xs : List X) (i n : ℕ) (x : X) (sofar after total : List Y) → i < length xs
    → x ≡ get_or xs i x → sofar ++ by_number f n (drop i xs) ≡ total → after ≡ sofar ++ f n x
    → after ++ by_number f (n + 1) (drop (i + 1) xs) ≡ total
by_number-next f xs i n x sofar after total within is had step =
    let opened : by_number f n (drop i xs) ≡ f n x ++ by_number f (n + 1) (drop (i + 1) xs) =
    ap (by_number f n) (drop_more xs i x within ∙ ap (λ y. y ∷ drop (i + 1) xs) (sym is))
    ∙ ap (λ m. f n x ++ by_number f m (drop (i + 1) xs)) (sym (add-one n)) in
    ap (λ (ys : List _). ys ++ by_number f (n + 1) (drop (i + 1) xs)) step
    ∙ append_assoc sofar (f n x) (by_number f (n + 1) (drop (i + 1) xs))
    ∙ ap (λ (more : List _). sofar ++ more) (sym opened) ∙ had

pub by_number-all : {X Y : Type 0} (f : ℕ → X → List Y) (xs : List X) (i n : ℕ) (given total : List Y) → length xs ≤ i
    → given ++ by_number f n (drop i xs) ≡ total → given ≡ total
by_number-all f xs i n given total past had =
    sym (append-nil given) ∙ ap (λ (more : List _). given ++ more) (sym (at_drop_all (by_number f n) xs i past)) ∙ had
