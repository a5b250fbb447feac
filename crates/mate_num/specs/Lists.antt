-- What holds of a list, item by item, what is in it, and what a word stands for in it.
use Rattle.std.specs.Prelude.{◌≡◌, ℕ, List, [], ◌∷◌, ◌⊎◌, if◌then◌else◌}
use Rattle.std.specs.List.{AllByRecursion}
use Rattle.std.specs.Str.{bytes_eq}

-- of each item
abbrev pub Each : {A : Type 0} → (A → Type 0) → List A → Type 0
Each = AllByRecursion

-- of each item and of those behind it, as in a list that grows at its front
abbrev pub EachOver : {A : Type 0} → (A → List A → Type 0) → List A → Type 0
EachOver Is [] = Unit {0}
EachOver Is (x ∷ xs) = EachOver Is xs × Is x xs

-- of each item and of what was kept of the items before it; this is kept before the first one
abbrev pub Along : {A S : Type 0} → (S → A → Type 0) → (S → A → S) → S → List A → Type 0
Along Is keep kept [] = Unit {0}
Along Is keep kept (x ∷ xs) = Is kept x × Along Is keep (keep kept x) xs

-- the list has this item
abbrev pub Among : {X : Type 0} → X → List X → Type 0
Among x [] = ⊥
Among x (y ∷ ys) = (y ≡ x) ⊎ Among x ys

-- what a word stands for, among words with what they stand for; else this
abbrev pub lookup_or : {A : Type 0} → A → List ℕ → List (List ℕ × A) → A
lookup_or other word [] = other
lookup_or other word (x ∷ xs) = if bytes_eq word x.0 then x.1 else lookup_or other word xs
