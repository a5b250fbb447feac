-- What a look-up in a list gives, seen through a function of its items; and what is left of it from an item on.
use Rattle.std.proofs.Common.{◌≡◌, ℕ, ◌<◌, ◌≤◌, List, length, map, Option, Some, None, option_map, slice_get, MatchOption, Bor, refl, ap, sym, ◌∙◌}
use Rattle.std.proofs.Common.{◌∷◌, ◌+◌, suc, get_or, drop, add-one}
use Rattle.std.proofs.Math.Seq.{drop-cons}
use Rattle.std.specs.Option.{option_copied}
use Rattle.std.specs.List.{HoldsAt}
use Rattle.std.proofs.lemmas.Option.{slice_get-map, slice_get_past, slice_get-get_or}

option_map-copied : {A B : Type 0} (f : A → B) (r : Option (Bor A)) → option_map (λ x. f x.now) r ≡ option_map f (option_copied r)
option_map-copied f None = refl
option_map-copied f (Some x) = refl

copied_found : {A : Type 0} (r : Option (Bor A)) (xs : List A) (i : ℕ) → MatchOption r (length xs ≤ i) (λ x. (i < length xs) × HoldsAt (λ y. x.now ≡ y) xs i) → option_copied r ≡ slice_get xs i
copied_found None xs i past = sym (slice_get_past xs i past)
copied_found (Some x) xs i there = sym (slice_get-get_or xs i x.now there.0 ∙ ap (λ y. Some y) (sym (there.1 x.now)))

pub looked_up : {A B : Type 0} (f : A → B) (r : Option (Bor A)) (xs : List A) (ys : List B) (i : ℕ) → MatchOption r (length xs ≤ i) (λ x. (i < length xs) × HoldsAt (λ y. x.now ≡ y) xs i) → ys ≡ map f xs → option_map (λ x. f x.now) r ≡ slice_get ys i
looked_up f r xs ys i found seen =
    option_map-copied f r ∙ ap (option_map f) (copied_found r xs i found) ∙ sym (slice_get-map f xs i) ∙ ap (λ zs. slice_get zs i) (sym seen)

-- what is left from an item on: the item, and what is left behind it
pub drop_item : {A : Type 0} (xs : List A) (i : ℕ) (x : A) → i < length xs → x ≡ get_or xs i x → drop i xs ≡ x ∷ drop (i + 1) xs
drop_item xs i x h e = rw add-one (drop-cons xs i x h ∙ ap (λ y. y ∷ drop (suc i) xs) (sym e))
