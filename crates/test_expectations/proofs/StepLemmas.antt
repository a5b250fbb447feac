-- What is known of the items so far, with one item more.
use Rattle.std.proofs.Common.{◌≡◌, ℕ, ◌+◌, ◌<◌, List, ◌++◌, ◌∷◌, [], length, take, get_or, refl, ap, sym, ◌∙◌, append_assoc}
use Rattle.std.specs.Prelude.{fold, filter_map, Option, None, Some}
use Rattle.std.specs.List.{cons_option}
use Rattle.std.specs.Option.{option_to_list}
use Rattle.std.proofs.lemmas.List.{take_more}
use Rattle.std.proofs.lemmas.List.Sums.{fold-append}
use Rattle.std.proofs.lemmas.List.Elements.{filter_map-append}

-- the items so far, and the next one
pub front-next : {X : Type 0} (xs : List X) (i : ℕ) (x : X) → i < length xs → x ≡ get_or xs i x → take (i + 1) xs ≡ take i xs ++ x ∷ []
front-next xs i x within is = take_more xs i x within ∙ ap (λ y. take i xs ++ y ∷ []) (sym is)

pub option_item : {Y : Type 0} (o : Option Y) → cons_option o [] ≡ option_to_list o
option_item None = refl
option_item (Some y) = refl

pub collected-next : {X Y : Type 0} (h : X → Option Y) (start : List Y) (xs : List X) (i : ℕ) (x : X) (o : Option Y) (sofar after : List Y)
    → i < length xs → x ≡ get_or xs i x → o ≡ h x → sofar ≡ start ++ filter_map h (take i xs) → after ≡ sofar ++ option_to_list o
    → after ≡ start ++ filter_map h (take (i + 1) xs)
collected-next h start xs i x o sofar after within is of had added =
    added ∙ ap (λ (ys : List _). ys ++ option_to_list o) had ∙ append_assoc start (filter_map h (take i xs)) (option_to_list o)
    ∙ ap (λ (ys : List _). start ++ (filter_map h (take i xs) ++ ys)) (ap option_to_list of ∙ sym (option_item (h x)))
    ∙ ap (λ (ys : List _). start ++ ys) (sym (ap (filter_map h) (front-next xs i x within is) ∙ filter_map-append h (take i xs) (x ∷ [])))

pub folded-next : {X Y B : Type 0} (f : B → Y → B) (a : B) (h : X → Option Y) (xs : List X) (i : ℕ) (x : X) (o : Option Y) (sofar after : B)
    → i < length xs → x ≡ get_or xs i x → o ≡ h x → sofar ≡ fold f a (filter_map h (take i xs)) → after ≡ fold f sofar (option_to_list o)
    → after ≡ fold f a (filter_map h (take (i + 1) xs))
folded-next f a h xs i x o sofar after within is of had step =
    step ∙ ap (λ b. fold f b (option_to_list o)) had
    ∙ ap (fold f (fold f a (filter_map h (take i xs)))) (ap option_to_list of ∙ sym (option_item (h x)))
    ∙ sym (ap (fold f a) (ap (filter_map h) (front-next xs i x within is) ∙ filter_map-append h (take i xs) (x ∷ [])) ∙ fold-append f a (filter_map h (take i xs)) (filter_map h (x ∷ [])))

pub fold-next : {X B : Type 0} (f : B → X → B) (a : B) (xs : List X) (i : ℕ) (x : X) (sofar after : B)
    → i < length xs → x ≡ get_or xs i x → sofar ≡ fold f a (take i xs) → after ≡ f sofar x → after ≡ fold f a (take (i + 1) xs)
fold-next f a xs i x sofar after within is had step =
    step ∙ ap (λ b. f b x) had ∙ sym (ap (fold f a) (front-next xs i x within is) ∙ fold-append f a (take i xs) (x ∷ []))
