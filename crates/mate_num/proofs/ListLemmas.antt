-- Lemmas on what holds of a list, item by item, and on what is in it.
use Rattle.std.proofs.Common.{◌≡◌, ℕ, Bool, true, false, List, [], ◌∷◌, ◌++◌, map, drop, refl, sym, ◌∙◌, ap, subst, inl, inr, ◌⊎◌}
use Rattle.std.specs.Prelude.{cond, Some, All, slice_get}
use Rattle.std.specs.List.{filter, flat_map, fold}
use Rattle.std.proofs.lemmas.Option.{get_or_from_slice_get, slice_get_within}
use Rattle.mate_num.specs.Lists.{Each, EachOver, Along, Among}

-- ---- what holds of each item; that of `All` is `recursion_from_All` of std

pub each-append : {A : Type 0} (Is : A → Type 0) (xs ys : List A) → Each Is xs → Each Is ys → Each Is (xs ++ ys)
each-append Is [] ys front back = back
each-append Is (x ∷ xs) ys front back = (front.0, each-append Is xs ys front.1 back)

pub each-push : {A : Type 0} (Is : A → Type 0) (xs : List A) (x : A) → Each Is xs → Is x → Each Is (xs ++ x ∷ [])
each-push Is xs x front last = each-append Is xs (x ∷ []) front (last, tt)

pub each-parts : {A : Type 0} (Is : A → Type 0) (xs ys : List A) → Each Is (xs ++ ys) → Each Is xs × Each Is ys
each-parts Is [] ys all = (tt, all)
each-parts Is (x ∷ xs) ys all = let rest = each-parts Is xs ys all.1 in ((all.0, rest.0), rest.1)

pub each-weaker : {A : Type 0} (Is Are : A → Type 0) → ((x : A) → Is x → Are x) → (xs : List A) → Each Is xs → Each Are xs
each-weaker Is Are weaker [] all = tt
each-weaker Is Are weaker (x ∷ xs) all = (weaker x all.0, each-weaker Is Are weaker xs all.1)

pub each-among : {A : Type 0} (Is : A → Type 0) (xs : List A) (x : A) → Each Is xs → Among x xs → Is x
each-among Is [] x all h = absurd h
each-among Is (y ∷ xs) x all (inl e) = subst Is e all.0
each-among Is (y ∷ xs) x all (inr h) = each-among Is xs x all.1 h

-- ---- what holds of each item over those behind it

pub each_over-behind : {A : Type 0} (Is : A → List A → Type 0) (xs ys : List A) → EachOver Is (xs ++ ys) → EachOver Is ys
each_over-behind Is [] ys all = all
each_over-behind Is (x ∷ xs) ys all = each_over-behind Is xs ys all.0

pub each_over-weaker : {A : Type 0} (Is Are : A → List A → Type 0) → ((x : A) (xs : List A) → Is x xs → Are x xs) → (xs : List A) → EachOver Is xs → EachOver Are xs
each_over-weaker Is Are weaker [] all = tt
each_over-weaker Is Are weaker (x ∷ xs) all = (each_over-weaker Is Are weaker xs all.0, weaker x xs all.1)

-- ---- what holds along a list

pub along-append : {A S : Type 0} (Is : S → A → Type 0) (keep : S → A → S) (kept : S) (xs ys : List A)
    → Along Is keep kept xs → Along Is keep (fold keep kept xs) ys → Along Is keep kept (xs ++ ys)
along-append Is keep kept [] ys front back = back
along-append Is keep kept (x ∷ xs) ys front back = (front.0, along-append Is keep (keep kept x) xs ys front.1 back)

pub along-push : {A S : Type 0} (Is : S → A → Type 0) (keep : S → A → S) (kept : S) (xs : List A) (x : A)
    → Along Is keep kept xs → Is (fold keep kept xs) x → Along Is keep kept (xs ++ x ∷ [])
along-push Is keep kept xs x front last = along-append Is keep kept xs (x ∷ []) front (last, tt)

pub along-parts : {A S : Type 0} (Is : S → A → Type 0) (keep : S → A → S) (kept : S) (xs ys : List A)
    → Along Is keep kept (xs ++ ys) → Along Is keep kept xs × Along Is keep (fold keep kept xs) ys
along-parts Is keep kept [] ys all = (tt, all)
along-parts Is keep kept (x ∷ xs) ys all = let rest = along-parts Is keep (keep kept x) xs ys all.1 in ((all.0, rest.0), rest.1)

pub along-weaker : {A S : Type 0} (Is Are : S → A → Type 0) (keep : S → A → S) → ((s : S) (x : A) → Is s x → Are s x)
    → (kept : S) (xs : List A) → Along Is keep kept xs → Along Are keep kept xs
along-weaker Is Are keep weaker kept [] all = tt
along-weaker Is Are keep weaker kept (x ∷ xs) all = (weaker kept x all.0, along-weaker Is Are keep weaker (keep kept x) xs all.1)

-- what follows from what holds of each
pub along-each : {A S : Type 0} (P : A → Type 0) (Is : S → A → Type 0) (keep : S → A → S) → ((s : S) (x : A) → P x → Is s x)
    → (kept : S) (xs : List A) → Each P xs → Along Is keep kept xs
along-each P Is keep follows kept [] all = tt
along-each P Is keep follows kept (x ∷ xs) all = (follows kept x all.0, along-each P Is keep follows (keep kept x) xs all.1)

-- along what f makes of the items is along the items, by what f makes of them
pub along-map : {A B S : Type 0} (f : A → B) (Is : S → B → Type 0) (keep : S → B → S) (kept : S) (xs : List A)
    → Along (λ s x. Is s (f x)) (λ s x. keep s (f x)) kept xs → Along Is keep kept (map f xs)
along-map f Is keep kept [] all = tt
along-map f Is keep kept (x ∷ xs) all = (all.0, along-map f Is keep (keep kept (f x)) xs all.1)

pub along-unmap : {A B S : Type 0} (f : A → B) (Is : S → B → Type 0) (keep : S → B → S) (kept : S) (xs : List A)
    → Along Is keep kept (map f xs) → Along (λ s x. Is s (f x)) (λ s x. keep s (f x)) kept xs
along-unmap f Is keep kept [] all = tt
along-unmap f Is keep kept (x ∷ xs) all = (all.0, along-unmap f Is keep (keep kept (f x)) xs all.1)

-- ---- what is in a list

pub among-left : {X : Type 0} (x : X) (xs ys : List X) → Among x xs → Among x (xs ++ ys)
among-left x [] ys h = absurd h
among-left x (y ∷ xs) ys (inl e) = inl e
among-left x (y ∷ xs) ys (inr h) = inr (among-left x xs ys h)

pub among-right : {X : Type 0} (x : X) (xs ys : List X) → Among x ys → Among x (xs ++ ys)
among-right x [] ys h = h
among-right x (y ∷ xs) ys h = inr (among-right x xs ys h)

pub among-append : {X : Type 0} (x : X) (xs ys : List X) → Among x (xs ++ ys) → Among x xs ⊎ Among x ys
among-append x [] ys h = inr h
among-append x (y ∷ xs) ys (inl e) = inl (inl e)
among-append x (y ∷ xs) ys (inr h) = elim (among-append x xs ys h) [ inl a ↦ inl (inr a) | inr b ↦ inr b ]

pub among-filter : {X : Type 0} (p : X → Bool) (x : X) (xs : List X) → p x ≡ true → Among x xs → Among x (filter p xs)
among-filter p x [] holds h = absurd h
among-filter p x (y ∷ xs) holds h = by (p y) refl (λ a. among-filter p x xs holds a) h where
  by : (b : Bool) → p y ≡ b → (Among x xs → Among x (filter p xs)) → (y ≡ x) ⊎ Among x xs → Among x (cond b (y ∷ filter p xs) (filter p xs))
  by true is rest (inl e) = inl e
  by true is rest (inr a) = inr (rest a)
  by false is rest (inl e) = let clash : true ≡ false = sym holds ∙ ap p (sym e) ∙ is in cc
  by false is rest (inr a) = rest a

pub among-unfilter : {X : Type 0} (p : X → Bool) (x : X) (xs : List X) → Among x (filter p xs) → Among x xs × (p x ≡ true)
among-unfilter p x [] h = absurd h
among-unfilter p x (y ∷ xs) h = by (p y) refl (λ a. among-unfilter p x xs a) h where
  by : (b : Bool) → p y ≡ b → (Among x (filter p xs) → Among x xs × (p x ≡ true)) → Among x (cond b (y ∷ filter p xs) (filter p xs)) → ((y ≡ x) ⊎ Among x xs) × (p x ≡ true)
  by true is rest (inl e) = (inl e, ap p (sym e) ∙ is)
  by true is rest (inr a) = let r = rest a in (inr r.0, r.1)
  by false is rest a = let r = rest a in (inr r.0, r.1)

pub among-flat_map : {X Y : Type 0} (f : X → List Y) (y : Y) (xs : List X) → Among y (flat_map f xs) → (x : X) × Among x xs × Among y (f x)
among-flat_map f y [] h = absurd h
among-flat_map f y (x ∷ xs) h = elim (among-append y (f x) (flat_map f xs) h) [
  | inl a ↦ (x, inl refl, a)
  | inr b ↦ let r = among-flat_map f y xs b in (r.0, inr r.1, r.2)
]

-- the first is the one, or what stands in the list stands behind it
pub among-rest : {X : Type 0} (x first : X) (xs rest : List X) → xs ≡ first ∷ rest → Among x xs → (first ≡ x) ⊎ Among x (drop 1 xs)
among-rest x first [] rest is h = absurd h
among-rest x first (y ∷ xs) rest is (inl e) = let same : y ≡ first = cc in inl (sym same ∙ e)
among-rest x first (y ∷ xs) rest is (inr a) = inr a

pub among-behind : {X : Type 0} (x : X) (xs : List X) → Among x (drop 1 xs) → Among x xs
among-behind x [] h = absurd h
among-behind x (y ∷ xs) h = inr h

pub none-among : {X : Type 0} (x : X) (xs : List X) → xs ≡ [] → Among x xs → ⊥
none-among x [] is h = h
none-among x (y ∷ xs) is h = cc

-- what holds of each holds of the one at a place
pub all-at : {X : Type 0} (P : X → Type 0) (xs : List X) (i : ℕ) (x : X) → All P xs → slice_get xs i ≡ Some x → P x
all-at P xs i x all is = subst P (get_or_from_slice_get xs i x x is) (all i x (slice_get_within xs i x is))
