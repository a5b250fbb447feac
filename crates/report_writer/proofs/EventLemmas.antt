-- Lists whose items have an event number each, and what is in one event.
use Rattle.std.proofs.Common.{◌≡◌, ◌≢◌, ℕ, zero, suc, ◌+◌, ◌<◌, ◌≤◌, max, Bool, false, cond, List, ◌++◌, ◌∷◌, [], length, replicate, take, drop, get_or, map, refl, ap, sym, ◌∙◌, subst, arith, inl, inr, min}
use Rattle.std.specs.Prelude.{flat_map, fold, ◌==◌, All}
use Rattle.std.proofs.Common.{append-nil, length-drop, ◌-◌, take-append-drop, drop-cons, add-one}
use Rattle.std.proofs.lemmas.List.{take_all, drop_all}
use Rattle.std.proofs.Math.Seq.{take-append_seam, drop-append_seam}
use Rattle.std.proofs.lemmas.Grind.{flat_map-append}
use Rattle.std.proofs.lemmas.Bool.{ne_eqb, eq-eqb, cases_lt, cond-true}
use Rattle.std.proofs.lemmas.List.Elements.{All-nil, All-cons, All-head, All-tail, All-same, All-take, All-drop, All-weaker, All-more, All-rest, All-append, filter_more, filter-append}
use Rattle.mate_journal.specs.Tidy.{below, EventsRise}
use Rattle.report_writer.specs.Progress.{at_event, IsLeftFrom, IsCut, IsGreatest, lesser}
use Rattle.std.specs.Prelude.{Option, None, Some, slice_get}
use Rattle.std.specs.Option.{option_map}
use Rattle.std.proofs.lemmas.Option.{slice_get_cases}

-- ---- each item

pub All-front : {A : Type 0} (P : A → Type 0) (xs ys : List A) → All P (xs ++ ys) → All P xs
All-front P xs ys h = All-same P xs (take (length xs) (xs ++ ys)) (sym (take-append_seam xs ys)) (All-take P (length xs) (xs ++ ys) h)

pub All-back : {A : Type 0} (P : A → Type 0) (xs ys : List A) → All P (xs ++ ys) → All P ys
All-back P xs ys h = All-same P ys (drop (length xs) (xs ++ ys)) (sym (drop-append_seam xs ys)) (All-drop P (length xs) (xs ++ ys) h)

pub All-of_map : {A B : Type 0} (P : B → Type 0) (f : A → B) (xs : List A) → All P (map f xs) → All (λ (x : A). P (f x)) xs
All-of_map P f [] h = All-nil (λ (x : _). P (f x))
All-of_map P f (x ∷ xs) h = All-cons (λ (x : _). P (f x)) x xs (All-head P (f x) (map f xs) h) (All-of_map P f xs (All-tail P (f x) (map f xs) h))

pub All-of_flat_map : {A B : Type 0} (P : B → Type 0) (f : A → List B) (xs : List A) → All P (flat_map f xs) → All (λ (x : A). All P (f x)) xs
All-of_flat_map P f [] h = All-nil (λ (x : _). All P (f x))
All-of_flat_map P f (x ∷ xs) h =
    All-cons (λ (x : _). All P (f x)) x xs (All-front P (f x) (flat_map f xs) h) (All-of_flat_map P f xs (All-back P (f x) (flat_map f xs) h))

-- ---- the greatest number of a list

pub fold-max_start : (a : ℕ) (xs : List ℕ) → a ≤ fold max a xs
fold-max_start a [] = omega arith
fold-max_start a (x ∷ xs) = omega (arith, fold-max_start (max a x) xs)

pub fold-max_bounds : (a : ℕ) (xs : List ℕ) → All (λ (x : ℕ). x ≤ fold max a xs) xs
fold-max_bounds a [] = All-nil (λ (x : ℕ). x ≤ a)
fold-max_bounds a (x ∷ xs) =
    All-cons (λ (y : ℕ). y ≤ fold max (max a x) xs) x xs (omega (arith, fold-max_start (max a x) xs)) (fold-max_bounds (max a x) xs)

-- ---- what stands in an event

pub EventsRise-low : {A : Type 0} (ev : A → ℕ) (low : ℕ) (xs : List A) → EventsRise ev low xs → All (λ (x : A). low ≤ ev x) xs
EventsRise-low ev low [] h = All-nil (λ (x : _). low ≤ ev x)
EventsRise-low ev low (x ∷ xs) h =
    All-cons (λ (x : _). low ≤ ev x) x xs h.0
    (All-weaker (λ (y : _). ev x ≤ ev y) (λ (y : _). low ≤ ev y) (λ (y : _) (p : ev x ≤ ev y). omega (arith, p, h.0)) xs (EventsRise-low ev (ev x) xs h.1))

-- no item stands in an event that no item has
pub at_event-none : {A : Type 0} (ev : A → ℕ) (k : ℕ) (xs : List A) → All (λ (x : A). ev x ≢ k) xs → at_event ev k xs ≡ []
at_event-none ev k [] h = refl
at_event-none ev k (x ∷ xs) h =
    let e : (ev x == k) ≡ false = ne_eqb (ev x) k (All-head (λ (x : _). ev x ≢ k) x xs h) in
    ap (λ (b : Bool). cond b (x ∷ at_event ev k xs) (at_event ev k xs)) e ∙ at_event-none ev k xs (All-tail (λ (x : _). ev x ≢ k) x xs h)

-- ---- lists as code reads them

-- what a slice holds from a place on
pub rest-from : {A : Type 0} (xs ys : List A) (n : ℕ) → xs ≡ ys → take (length xs - n) (drop n xs) ≡ drop n ys
rest-from xs ys n e = take_all (length xs - n) (drop n xs) (omega (arith, length-drop n xs)) ∙ ap (drop n) e

-- a place and the item there, where the list is equal to another
pub within-same : {A : Type 0} (xs ys : List A) (n : ℕ) → xs ≡ ys → n < length xs → n < length ys
within-same xs ys n e p = subst (λ (zs : List _). n < length zs) e p

pub item-same : {A : Type 0} (xs ys : List A) (n : ℕ) (x : A) → xs ≡ ys → x ≡ get_or xs n x → x ≡ get_or ys n x
item-same xs ys n x e is = is ∙ ap (λ (zs : List _). get_or zs n x) e

pub behind-same : {A : Type 0} (xs ys : List A) (n : ℕ) → xs ≡ ys → length xs ≤ n → length ys ≤ n
behind-same xs ys n e p = subst (λ (zs : List _). length zs ≤ n) e p

-- ---- a run of items of one event

-- what stands from a place on is of no earlier event than the item there
pub EventsRise-drop : {A : Type 0} (ev : A → ℕ) (low : ℕ) (xs : List A) (n : ℕ) (d : A) → EventsRise ev low xs → n < length xs → All (λ (y : A). ev (get_or xs n d) ≤ ev y) (drop n xs)
EventsRise-drop ev low [] n d h p = absurd (omega (arith, p))
EventsRise-drop ev low (x ∷ xs) zero d h p = All-cons (λ (y : _). ev x ≤ ev y) x xs (omega arith) (EventsRise-low ev (ev x) xs h.1)
EventsRise-drop ev low (x ∷ xs) (suc n) d h p = EventsRise-drop ev (ev x) xs n d h.1 (omega (arith, p))

drop_at : {A : Type 0} (xs : List A) (n : ℕ) (d : A) → n < length xs → drop n xs ≡ get_or xs n d ∷ drop (n + 1) xs
drop_at xs n d p = rw add-one (drop-cons xs n d p)

-- what holds of each item from a place on holds of the one there
pub All-drop_here : {A : Type 0} (P : A → Type 0) (xs : List A) (n : ℕ) (d : A) → n < length xs → All P (drop n xs) → P (get_or xs n d)
All-drop_here P xs n d p h =
    All-head P (get_or xs n d) (drop (n + 1) xs) (All-same P (get_or xs n d ∷ drop (n + 1) xs) (drop n xs) (sym (drop_at xs n d p)) h)

-- the items up to n are of events up to `event`, and the others of none before it
pub record Runs {A : Type 0} (ev : A → ℕ) (event : ℕ) (xs : List A) (n : ℕ) : Type 0 where
  pub within : n ≤ length xs
  pub before : All (λ (x : A). ev x < event + 1) (take n xs)
  pub after : All (λ (x : A). event ≤ ev x) (drop n xs)

pub Runs-start : {A : Type 0} (ev : A → ℕ) (event : ℕ) (xs : List A) (n : ℕ) → IsCut ev event xs n → Runs ev event xs n
Runs-start ev event xs n h = record {
  within = h.within;
  before = All-weaker (λ (x : _). ev x < event) (λ (x : _). ev x < event + 1) (λ (x : _) (p : ev x < event). omega (arith, p)) (take n xs) h.before;
  after = h.after;
}

pub at_event-start : {A : Type 0} (ev : A → ℕ) (event : ℕ) (xs : List A) (n : ℕ) → IsCut ev event xs n → at_event ev event (take n xs) ≡ []
at_event-start ev event xs n h =
    at_event-none ev event (take n xs) (All-weaker (λ (x : _). ev x < event) (λ (x : _). ev x ≢ event) (λ (x : _) (p : ev x < event) q. absurd (omega (arith, p, q))) (take n xs) h.before)

pub Runs-next : {A : Type 0} (ev : A → ℕ) (event : ℕ) (xs : List A) (n : ℕ) (x : A) → Runs ev event xs n → n < length xs → x ≡ get_or xs n x → ev x ≡ event → Runs ev event xs (n + 1)
Runs-next ev event xs n x h p is e =
    let here : ev (get_or xs n x) ≡ event = ap ev (sym is) ∙ e in record {
      within = omega (arith, p);
      before = All-more (λ (y : _). ev y < event + 1) xs n x p h.before (omega (arith, here));
      after = All-rest (λ (y : _). event ≤ ev y) (get_or xs n x) (drop (n + 1) xs) (drop n xs) (drop_at xs n x p) h.after;
    }

pub at_event-next : {A : Type 0} (ev : A → ℕ) (event : ℕ) (xs : List A) (n : ℕ) (x : A) → n < length xs → x ≡ get_or xs n x → ev x ≡ event
    → at_event ev event (take (n + 1) xs) ≡ at_event ev event (take n xs) ++ x ∷ []
at_event-next ev event xs n x p is e =
    let y = get_or xs n x in
    filter_more (λ y. ev y == event) xs n x p
    ∙ ap (λ ys. at_event ev event (take n xs) ++ ys) (cond-true (ev y == event) (y ∷ []) [] (eq-eqb (ev y) event (ap ev (sym is) ∙ e)) ∙ ap (λ z. z ∷ []) (sym is))

-- at the end of the list
pub IsCut-end : {A : Type 0} (ev : A → ℕ) (event : ℕ) (xs : List A) (n : ℕ) → Runs ev event xs n → length xs ≤ n → IsCut ev (event + 1) xs n
IsCut-end ev event xs n h p = record {
  within = h.within;
  before = h.before;
  after = All-same (λ (x : _). event + 1 ≤ ev x) (drop n xs) [] (drop_all n xs p) (All-nil (λ (x : _). event + 1 ≤ ev x));
}

pub at_event-end : {A : Type 0} (ev : A → ℕ) (event : ℕ) (xs : List A) (n : ℕ) → length xs ≤ n → at_event ev event (take n xs) ≡ at_event ev event xs
at_event-end ev event xs n p = ap (at_event ev event) (take_all n xs p)

-- at an item of another event
pub IsCut-stop : {A : Type 0} (ev : A → ℕ) (event : ℕ) (xs : List A) (n : ℕ) (x : A) → EventsRise ev 0 xs → Runs ev event xs n → n < length xs → x ≡ get_or xs n x → ev x ≢ event
    → IsCut ev (event + 1) xs n
IsCut-stop ev event xs n x rises h p is ne =
    let here : event ≤ ev (get_or xs n x) = All-drop_here (λ (y : _). event ≤ ev y) xs n x p h.after in
    let other : ev (get_or xs n x) ≢ event = λ e. ne (ap ev is ∙ e) in
    let above : event + 1 ≤ ev (get_or xs n x) = omega (arith, here, other) in record {
      within = h.within;
      before = h.before;
      after = All-weaker (λ (y : _). ev (get_or xs n x) ≤ ev y) (λ (y : _). event + 1 ≤ ev y) (λ (y : _) (q : ev (get_or xs n x) ≤ ev y). omega (arith, q, above)) (drop n xs) (EventsRise-drop ev 0 xs n x rises p);
    }

-- all items of an event stand before a cut at the next one
pub at_event-cut : {A : Type 0} (ev : A → ℕ) (event : ℕ) (xs : List A) (n : ℕ) → IsCut ev (event + 1) xs n → at_event ev event (take n xs) ≡ at_event ev event xs
at_event-cut ev event xs n h =
    let none = at_event-none ev event (drop n xs) (All-weaker (λ (y : _). event + 1 ≤ ev y) (λ (y : _). ev y ≢ event) (λ (y : _) (q : event + 1 ≤ ev y) r. absurd (omega (arith, q, r))) (drop n xs) h.after) in
    sym (ap (at_event ev event) (sym (take-append-drop n xs)) ∙ filter-append (λ y. ev y == event) (take n xs) (drop n xs)
    ∙ ap (λ ys. at_event ev event (take n xs) ++ ys) none ∙ append-nil (at_event ev event (take n xs)))

-- ---- the first event that is left

-- the greatest bound of two kinds, where a bound stays one if it is lowered
pub IsGreatest-both : (F G : ℕ → Type 0) (a b : Option ℕ) → ((m n : ℕ) → m ≤ n → F n → F m) → ((m n : ℕ) → m ≤ n → G n → G m) → IsGreatest a F → IsGreatest b G
    → IsGreatest (lesser a b) (λ (n : ℕ). F n × G n)
IsGreatest-both F G None None f g p q = λ n. (p n, q n)
IsGreatest-both F G None (Some m) f g p q = ((p m, q.0), λ n h. q.1 n h.1)
IsGreatest-both F G (Some m) None f g p q = ((p.0, q m), λ n h. p.1 n h.0)
IsGreatest-both F G (Some m) (Some n) f g p q = (
  (f (min m n) m (omega arith) p.0, g (min m n) n (omega arith) q.0),
  λ k h. let a : k ≤ m = p.1 k h.0 in let b : k ≤ n = q.1 k h.1 in omega (arith, a, b),
)

-- the same of an equivalent bound
pub IsGreatest-same : (F G : ℕ → Type 0) (a : Option ℕ) → ((n : ℕ) → F n → G n) → ((n : ℕ) → G n → F n) → IsGreatest a F → IsGreatest a G
IsGreatest-same F G None to from h = λ n. to n (h n)
IsGreatest-same F G (Some m) to from h = (to m h.0, λ n p. h.1 n (from n p))

-- what is left from an event on is left from an earlier one on
pub IsLeftFrom-down : {A : Type 0} (ev : A → ℕ) (xs : List A) (n : ℕ) (i j : ℕ) → i ≤ j → IsLeftFrom ev j xs n → IsLeftFrom ev i xs n
IsLeftFrom-down ev xs n i j p h = All-weaker (λ (x : _). j ≤ ev x) (λ (x : _). i ≤ ev x) (λ (x : _) (q : j ≤ ev x). omega (arith, p, q)) (drop n xs) h

-- the event of the next item is the greatest bound of what is left
pub IsGreatest-head : {A : Type 0} (ev : A → ℕ) (xs : List A) (n : ℕ) → EventsRise ev 0 xs → IsGreatest (option_map ev (slice_get xs n)) (λ (event : ℕ). IsLeftFrom ev event xs n)
IsGreatest-head ev xs n h =
    elim (slice_get_cases xs n).1 [
      | inl s ↦
          let x = s.0 in
          let P : Option ℕ → Type 0 = λ (o : Option ℕ). IsGreatest o (λ (event : ℕ). IsLeftFrom ev event xs n) in
          let all = EventsRise-drop ev 0 xs n x h s.1 in
          subst P (sym (ap (option_map ev) s.2)) (
            subst (λ (k : ℕ). IsLeftFrom ev k xs n) (ap ev s.3) all,
            λ k p. subst (λ (m : ℕ). k ≤ m) (ap ev s.3) (All-drop_here (λ (y : _). k ≤ ev y) xs n x s.1 p),
          )
      | inr s ↦
          let P : Option ℕ → Type 0 = λ (o : Option ℕ). IsGreatest o (λ (event : ℕ). IsLeftFrom ev event xs n) in
          subst P (sym (ap (option_map ev) s.1))
          (λ k. All-same (λ (y : _). k ≤ ev y) (drop n xs) [] (drop_all n xs s.0) (All-nil (λ (y : _). k ≤ ev y)))
    ]

-- ---- numbers without a piece

-- the pieces of the numbers from a on, of which each is empty
pub flat_map-skip : (f : ℕ → List ℕ) (a b : ℕ) → a ≤ b → ((k : ℕ) → a ≤ k → k < b → f k ≡ []) → flat_map f (below b) ≡ flat_map f (below a)
flat_map-skip f a zero p h = let e : zero ≡ a = omega (arith, p) in ap (λ n. flat_map f (below n)) e
flat_map-skip f a (suc b) p h =
    elim (cases_lt b a) [
      | inl lt ↦ let e : suc b ≡ a = omega (arith, p, lt) in ap (λ n. flat_map f (below n)) e
      | inr ge ↦
          flat_map-append f (below b) (b ∷ [])
          ∙ ap (λ ys. flat_map f (below b) ++ ys) (append-nil (f b) ∙ h b ge (omega arith))
          ∙ append-nil (flat_map f (below b))
          ∙ flat_map-skip f a b ge (λ k q r. h k q (omega (arith, r)))
    ]

-- the piece of one more number
pub flat_map-below_next : (f : ℕ → List ℕ) (n : ℕ) → flat_map f (below (suc n)) ≡ flat_map f (below n) ++ f n
flat_map-below_next f n = flat_map-append f (below n) (n ∷ []) ∙ ap (λ ys. flat_map f (below n) ++ ys) (append-nil (f n))

-- a list divided at an event has nothing of an event between that and what is left
pub at_event-between : {A : Type 0} (ev : A → ℕ) (event k : ℕ) (xs : List A) (n : ℕ) → IsCut ev event xs n → event ≤ k → IsLeftFrom ev (k + 1) xs n → at_event ev k xs ≡ []
at_event-between ev event k xs n cut p left =
    let before = All-weaker (λ (x : _). ev x < event) (λ (x : _). ev x ≢ k) (λ (x : _) (q : ev x < event) r. absurd (omega (arith, p, q, r))) (take n xs) cut.before in
    let after = All-weaker (λ (x : _). k + 1 ≤ ev x) (λ (x : _). ev x ≢ k) (λ (x : _) (q : k + 1 ≤ ev x) r. absurd (omega (arith, q, r))) (drop n xs) left in
    at_event-none ev k xs
    (All-same (λ (x : _). ev x ≢ k) xs (take n xs ++ drop n xs) (sym (take-append-drop n xs)) (All-append (λ (x : _). ev x ≢ k) (take n xs) (drop n xs) before after))

-- a cut at an event is one at a later event, where what is left is from that on
pub IsCut-later : {A : Type 0} (ev : A → ℕ) (a b : ℕ) (xs : List A) (n : ℕ) → a ≤ b → IsCut ev a xs n → IsLeftFrom ev b xs n → IsCut ev b xs n
IsCut-later ev a b xs n p cut left = record {
  within = cut.within;
  before = All-weaker (λ (x : _). ev x < a) (λ (x : _). ev x < b) (λ (x : _) (q : ev x < a). omega (arith, p, q)) (take n xs) cut.before;
  after = left;
}

-- before the first item
pub IsCut-first : {A : Type 0} (ev : A → ℕ) (xs : List A) → IsCut ev 0 xs 0
IsCut-first ev xs = record { within = omega arith; before = All-nil (λ (x : _). ev x < 0); after = λ k d p. omega arith }

-- each of the first numbers of a list of zeros is 0
pub zeros-front : (n m i : ℕ) → ◌≡◌ {A = ℕ} (get_or (take n (replicate m 0)) i 0) 0
zeros-front zero m i = refl
zeros-front (suc n) zero i = refl
zeros-front (suc n) (suc m) zero = refl
zeros-front (suc n) (suc m) (suc i) = zeros-front n m i
