-- Lists in order of time, by what comes at each time.
use Rattle.std.proofs.Common.{◌≡◌, ◌≢◌, ℕ, zero, suc, ◌<◌, ◌≤◌, Bool, true, false, List, [], ◌∷◌, ◌++◌, refl, sym, ◌∙◌, ap, arith, inl, inr, append_assoc}
use Rattle.std.specs.Prelude.{if◌then◌else◌, filter}
use Rattle.std.proofs.lemmas.Bool.{cases_eq, cases_lt, le-leb, lt-leb}
use Rattle.std.proofs.lemmas.Bool.Decides.{eqb_tells}
use Rattle.std.proofs.lemmas.List.{append-nil, map-append}
use Rattle.std.proofs.lemmas.List.Elements.{filter_map-append, filter-append}
use Rattle.event_queue.specs.declared.queue.Timed.{Timed}
use Rattle.event_queue.specs.Agenda.{Agenda, inserted, scheduled, scheduled_all, item_at, due_at}
use Rattle.event_queue.specs.View.{at_time, in_order}

pub in_order_cong : {T : Type 0} (f g : ℕ → List T) (n : ℕ) → ((t : ℕ) → t < n → f t ≡ g t) → in_order f n ≡ in_order g n
unfolding in_order
in_order_cong f g zero same = refl
in_order_cong {T} f g (suc n) same =
    ap (λ (xs : List (Timed T)). xs ++ at_time n (f n)) (in_order_cong f g n (λ t low. same t (omega (arith, low))))
    ∙ ap (λ (xs : List T). in_order g n ++ at_time n xs) (same n (omega arith))

pub in_order_none : {T : Type 0} (f : ℕ → List T) (n : ℕ) → ((t : ℕ) → t < n → f t ≡ []) → in_order f n ≡ []
unfolding in_order
in_order_none f zero none_there = refl
in_order_none {T} f (suc n) none_there =
    ap (λ (xs : List (Timed T)). xs ++ at_time n (f n)) (in_order_none f n (λ t low. none_there t (omega (arith, low))))
    ∙ ap (λ (xs : List T). at_time n xs) (none_there n (omega arith))

-- the first item is the first of the first time at which something comes
pub in_order_first : {T : Type 0} (f g : ℕ → List T) (t : ℕ) (x : T) (n : ℕ) → t < n → f t ≡ x ∷ g t → ((s : ℕ) → s < t → f s ≡ []) → ((s : ℕ) → s ≢ t → g s ≡ f s)
    → in_order f n ≡ record { time = t; item = x } ∷ in_order g n
unfolding in_order
in_order_first f g t x zero low first before others = absurd (omega (arith, low))
in_order_first {T} f g t x (suc n) low first before others = elim (cases_eq t n) [
  | inl e ↦ (
      let none_f : in_order f n ≡ [] = in_order_none f n (λ s lower. before s (omega (arith, lower, e))) in
      let none_g : in_order g n ≡ [] = in_order_none g n (λ s lower. others s (λ same. omega (arith, same, lower, e)) ∙ before s (omega (arith, lower, e))) in
      let here : f n ≡ x ∷ g n = ap f (sym e) ∙ first ∙ ap (λ (k : ℕ). x ∷ g k) e in
      ap (λ (xs : List (Timed T)). xs ++ at_time n (f n)) none_f ∙ ap (λ (xs : List T). at_time n xs) here
      ∙ ap (λ (k : ℕ). record { time = k; item = x } ∷ at_time n (g n)) (sym e) ∙ ap (λ (xs : List (Timed T)). record { time = t; item = x } ∷ (xs ++ at_time n (g n))) (sym none_g))
  | inr apart ↦
      ap (λ (xs : List (Timed T)). xs ++ at_time n (f n)) (in_order_first f g t x n (omega (arith, low, apart)) first before others)
      ∙ ap (λ (xs : List T). record { time = t; item = x } ∷ (in_order g n ++ at_time n xs)) (sym (others n (λ same. apart (sym same))))
]

-- an item goes behind all that come by its time
insert_past : {T : Type 0} (x y : Timed T) (ys : List (Timed T)) → y.time ≤ x.time → inserted x (y ∷ ys) ≡ y ∷ inserted x ys
insert_past {T} x y ys past = ap choice (le-leb y.time x.time past)
  where
    choice : Bool → List (Timed T)
    choice b = if b then y ∷ inserted x ys else x ∷ y ∷ ys

insert_before : {T : Type 0} (x y : Timed T) (ys : List (Timed T)) → x.time < y.time → inserted x (y ∷ ys) ≡ x ∷ y ∷ ys
insert_before {T} x y ys ahead = ap choice (lt-leb y.time x.time ahead)
  where
    choice : Bool → List (Timed T)
    choice b = if b then y ∷ inserted x ys else x ∷ y ∷ ys

insert_at_time : {T : Type 0} (x : Timed T) (t : ℕ) (zs : List T) (ys : List (Timed T)) → t ≤ x.time → inserted x (at_time t zs ++ ys) ≡ at_time t zs ++ inserted x ys
insert_at_time x t [] ys past = refl
insert_at_time {T} x t (z ∷ zs) ys past = insert_past x (record { time = t; item = z }) (at_time t zs ++ ys) past ∙ ap (λ (us : List (Timed T)). record { time = t; item = z } ∷ us) (insert_at_time x t zs ys past)

insert_in_order : {T : Type 0} (x : Timed T) (f : ℕ → List T) (n : ℕ) (ys : List (Timed T)) → n ≤ suc x.time → inserted x (in_order f n ++ ys) ≡ in_order f n ++ inserted x ys
unfolding in_order
insert_in_order x f zero ys past = refl
insert_in_order {T} x f (suc n) ys past =
    ap (inserted x) (append_assoc (in_order f n) (at_time n (f n)) ys) ∙ insert_in_order x f n (at_time n (f n) ++ ys) (omega (arith, past))
    ∙ ap (λ (us : List (Timed T)). in_order f n ++ us) (insert_at_time x n (f n) ys (omega (arith, past))) ∙ sym (append_assoc (in_order f n) (at_time n (f n)) (inserted x ys))

-- what comes from time t on, for n times
later : {T : Type 0} (x : Timed T) (f : ℕ → List T) (n : ℕ) (ws : List (Timed T)) → x.time < n → inserted x ws ++ at_time n (f n) ≡ inserted x (ws ++ at_time n (f n))
later {T} x f n [] ahead = by (f n)
  where
    by : (zs : List T) → x ∷ at_time n zs ≡ inserted x (at_time n zs)
    by [] = refl
    by (z ∷ zs) = sym (insert_before x (record { time = n; item = z }) (at_time n zs) ahead)
later {T} x f n (w ∷ ws) ahead = elim (cases_lt x.time w.time) [
  | inl before ↦ ap (λ (us : List (Timed T)). us ++ at_time n (f n)) (insert_before x w ws before) ∙ sym (insert_before x w (ws ++ at_time n (f n)) before)
  | inr past ↦ ap (λ (us : List (Timed T)). us ++ at_time n (f n)) (insert_past x w ws past) ∙ ap (λ (us : List (Timed T)). w ∷ us) (later x f n ws ahead) ∙ sym (insert_past x w (ws ++ at_time n (f n)) past)
]

pub in_order_put : {T : Type 0} (f g : ℕ → List T) (t : ℕ) (x : T) (n : ℕ) → t < n → g t ≡ f t ++ x ∷ [] → ((s : ℕ) → s ≢ t → g s ≡ f s) → in_order g n ≡ inserted (record { time = t; item = x }) (in_order f n)
unfolding in_order
in_order_put f g t x zero low last others = absurd (omega (arith, low))
in_order_put {T} f g t x (suc n) low last others = elim (cases_eq t n) [
  | inl e ↦ (
      let y : Timed T = record { time = t; item = x } in
      let front : in_order g n ≡ in_order f n = in_order_cong g f n (λ s lower. others s (λ same. omega (arith, same, lower, e))) in
      let here : g n ≡ f n ++ x ∷ [] = ap g (sym e) ∙ last ∙ ap (λ (k : ℕ). f k ++ x ∷ []) e in
      ap (λ (xs : List (Timed T)). xs ++ at_time n (g n)) front ∙ ap (λ (xs : List T). in_order f n ++ at_time n xs) here
      ∙ ap (λ (us : List (Timed T)). in_order f n ++ us) (map-append (λ (z : T). record { time = n; item = z }) (f n) (x ∷ []) ∙ ap (λ (k : ℕ). at_time n (f n) ++ record { time = k; item = x } ∷ []) (sym e))
      ∙ sym (append_assoc (in_order f n) (at_time n (f n)) (y ∷ []))
      ∙ sym (insert_in_order y f (suc n) [] (omega (arith, e))) ∙ ap (inserted y) (append-nil (in_order f (suc n))))
  | inr apart ↦ (
      let y : Timed T = record { time = t; item = x } in
      ap (λ (xs : List (Timed T)). xs ++ at_time n (g n)) (in_order_put f g t x n (omega (arith, low, apart)) last others)
      ∙ ap (λ (xs : List T). inserted y (in_order f n) ++ at_time n xs) (others n (λ same. apart (sym same)))
      ∙ later y f n (in_order f n) (omega (arith, low, apart)))
]

filter_at_time : {T : Type 0} (keep : T → Bool) (t : ℕ) (xs : List T) → at_time t (filter keep xs) ≡ filter (λ (y : Timed T). keep y.item) (at_time t xs)
filter_at_time keep t [] = refl
filter_at_time {T} keep t (x ∷ xs) = by (keep x) ∙ ap (λ (ys : List (Timed T)). if keep x then record { time = t; item = x } ∷ ys else ys) (filter_at_time keep t xs)
  where
    by : (b : Bool) → at_time t (if b then x ∷ filter keep xs else filter keep xs) ≡ (if b then record { time = t; item = x } ∷ at_time t (filter keep xs) else at_time t (filter keep xs))
    by true = refl
    by false = refl

pub in_order_filter : {T : Type 0} (keep : T → Bool) (f g : ℕ → List T) (n : ℕ) → ((t : ℕ) → g t ≡ filter keep (f t)) → in_order g n ≡ filter (λ (y : Timed T). keep y.item) (in_order f n)
unfolding in_order
in_order_filter keep f g zero kept = refl
in_order_filter {T} keep f g (suc n) kept =
    ap (λ (xs : List (Timed T)). xs ++ at_time n (g n)) (in_order_filter keep f g n kept)
    ∙ ap (λ (xs : List (Timed T)). filter (λ (y : Timed T). keep y.item) (in_order f n) ++ xs) (ap (λ (xs : List T). at_time n xs) (kept n) ∙ filter_at_time keep n (f n))
    ∙ sym (filter-append (λ (y : Timed T). keep y.item) (in_order f n) (at_time n (f n)))

-- what comes at one time, of a list in order

pub due_at-own : {T : Type 0} (x : Timed T) (xs : List (Timed T)) (t : ℕ) → x.time ≡ t → due_at t (x ∷ xs) ≡ x.item ∷ due_at t xs
due_at-own x xs t own = elim (eqb_tells x.time t) [ inl e ↦ rw e.0 refl | inr e ↦ absurd (e.1 own) ]

pub due_at-other : {T : Type 0} (x : Timed T) (xs : List (Timed T)) (t : ℕ) → x.time ≢ t → due_at t (x ∷ xs) ≡ due_at t xs
due_at-other x xs t other = elim (eqb_tells x.time t) [ inl e ↦ absurd (other e.1) | inr e ↦ rw e.0 refl ]

due_at-at_time_own : {T : Type 0} (t : ℕ) (xs : List T) → due_at t (at_time t xs) ≡ xs
due_at-at_time_own t [] = refl
due_at-at_time_own {T} t (x ∷ xs) = due_at-own (record { time = t; item = x }) (at_time t xs) t refl ∙ ap (λ (ys : List T). x ∷ ys) (due_at-at_time_own t xs)

due_at-at_time_other : {T : Type 0} (s t : ℕ) (xs : List T) → s ≢ t → due_at t (at_time s xs) ≡ []
due_at-at_time_other s t [] other = refl
due_at-at_time_other s t (x ∷ xs) other = due_at-other (record { time = s; item = x }) (at_time s xs) t other ∙ due_at-at_time_other s t xs other

pub due_at-past : {T : Type 0} (f : ℕ → List T) (n t : ℕ) → n ≤ t → due_at t (in_order f n) ≡ []
unfolding in_order
due_at-past f zero t past = refl
due_at-past {T} f (suc n) t past =
    filter_map-append (item_at t) (in_order f n) (at_time n (f n)) ∙ ap (λ (xs : List T). xs ++ due_at t (at_time n (f n))) (due_at-past f n t (omega (arith, past)))
    ∙ due_at-at_time_other n t (f n) (λ same. omega (arith, same, past))

pub due_at-in_order : {T : Type 0} (f : ℕ → List T) (n t : ℕ) → t < n → due_at t (in_order f n) ≡ f t
unfolding in_order
due_at-in_order f zero t low = absurd (omega (arith, low))
due_at-in_order {T} f (suc n) t low =
    filter_map-append (item_at t) (in_order f n) (at_time n (f n)) ∙ elim (cases_eq n t) [
      | inl e ↦ ap (λ (xs : List T). xs ++ due_at t (at_time n (f n))) (due_at-past f n t (omega (arith, e))) ∙ ap (λ (k : ℕ). due_at t (at_time k (f k))) e ∙ due_at-at_time_own t (f t)
      | inr other ↦ ap (λ (xs : List T). xs ++ due_at t (at_time n (f n))) (due_at-in_order f n t (omega (arith, low, other)))
          ∙ ap (λ (xs : List T). f t ++ xs) (due_at-at_time_other n t (f n) other) ∙ append-nil (f t)
    ]

-- items more that come too late to be kept
pub scheduled_all_late : {T : Type 0} (q : Agenda T) (t : ℕ) (xs : List T) → q.until < t → scheduled_all q t xs ≡ q
scheduled_all_late q t [] after = refl
scheduled_all_late {T} q t (x ∷ xs) after =
    let choice : Bool → Agenda T = λ b. if b then record q { items = inserted (record { time = t; item = x }) q.items } else q in
    let same : scheduled q t x ≡ q = ap choice (lt-leb t q.until after) in
    ap (λ (b : Agenda T). scheduled_all b t xs) same ∙ scheduled_all_late q t xs after
