-- What is due, after an item is put, taken or cancelled, and when the wheel turns.
use Rattle.std.proofs.Common.{◌≡◌, ◌≢◌, ℕ, zero, suc, ◌+◌, ◌-◌, ◌*◌, ◌/◌, ◌%◌, ◌<◌, ◌≤◌, ◌⊎◌, Bool, true, false, List, [], ◌∷◌, ◌++◌, length, get_or, set, refl, sym, ◌∙◌, ap, subst, arith, inl, inr, append_assoc}
use Rattle.std.specs.Prelude.{◌==◌, if◌then◌else◌, Option, Some, None, slice_get, is_some, unwrap_or}
use Rattle.std.specs.List.{All, filter_map, cons_option}
use Rattle.std.proofs.lemmas.Bool.{cases_eq, cases_lt, false≢true}
use Rattle.std.proofs.lemmas.Bool.Decides.{eqb_tells}
use Rattle.std.proofs.lemmas.List.{length-set, length-append, append-nil}
use Rattle.std.proofs.lemmas.List.Elements.{filter_map-append, All-set, All-push}
use Rattle.event_queue.specs.declared.wheel.Entry.{Entry}
use Rattle.event_queue.specs.declared.wheel.Wheel.{Wheel}
use Rattle.event_queue.specs.declared.marks.Marks.{Marks}
use Rattle.event_queue.specs.Links.{Places, list_at, IsOutside, MovesFirst, MakesRoom}
use Rattle.event_queue.specs.Marks.{mark_at}
use Rattle.event_queue.specs.Wheel.{is_current, live_item, live, live_entry, timed_entry, items_at, items_timed, near, far, list_for, near_due, far_due, wheel_due, IsPastItem, IsTurning, IsWheel, PutsLast, KeepsView, TakesFirst, Turns}

-- lists of places, by what waits there

filter_map_cong : {X : Type 0} (f g : ℕ → Option X) (ps : List ℕ) → ((p : ℕ) → f p ≡ g p) → filter_map f ps ≡ filter_map g ps
filter_map_cong f g [] same = refl
filter_map_cong {X} f g (p ∷ ps) same = ap (λ (o : Option X). cons_option o (filter_map f ps)) (same p) ∙ ap (λ (xs : List X). cons_option (g p) xs) (filter_map_cong f g ps same)

filter_map_lacks : {X : Type 0} (f g : ℕ → Option X) (place : ℕ) (ps : List ℕ) → IsOutside place ps → ((p : ℕ) → p ≢ place → f p ≡ g p) → filter_map f ps ≡ filter_map g ps
filter_map_lacks f g place [] lacks same = refl
filter_map_lacks {X} f g place (p ∷ ps) lacks same =
    ap (λ (o : Option X). cons_option o (filter_map f ps)) (same p lacks.0) ∙ ap (λ (xs : List X). cons_option (g p) xs) (filter_map_lacks f g place ps lacks.1 same)

-- a place more at the end
filter_map_last : {X : Type 0} (f g : ℕ → Option X) (place : ℕ) (ps : List ℕ) → IsOutside place ps → ((p : ℕ) → p ≢ place → f p ≡ g p) → filter_map f (ps ++ place ∷ []) ≡ filter_map g ps ++ cons_option (f place) []
filter_map_last {X} f g place ps lacks same =
    filter_map-append f ps (place ∷ []) ∙ ap (λ (xs : List X). xs ++ cons_option (f place) []) (filter_map_lacks f g place ps lacks same)

pub slice_get_set_same : {X : Type 0} (xs : List X) (i : ℕ) (x : X) → i < length xs → slice_get (set xs i x) i ≡ Some x
slice_get_set_same [] i x within = absurd (omega (arith, within))
slice_get_set_same (y ∷ ys) zero x within = refl
slice_get_set_same (y ∷ ys) (suc i) x within = slice_get_set_same ys i x (omega (arith, within))

pub slice_get_set_other : {X : Type 0} (xs : List X) (i j : ℕ) (x : X) → j ≢ i → slice_get (set xs i x) j ≡ slice_get xs j
slice_get_set_other [] i j x other = refl
slice_get_set_other (y ∷ ys) zero zero x other = absurd (other refl)
slice_get_set_other (y ∷ ys) zero (suc j) x other = refl
slice_get_set_other (y ∷ ys) (suc i) zero x other = refl
slice_get_set_other (y ∷ ys) (suc i) (suc j) x other = slice_get_set_other ys i j x (λ e. other (ap suc e))

-- in the wheel's block both slots count, and elsewhere the far one

pub due_here : {T : Type 0} (group : T → Option ℕ) (w : Wheel T) (t : ℕ) → t / 2048 ≡ w.at / 2048 → wheel_due group w t ≡ near_due group w t ++ far_due group w t
unfolding wheel_due
due_here group w t here = elim (eqb_tells (t / 2048) (w.at / 2048)) [ inl e ↦ rw e.0 refl | inr e ↦ absurd (e.1 here) ]

pub due_ahead : {T : Type 0} (group : T → Option ℕ) (w : Wheel T) (t : ℕ) → t / 2048 ≢ w.at / 2048 → wheel_due group w t ≡ far_due group w t
unfolding wheel_due
due_ahead group w t ahead = elim (eqb_tells (t / 2048) (w.at / 2048)) [ inl e ↦ absurd (ahead e.1) | inr e ↦ rw e.0 refl ]

-- equal parts make the same due
same_due : {T : Type 0} (group : T → Option ℕ) (w v : Wheel T) (t : ℕ) → v.at / 2048 ≡ w.at / 2048 → (t / 2048 ≡ w.at / 2048 → near_due group v t ≡ near_due group w t) → far_due group v t ≡ far_due group w t → wheel_due group v t ≡ wheel_due group w t
same_due {T} group w v t block near_same far_same = elim (cases_eq (t / 2048) (w.at / 2048)) [
  | inl here ↦ due_here group v t (here ∙ sym block) ∙ ap (λ (xs : List T). xs ++ far_due group v t) (near_same here) ∙ ap (λ (xs : List T). near_due group w t ++ xs) far_same ∙ sym (due_here group w t here)
  | inr ahead ↦ due_ahead group v t (λ e. ahead (e ∙ block)) ∙ far_same ∙ sym (due_ahead group w t ahead)
]

-- a wheel that stands where it stood, and whose items of the past are those of the old one
right_again : {T : Type 0} (group : T → Option ℕ) (w v : Wheel T) → IsWheel group w → v.at ≡ w.at → length v.chains.lists ≡ length w.chains.lists → v.chains.total ≤ length v.entries.items
    → ((block : ℕ) → block ≤ w.at / 2048 → list_at v.chains (2049 + block) ≡ list_at w.chains (2049 + block)) → ((t : ℕ) → t < w.at → wheel_due group v t ≡ wheel_due group w t)
    → All (λ (e : Entry T). IsPastItem group v.generations e.generation e.item) v.entries.items → ((t : ℕ) → mark_at v.marks (t % 2048) ≡ 0 → list_at v.chains (near t) ≡ []) → IsWheel group v
right_again {T} group w v right at lists room slots past timely marked =
    let block : v.at / 2048 ≡ w.at / 2048 = ap (λ (t : ℕ). t / 2048) at in
    record {
      turning = record {
        lists = lists ∙ right.turning.lists;
        room = room;
        below = let low = right.turning.below in omega (arith, low, at);
        spread = λ b low. slots b (omega (arith, low, block)) ∙ right.turning.spread b (omega (arith, low, block));
        past = λ t low. past t (omega (arith, low, at)) ∙ right.turning.past t (omega (arith, low, at));
        timely = timely;
        marked = marked;
      };
      current = ap (λ (b : ℕ). list_at v.chains (2049 + b)) block ∙ slots (w.at / 2048) (omega arith) ∙ right.current;
    }

-- free places may come

blank : {T : Type 0} → Entry T
blank = record { time = 0; generation = 0; item = None }

blank_live : {T : Type 0} (group : T → Option ℕ) (generations : List ℕ) (es : List (Entry T)) (p : ℕ) → live_entry group generations (slice_get (es ++ blank ∷ []) p) ≡ live_entry group generations (slice_get es p)
unfolding blank
blank_live group generations [] zero = refl
blank_live group generations [] (suc p) = refl
blank_live group generations (e ∷ es) zero = refl
blank_live group generations (e ∷ es) (suc p) = blank_live group generations es p

no_choice : {X : Type 0} (b : Bool) (o : Option X) → (if b then o else o) ≡ o
no_choice true o = refl
no_choice false o = refl

blank_timed : {T : Type 0} (group : T → Option ℕ) (generations : List ℕ) (offset : ℕ) (es : List (Entry T)) (p : ℕ) → timed_entry group generations offset (slice_get (es ++ blank ∷ []) p) ≡ timed_entry group generations offset (slice_get es p)
unfolding blank
blank_timed group generations offset [] zero = no_choice (0 == offset) None
blank_timed group generations offset [] (suc p) = refl
blank_timed group generations offset (e ∷ es) zero = refl
blank_timed group generations offset (e ∷ es) (suc p) = blank_timed group generations offset es p

-- a wheel whose slots and items are those of another one
same_slots : {T : Type 0} (group : T → Option ℕ) (w v : Wheel T) → IsWheel group w → v.at ≡ w.at → v.generations ≡ w.generations → length v.chains.lists ≡ length w.chains.lists → v.chains.total ≤ length v.entries.items
    → ((s : ℕ) → s ≢ 0 → list_at v.chains s ≡ list_at w.chains s)
    → ((p : ℕ) → live_entry group w.generations (slice_get v.entries.items p) ≡ live_entry group w.generations (slice_get w.entries.items p))
    → ((offset p : ℕ) → timed_entry group w.generations offset (slice_get v.entries.items p) ≡ timed_entry group w.generations offset (slice_get w.entries.items p))
    → All (λ (e : Entry T). IsPastItem group w.generations e.generation e.item) v.entries.items → v.marks ≡ w.marks → KeepsView group w v
same_slots {T} group w v right at generations lists room slots lives timeds timely marks =
    let same : (t : ℕ) → wheel_due group v t ≡ wheel_due group w t = λ t.
    same_due group w v t (ap (λ (k : ℕ). k / 2048) at)
    (λ here. ap (λ (gs : List ℕ). items_at group gs v.entries.items (list_at v.chains (near t))) generations
    ∙ ap (items_at group w.generations v.entries.items) (slots (near t) (omega arith))
    ∙ filter_map_cong (λ p. live_entry group w.generations (slice_get v.entries.items p)) (λ p. live_entry group w.generations (slice_get w.entries.items p)) (list_at w.chains (near t)) lives)
    (ap (λ (gs : List ℕ). items_timed group gs v.entries.items (t % 2048) (list_at v.chains (far t))) generations
    ∙ ap (items_timed group w.generations v.entries.items (t % 2048)) (slots (far t) (omega arith))
    ∙ filter_map_cong (λ p. timed_entry group w.generations (t % 2048) (slice_get v.entries.items p)) (λ p. timed_entry group w.generations (t % 2048) (slice_get w.entries.items p)) (list_at w.chains (far t)) (timeds (t % 2048)))
    in
    record {
      right = right_again group w v right at lists room (λ block low. slots (2049 + block) (omega arith)) (λ t low. same t)
          (subst (λ (gs : List ℕ). All (λ (e : Entry T). IsPastItem group gs e.generation e.item) v.entries.items) (sym generations) timely)
          (λ t free. slots (near t) (omega arith) ∙ right.turning.marked t (ap (λ (m : Marks). mark_at m (t % 2048)) (sym marks) ∙ free));
      at = at;
      same = same;
    }

-- nothing changed
pub keeps_all : {T : Type 0} (group : T → Option ℕ) (w v : Wheel T) → IsWheel group w → v.at ≡ w.at → v.generations ≡ w.generations → v.chains ≡ w.chains → v.entries.items ≡ w.entries.items → v.marks ≡ w.marks → KeepsView group w v
keeps_all {T} group w v right at generations chains entries marks =
    let room = right.turning.room in
    let total : v.chains.total ≡ w.chains.total = ap (λ (c : Places). c.total) chains in
    let long : length v.entries.items ≡ length w.entries.items = ap (λ (es : List (Entry T)). length es) entries in
    same_slots group w v right at generations (ap (λ (c : Places). length c.lists) chains) (omega (arith, room, total, long)) (λ s n. ap (λ (c : Places). list_at c s) chains)
    (λ p. ap (λ (es : List (Entry T)). live_entry group w.generations (slice_get es p)) entries)
    (λ offset p. ap (λ (es : List (Entry T)). timed_entry group w.generations offset (slice_get es p)) entries)
    (subst (λ (es : List (Entry T)). All (λ (e : Entry T). IsPastItem group w.generations e.generation e.item) es) (sym entries) right.turning.timely) marks

-- a further entry, at which nothing waits
pub keeps_blank : {T : Type 0} (group : T → Option ℕ) (w v : Wheel T) → IsWheel group w → v.at ≡ w.at → v.generations ≡ w.generations → v.chains ≡ w.chains
    → v.entries.items ≡ w.entries.items ++ record { time = 0; generation = 0; item = None } ∷ [] → v.marks ≡ w.marks → KeepsView group w v
unfolding blank
keeps_blank {T} group w v right at generations chains entries marks =
    let room = right.turning.room in
    let total : v.chains.total ≡ w.chains.total = ap (λ (c : Places). c.total) chains in
    let long : length v.entries.items ≡ length w.entries.items + 1 = ap (λ (es : List (Entry T)). length es) entries ∙ length-append w.entries.items (blank ∷ []) in
    same_slots group w v right at generations (ap (λ (c : Places). length c.lists) chains) (omega (arith, room, total, long)) (λ s n. ap (λ (c : Places). list_at c s) chains)
    (λ p. ap (λ (es : List (Entry T)). live_entry group w.generations (slice_get es p)) entries ∙ blank_live group w.generations w.entries.items p)
    (λ offset p. ap (λ (es : List (Entry T)). timed_entry group w.generations offset (slice_get es p)) entries ∙ blank_timed group w.generations offset w.entries.items p)
    (subst (λ (es : List (Entry T)). All (λ (e : Entry T). IsPastItem group w.generations e.generation e.item) es) (sym entries)
    (All-push (λ (e : Entry T). IsPastItem group w.generations e.generation e.item) w.entries.items blank right.turning.timely tt)) marks

-- a free place came
pub keeps_grown : {T : Type 0} (group : T → Option ℕ) (w v : Wheel T) → IsWheel group w → w.chains.total < length w.entries.items → v.at ≡ w.at → v.generations ≡ w.generations → MakesRoom w.chains v.chains 0 → v.entries.items ≡ w.entries.items → v.marks ≡ w.marks → KeepsView group w v
keeps_grown {T} group w v right free at generations grows entries marks =
    let total = grows.total in
    let long : length v.entries.items ≡ length w.entries.items = ap (λ (es : List (Entry T)). length es) entries in
    same_slots group w v right at generations grows.lists (omega (arith, free, total, long)) grows.others
    (λ p. ap (λ (es : List (Entry T)). live_entry group w.generations (slice_get es p)) entries)
    (λ offset p. ap (λ (es : List (Entry T)). timed_entry group w.generations offset (slice_get es p)) entries)
    (subst (λ (es : List (Entry T)). All (λ (e : Entry T). IsPastItem group w.generations e.generation e.item) es) (sym entries) right.turning.timely) marks

-- one after the other
pub keeps_both : {T : Type 0} (group : T → Option ℕ) (u v w : Wheel T) → KeepsView group u v → KeepsView group v w → KeepsView group u w
keeps_both group u v w a b = record { right = b.right; at = b.at ∙ a.at; same = λ t. b.same t ∙ a.same t }

-- which list that is
abbrev ForCase : ℕ → ℕ → ℕ → Type 0
ForCase at time list = ((time / 2048 ≡ at / 2048) × (list ≡ near time)) ⊎ ((time / 2048 ≢ at / 2048) × (list ≡ far time))

for_case : (at time list : ℕ) → list ≡ list_for at time → ForCase at time list
for_case at time list is = elim (eqb_tells (time / 2048) (at / 2048)) [
  | inl e ↦ inl (e.1, is ∙ ap (λ (b : Bool). if b then near time else far time) e.0)
  | inr e ↦ inr (e.1, is ∙ ap (λ (b : Bool). if b then near time else far time) e.0)
]

-- a timed entry at its ms and at others
timed_own : {T : Type 0} (group : T → Option ℕ) (generations : List ℕ) (e : Entry T) (offset : ℕ) → e.time % 2048 ≡ offset → timed_entry group generations offset (Some e) ≡ live group generations e
timed_own group generations e offset is = elim (eqb_tells (e.time % 2048) offset) [ inl a ↦ rw a.0 refl | inr a ↦ absurd (a.1 is) ]

timed_other : {T : Type 0} (group : T → Option ℕ) (generations : List ℕ) (e : Entry T) (offset : ℕ) → e.time % 2048 ≢ offset → timed_entry group generations offset (Some e) ≡ None
timed_other group generations e offset other = elim (eqb_tells (e.time % 2048) offset) [ inl a ↦ absurd (other a.1) | inr a ↦ rw a.0 refl ]

-- what a place, filled again, shows
pub record Fills {T : Type 0} (w v : Wheel T) (list place : ℕ) (e : Entry T) : Type 0 where
  pub moves : MovesFirst w.chains v.chains 0 list place
  pub at : v.at ≡ w.at
  pub generations : v.generations ≡ w.generations
  pub entries : v.entries.items ≡ set w.entries.items place e
  pub marks : (s : ℕ) → mark_at v.marks s ≡ 0 → mark_at w.marks s ≡ 0
  pub mark : list ≤ 2048 → mark_at v.marks (list - 1) ≡ 1

-- places of lists that the place isn't in show what they showed
pub unmoved_near : {T : Type 0} (group : T → Option ℕ) (w v : Wheel T) (place : ℕ) (e : Entry T) (ps : List ℕ) → v.generations ≡ w.generations → v.entries.items ≡ set w.entries.items place e → IsOutside place ps
    → items_at group v.generations v.entries.items ps ≡ items_at group w.generations w.entries.items ps
unmoved_near {T} group w v place e ps generations entries lacks =
    ap (λ (gs : List ℕ). items_at group gs v.entries.items ps) generations ∙ ap (λ (es : List (Entry T)). items_at group w.generations es ps) entries
    ∙ filter_map_lacks (λ p. live_entry group w.generations (slice_get (set w.entries.items place e) p)) (λ p. live_entry group w.generations (slice_get w.entries.items p)) place ps lacks
    (λ p n. ap (live_entry group w.generations) (slice_get_set_other w.entries.items place p e n))

pub unmoved_far : {T : Type 0} (group : T → Option ℕ) (w v : Wheel T) (place : ℕ) (e : Entry T) (offset : ℕ) (ps : List ℕ) → v.generations ≡ w.generations → v.entries.items ≡ set w.entries.items place e → IsOutside place ps
    → items_timed group v.generations v.entries.items offset ps ≡ items_timed group w.generations w.entries.items offset ps
unmoved_far {T} group w v place e offset ps generations entries lacks =
    ap (λ (gs : List ℕ). items_timed group gs v.entries.items offset ps) generations ∙ ap (λ (es : List (Entry T)). items_timed group w.generations es offset ps) entries
    ∙ filter_map_lacks (λ p. timed_entry group w.generations offset (slice_get (set w.entries.items place e) p)) (λ p. timed_entry group w.generations offset (slice_get w.entries.items p)) place ps lacks
    (λ p n. ap (timed_entry group w.generations offset) (slice_get_set_other w.entries.items place p e n))

last_near : {T : Type 0} (group : T → Option ℕ) (w v : Wheel T) (place : ℕ) (e : Entry T) (ps : List ℕ) → v.generations ≡ w.generations → v.entries.items ≡ set w.entries.items place e → place < length w.entries.items → IsOutside place ps
    → items_at group v.generations v.entries.items (ps ++ place ∷ []) ≡ items_at group w.generations w.entries.items ps ++ cons_option (live group w.generations e) []
last_near {T} group w v place e ps generations entries within lacks =
    ap (λ (gs : List ℕ). items_at group gs v.entries.items (ps ++ place ∷ [])) generations ∙ ap (λ (es : List (Entry T)). items_at group w.generations es (ps ++ place ∷ [])) entries
    ∙ filter_map_last (λ p. live_entry group w.generations (slice_get (set w.entries.items place e) p)) (λ p. live_entry group w.generations (slice_get w.entries.items p)) place ps lacks
    (λ p n. ap (live_entry group w.generations) (slice_get_set_other w.entries.items place p e n))
    ∙ ap (λ (o : Option (Entry T)). items_at group w.generations w.entries.items ps ++ cons_option (live_entry group w.generations o) []) (slice_get_set_same w.entries.items place e within)

last_far : {T : Type 0} (group : T → Option ℕ) (w v : Wheel T) (place : ℕ) (e : Entry T) (offset : ℕ) (ps : List ℕ) → v.generations ≡ w.generations → v.entries.items ≡ set w.entries.items place e → place < length w.entries.items → IsOutside place ps
    → items_timed group v.generations v.entries.items offset (ps ++ place ∷ []) ≡ items_timed group w.generations w.entries.items offset ps ++ cons_option (timed_entry group w.generations offset (Some e)) []
last_far {T} group w v place e offset ps generations entries within lacks =
    ap (λ (gs : List ℕ). items_timed group gs v.entries.items offset (ps ++ place ∷ [])) generations ∙ ap (λ (es : List (Entry T)). items_timed group w.generations es offset (ps ++ place ∷ [])) entries
    ∙ filter_map_last (λ p. timed_entry group w.generations offset (slice_get (set w.entries.items place e) p)) (λ p. timed_entry group w.generations offset (slice_get w.entries.items p)) place ps lacks
    (λ p n. ap (timed_entry group w.generations offset) (slice_get_set_other w.entries.items place p e n))
    ∙ ap (λ (o : Option (Entry T)). items_timed group w.generations w.entries.items offset ps ++ cons_option (timed_entry group w.generations offset o) []) (slice_get_set_same w.entries.items place e within)

cons_some : (x : ℕ) (xs : List ℕ) → x ∷ xs ≢ []
cons_some x xs none = let long : suc (length xs) ≡ 0 = ap (λ (zs : List ℕ). length zs) none in omega (arith, long)

-- a place went to the end of a list, which is marked if it is near
marked_moved : {T : Type 0} (w v : Wheel T) (from list place : ℕ) → ((t : ℕ) → mark_at w.marks (t % 2048) ≡ 0 → list_at w.chains (near t) ≡ []) → MovesFirst w.chains v.chains from list place → list ≢ 0
    → ((s : ℕ) → mark_at v.marks s ≡ 0 → mark_at w.marks s ≡ 0) → (list ≤ 2048 → mark_at v.marks (list - 1) ≡ 1) → (t : ℕ) → mark_at v.marks (t % 2048) ≡ 0 → list_at v.chains (near t) ≡ []
marked_moved w v from list place marked moves some marks mark t free = elim (cases_eq (near t) list) [
  | inl here ↦ (
      let set = mark (omega (arith, here)) in
      let slot : t % 2048 ≡ list - 1 = omega (arith, here) in
      let unset : mark_at v.marks (list - 1) ≡ 0 = ap (λ (s : ℕ). mark_at v.marks s) (sym slot) ∙ free in
      absurd (omega (arith, set, unset)))
  | inr other ↦ elim (cases_eq (near t) from) [
    | inl left ↦ absurd (cons_some _ _ (sym moves.first ∙ ap (list_at w.chains) (sym left) ∙ marked t (marks (t % 2048) free)))
    | inr apart ↦ moves.others (near t) apart other ∙ marked t (marks (t % 2048) free)
  ]
]

-- an item put last at its time
pub puts : {T : Type 0} (group : T → Option ℕ) (w v : Wheel T) (list place time : ℕ) (e : Entry T) (item : T) → IsWheel group w → w.at ≤ time → list ≡ list_for w.at time → Fills w v list place e
    → e.time ≡ time → live group w.generations e ≡ Some item → IsPastItem group w.generations e.generation e.item → PutsLast group w time item v
puts {T} group w v list place time e item right ahead list_is fills time_is live_is timely =
    let below : place < length w.entries.items = (let low = fills.moves.below in let room = right.turning.room in omega (arith, low, room)) in
    let block : v.at / 2048 ≡ w.at / 2048 = ap (λ (k : ℕ). k / 2048) fills.at in
    let is_for : ForCase w.at time list = for_case w.at time list list_is in
    let not_free : list ≢ 0 = elim is_for [ inl a ↦ (λ z. let n = a.1 in omega (arith, z, n)) | inr a ↦ (λ z. let n = a.1 in omega (arith, z, n)) ] in
    let near_else : (t : ℕ) → near t ≢ list → near_due group v t ≡ near_due group w t = λ t other.
    unmoved_near group w v place e (list_at v.chains (near t)) fills.generations fills.entries (fills.moves.alone (near t) other)
    ∙ ap (items_at group w.generations w.entries.items) (fills.moves.others (near t) (omega arith) other) in
    let far_else : (t : ℕ) → far t ≢ list → far_due group v t ≡ far_due group w t = λ t other.
    unmoved_far group w v place e (t % 2048) (list_at v.chains (far t)) fills.generations fills.entries (fills.moves.alone (far t) other)
    ∙ ap (items_timed group w.generations w.entries.items (t % 2048)) (fills.moves.others (far t) (omega arith) other) in
    let far_more : (t : ℕ) → far t ≡ list → far_due group v t ≡ far_due group w t ++ cons_option (timed_entry group w.generations (t % 2048) (Some e)) [] = λ t here.
    ap (λ (s : ℕ). items_timed group v.generations v.entries.items (t % 2048) (list_at v.chains s)) here
    ∙ ap (items_timed group v.generations v.entries.items (t % 2048)) fills.moves.joined
    ∙ last_far group w v place e (t % 2048) (list_at w.chains list) fills.generations fills.entries below fills.moves.fresh
    ∙ ap (λ (s : ℕ). items_timed group w.generations w.entries.items (t % 2048) (list_at w.chains s) ++ cons_option (timed_entry group w.generations (t % 2048) (Some e)) []) (sym here) in
    let near_more : (t : ℕ) → near t ≡ list → near_due group v t ≡ near_due group w t ++ item ∷ [] = λ t here.
    ap (λ (s : ℕ). items_at group v.generations v.entries.items (list_at v.chains s)) here
    ∙ ap (items_at group v.generations v.entries.items) fills.moves.joined
    ∙ last_near group w v place e (list_at w.chains list) fills.generations fills.entries below fills.moves.fresh
    ∙ ap (λ (o : Option T). items_at group w.generations w.entries.items (list_at w.chains list) ++ cons_option o []) live_is
    ∙ ap (λ (s : ℕ). items_at group w.generations w.entries.items (list_at w.chains s) ++ item ∷ []) (sym here) in
    let own : timed_entry group w.generations (time % 2048) (Some e) ≡ Some item = timed_own group w.generations e (time % 2048) (ap (λ (k : ℕ). k % 2048) time_is) ∙ live_is in
    let last : wheel_due group v time ≡ wheel_due group w time ++ item ∷ [] = elim is_for [
      | inl a ↦ (
          let far_is : far time ≡ far w.at = ap (λ (k : ℕ). 2049 + k) a.0 in
          let away : far time ≢ list = λ same. let n = a.1 in omega (arith, same, n) in
          let none : far_due group w time ≡ [] = ap (λ (s : ℕ). items_timed group w.generations w.entries.items (time % 2048) (list_at w.chains s)) far_is ∙ ap (items_timed group w.generations w.entries.items (time % 2048)) right.current in
          due_here group v time (a.0 ∙ sym block) ∙ ap (λ (xs : List T). xs ++ far_due group v time) (near_more time (sym a.1)) ∙ ap (λ (xs : List T). near_due group w time ++ item ∷ [] ++ xs) (far_else time away ∙ none)
          ∙ append-nil (near_due group w time ++ item ∷ []) ∙ ap (λ (xs : List T). xs ++ item ∷ []) (sym (append-nil (near_due group w time)) ∙ ap (λ (xs : List T). near_due group w time ++ xs) (sym none) ∙ sym (due_here group w time a.0)))
      | inr a ↦ due_ahead group v time (λ same. a.0 (same ∙ block)) ∙ far_more time (sym a.1) ∙ ap (λ (o : Option T). far_due group w time ++ cons_option o []) own ∙ ap (λ (xs : List T). xs ++ item ∷ []) (sym (due_ahead group w time a.0))
    ] in
    let others : (t : ℕ) → t ≢ time → wheel_due group v t ≡ wheel_due group w t = λ t other. elim is_for [
      | inl a ↦ (
          let n = a.1 in let b = a.0 in
          same_due group w v t block (λ here. near_else t (λ same. other (omega (arith, same, n, here, b)))) (far_else t (λ same. omega (arith, same, n))))
      | inr a ↦ (
          let n = a.1 in let b = a.0 in
          same_due group w v t block (λ here. near_else t (λ same. omega (arith, same, n)))
          (elim (cases_eq (far t) list) [
            | inl same ↦ (
                let apart : e.time % 2048 ≢ t % 2048 = λ offsets. other (omega (arith, same, n, offsets, time_is)) in
                far_more t same ∙ ap (λ (o : Option T). far_due group w t ++ cons_option o []) (timed_other group w.generations e (t % 2048) apart) ∙ append-nil (far_due group w t))
            | inr differ ↦ far_else t differ
          ]))
    ] in
    record {
      right = right_again group w v right fills.at fills.moves.lists
          (let total = fills.moves.total in let room = right.turning.room in let long = ap (λ (es : List (Entry T)). length es) fills.entries ∙ length-set w.entries.items place e in omega (arith, total, room, long))
          (λ b low. fills.moves.others (2049 + b) (omega arith) (elim is_for [ inl a ↦ (λ same. let n = a.1 in omega (arith, same, n)) | inr a ↦ (λ same. let n = a.1 in let far_off = a.0 in omega (arith, same, n, far_off, low, ahead)) ]))
          (λ t low. others t (λ same. omega (arith, same, low, ahead)))
          (subst (λ (gs : List ℕ). All (λ (x : Entry T). IsPastItem group gs x.generation x.item) v.entries.items) (sym fills.generations)
          (subst (λ (es : List (Entry T)). All (λ (x : Entry T). IsPastItem group w.generations x.generation x.item) es) (sym fills.entries)
          (All-set (λ (x : Entry T). IsPastItem group w.generations x.generation x.item) w.entries.items place e timely right.turning.timely)))
          (marked_moved w v 0 list place right.turning.marked fills.moves not_free fills.marks fills.mark);
      at = fills.at;
      last = last;
      others = others;
    }

-- an item that comes is of the current generation
pub live_now : {T : Type 0} (group : T → Option ℕ) (generations : List ℕ) (generation : ℕ) (item : T) (o : Option ℕ) → o ≡ group item → is_current generations o generation ≡ true → live_item group generations generation (Some item) ≡ Some item
live_now {T} group generations generation item o is current =
    let now : is_current generations (group item) generation ≡ true = ap (λ (g : Option ℕ). is_current generations g generation) (sym is) ∙ current in
    let choice : Bool → Option T = λ b. if b then Some item else None in
    ap choice now

-- a wheel that was kept before
pub puts_after : {T : Type 0} (group : T → Option ℕ) (u w v : Wheel T) (time : ℕ) (item : T) → KeepsView group u w → PutsLast group w time item v → PutsLast group u time item v
puts_after {T} group u w v time item kept put = record {
  right = put.right;
  at = put.at ∙ kept.at;
  last = put.last ∙ ap (λ (xs : List T). xs ++ item ∷ []) (kept.same time);
  others = λ t other. put.others t other ∙ kept.same t;
}

pub pushed_some : (xs ys : List ℕ) (y : ℕ) → ys ≡ xs ++ y ∷ [] → ys ≢ []
pushed_some xs ys y is none =
    let long : length ys ≡ length xs + 1 = ap (λ (zs : List ℕ). length zs) is ∙ length-append xs (y ∷ []) in
    let short : length ys ≡ 0 = ap (λ (zs : List ℕ). length zs) none in
    omega (arith, long, short)

cons_option-append : {X : Type 0} (o : Option X) (xs ys : List X) → cons_option o xs ++ ys ≡ cons_option o (xs ++ ys)
cons_option-append None xs ys = refl
cons_option-append (Some x) xs ys = refl

-- the first place of the wheel's time, emptied
pub pops : {T : Type 0} (group : T → Option ℕ) (w v : Wheel T) (place : ℕ) (e : Entry T) (item : Option T) → IsWheel group w → MovesFirst w.chains v.chains (near w.at) 0 place → v.at ≡ w.at → v.generations ≡ w.generations
    → v.entries.items ≡ set w.entries.items place (record { time = e.time; generation = e.generation; item = None }) → slice_get w.entries.items place ≡ Some e → item ≡ live group w.generations e → v.marks ≡ w.marks → TakesFirst group w item v
pops {T} group w v place e item right moved at generations entries was live_is marks =
    let empty : Entry T = record { time = e.time; generation = e.generation; item = None } in
    let block : v.at / 2048 ≡ w.at / 2048 = ap (λ (k : ℕ). k / 2048) at in
    let near_else : (t : ℕ) → near t ≢ near w.at → near_due group v t ≡ near_due group w t = λ t other.
    unmoved_near group w v place empty (list_at v.chains (near t)) generations entries (moved.alone (near t) (omega arith))
    ∙ ap (items_at group w.generations w.entries.items) (moved.others (near t) other (omega arith)) in
    let far_else : (t : ℕ) → far_due group v t ≡ far_due group w t = λ t.
    unmoved_far group w v place empty (t % 2048) (list_at v.chains (far t)) generations entries (moved.alone (far t) (omega arith))
    ∙ ap (items_timed group w.generations w.entries.items (t % 2048)) (moved.others (far t) (omega arith) (omega arith)) in
    let near_first : near_due group w w.at ≡ cons_option item (near_due group v w.at) =
    ap (items_at group w.generations w.entries.items) moved.first
    ∙ ap (λ (o : Option (Entry T)). cons_option (live_entry group w.generations o) (items_at group w.generations w.entries.items (list_at v.chains (near w.at)))) was
    ∙ ap (λ (o : Option T). cons_option o (items_at group w.generations w.entries.items (list_at v.chains (near w.at)))) (sym live_is)
    ∙ ap (λ (xs : List T). cons_option item xs) (sym (unmoved_near group w v place empty (list_at v.chains (near w.at)) generations entries (moved.alone (near w.at) (omega arith)))) in
    let others : (t : ℕ) → t ≢ w.at → wheel_due group v t ≡ wheel_due group w t = λ t other.
    same_due group w v t block (λ here. near_else t (λ same. other (omega (arith, same, here)))) (far_else t) in
    record {
      right = right_again group w v right at moved.lists
          (let total = moved.total in let room = right.turning.room in let long = ap (λ (es : List (Entry T)). length es) entries ∙ length-set w.entries.items place empty in omega (arith, total, room, long))
          (λ b low. moved.others (2049 + b) (omega arith) (omega arith))
          (λ t low. others t (λ same. omega (arith, same, low)))
          (subst (λ (gs : List ℕ). All (λ (x : Entry T). IsPastItem group gs x.generation x.item) v.entries.items) (sym generations)
          (subst (λ (es : List (Entry T)). All (λ (x : Entry T). IsPastItem group w.generations x.generation x.item) es) (sym entries)
          (All-set (λ (x : Entry T). IsPastItem group w.generations x.generation x.item) w.entries.items place empty tt right.turning.timely)))
          (λ t free. let unset : mark_at w.marks (t % 2048) ≡ 0 = ap (λ (m : Marks). mark_at m (t % 2048)) (sym marks) ∙ free in elim (cases_eq (near t) (near w.at)) [
            | inl here ↦ absurd (cons_some _ _ (sym moved.first ∙ ap (list_at w.chains) (sym here) ∙ right.turning.marked t unset))
            | inr other ↦ moved.others (near t) other (omega arith) ∙ right.turning.marked t unset
          ]);
      at = at;
      first = due_here group w w.at refl ∙ ap (λ (xs : List T). xs ++ far_due group w w.at) near_first ∙ cons_option-append item (near_due group v w.at) (far_due group w w.at)
          ∙ ap (cons_option item) (ap (λ (xs : List T). near_due group v w.at ++ xs) (sym (far_else w.at)) ∙ sym (due_here group v w.at (sym block)));
      others = others;
    }

pub fewer : (xs ys : List ℕ) (x : ℕ) → xs ≡ x ∷ ys → length ys < length xs
fewer xs ys x is = let long : length xs ≡ suc (length ys) = ap (λ (zs : List ℕ). length zs) is in omega (arith, long)

-- an element that was read is the one that is there
pub read_at : {X : Type 0} (xs : List X) (i : ℕ) (x : X) → i < length xs → x ≡ get_or xs i x → slice_get xs i ≡ Some x
read_at [] i x within is = absurd (omega (arith, within))
read_at {X} (y ∷ ys) zero x within is = ap (λ (z : X). Some z) (sym is)
read_at (y ∷ ys) (suc i) x within is = read_at ys i x (omega (arith, within)) is

-- the place that is read first is the one that moves
pub first_moved : (xs ys : List ℕ) (p q : ℕ) → slice_get xs 0 ≡ Some p → xs ≡ q ∷ ys → q ≡ p
first_moved xs ys p q first is = let value : Option ℕ → ℕ = λ o. unwrap_or o 0 in ap value (ap (λ (zs : List ℕ). slice_get zs 0) (sym is) ∙ first)

pub none_first : (xs : List ℕ) → slice_get xs 0 ≡ None → xs ≡ []
none_first [] none_there = refl
none_first (x ∷ xs) none_there = absurd (some_none x none_there)
  where
    is_there : Option ℕ → ℕ
    is_there None = 0
    is_there (Some y) = 1

    some_none : (y : ℕ) → Some y ≡ None → ⊥
    some_none y same = let one : 1 ≡ 0 = ap is_there same in omega (arith, one)

-- what was dropped was cancelled
pub keeps_dropped : {T : Type 0} (group : T → Option ℕ) (w v : Wheel T) (item : Option T) → TakesFirst group w item v → item ≡ None → KeepsView group w v
keeps_dropped {T} group w v item takes none = record {
  right = takes.right;
  at = takes.at;
  same = λ t. elim (cases_eq t w.at) [
    | inl here ↦ ap (λ (k : ℕ). wheel_due group v k) here ∙ sym (takes.first ∙ ap (λ (o : Option T). cons_option o (wheel_due group v w.at)) none) ∙ ap (λ (k : ℕ). wheel_due group w k) (sym here)
    | inr other ↦ takes.others t other
  ];
}

pub takes_after : {T : Type 0} (group : T → Option ℕ) (u w v : Wheel T) (item : Option T) → KeepsView group u w → TakesFirst group w item v → TakesFirst group u item v
takes_after {T} group u w v item kept takes = record {
  right = takes.right;
  at = takes.at ∙ kept.at;
  first = sym (kept.same u.at) ∙ ap (λ (k : ℕ). wheel_due group w k) (sym kept.at) ∙ takes.first ∙ ap (λ (k : ℕ). cons_option item (wheel_due group v k)) kept.at;
  others = λ t other. takes.others t (λ same. other (same ∙ kept.at)) ∙ kept.same t;
}

pub takes_none : {T : Type 0} (group : T → Option ℕ) (u w : Wheel T) → KeepsView group u w → TakesFirst group u None w
takes_none group u w kept = record { right = kept.right; at = kept.at; first = sym (kept.same u.at); others = λ t other. kept.same t }

pub keeps_start : {T : Type 0} (group : T → Option ℕ) (w : Wheel T) → IsWheel group w → KeepsView group w w
keeps_start group w right = record { right = right; at = refl; same = λ t. refl }

-- the mark of the wheel's time is taken, where its slot is empty
pub unmarks : {T : Type 0} (group : T → Option ℕ) (w v : Wheel T) → IsWheel group w → slice_get (list_at w.chains (near w.at)) 0 ≡ None
    → ((s : ℕ) → s ≢ w.at % 2048 → mark_at v.marks s ≡ mark_at w.marks s) → v ≡ record w { marks = v.marks } → KeepsView group w v
unmarks {T} group w v right none marks is =
    let next : Wheel T = record w { marks = v.marks } in
    let marked : (t : ℕ) → mark_at v.marks (t % 2048) ≡ 0 → list_at w.chains (near t) ≡ [] = λ t free. elim (cases_eq (t % 2048) (w.at % 2048)) [
      | inl here ↦ ap (λ (o : ℕ). list_at w.chains (1 + o)) here ∙ none_first (list_at w.chains (near w.at)) none
      | inr other ↦ right.turning.marked t (sym (marks (t % 2048) other) ∙ free)
    ] in
    let same : (t : ℕ) → wheel_due group next t ≡ wheel_due group w t = λ t. same_due group w next t refl (λ here. refl) refl in
    subst (λ (u : Wheel T). KeepsView group w u) (sym is) (record {
      right = right_again group w next right refl refl right.turning.room (λ block low. refl) (λ t low. same t) right.turning.timely marked;
      at = refl;
      same = same;
    })

-- nothing waits in the slot of the wheel's time
pub due_none : {T : Type 0} (group : T → Option ℕ) (w : Wheel T) → IsWheel group w → slice_get (list_at w.chains (near w.at)) 0 ≡ None → wheel_due group w w.at ≡ []
due_none {T} group w right none =
    due_here group w w.at refl ∙ ap (λ (xs : List T). xs ++ far_due group w w.at) (ap (items_at group w.generations w.entries.items) (none_first (list_at w.chains (near w.at)) none))
    ∙ ap (items_timed group w.generations w.entries.items (w.at % 2048)) right.current

-- the wheel turns

nil_parts : {X : Type 0} (xs ys : List X) → xs ++ ys ≡ [] → (xs ≡ []) × (ys ≡ [])
nil_parts [] ys nothing = (refl, nothing)
nil_parts {X} (x ∷ xs) ys nothing = let long : suc (length (xs ++ ys)) ≡ 0 = ap (λ (zs : List X). length zs) nothing in absurd (omega (arith, long))

-- where nothing is due in the wheel's block, nothing waits in the near slots
drained : {T : Type 0} (group : T → Option ℕ) (w : Wheel T) → ((s : ℕ) → s / 2048 ≡ w.at / 2048 → wheel_due group w s ≡ []) → (t : ℕ) → near_due group w t ≡ []
drained {T} group w done t =
    let s : ℕ = w.at / 2048 * 2048 + t % 2048 in
    let here : s / 2048 ≡ w.at / 2048 = omega arith in
    let offset : s % 2048 ≡ t % 2048 = omega arith in
    ap (λ (o : ℕ). items_at group w.generations w.entries.items (list_at w.chains (1 + o))) (sym offset)
    ∙ (nil_parts (near_due group w s) (far_due group w s) (sym (due_here group w s here) ∙ done s here)).0

far_none : {T : Type 0} (group : T → Option ℕ) (w : Wheel T) (t : ℕ) → wheel_due group w t ≡ [] → far_due group w t ≡ []
far_none group w t nothing = elim (cases_eq (t / 2048) (w.at / 2048)) [
  | inl here ↦ (nil_parts (near_due group w t) (far_due group w t) (sym (due_here group w t here) ∙ nothing)).1
  | inr ahead ↦ sym (due_ahead group w t ahead) ∙ nothing
]

-- nothing is marked in the wheel's block behind its time and before another one
abbrev pub NoneMarked : {T : Type 0} → Wheel T → ℕ → Type 0
NoneMarked w now = (s : ℕ) → w.at % 2048 < s → s < w.at % 2048 + (now - w.at) → mark_at w.marks s ≡ 0

-- so nothing is due there
quiet : {T : Type 0} (group : T → Option ℕ) (w : Wheel T) (now t : ℕ) → IsWheel group w → wheel_due group w w.at ≡ [] → NoneMarked w now → t < now → t / 2048 ≤ w.at / 2048 → wheel_due group w t ≡ []
quiet {T} group w now t right done none before near_by = elim (cases_lt w.at t) [
  | inl after ↦ (
      let here : t / 2048 ≡ w.at / 2048 = omega (arith, after, near_by) in
      let empty : list_at w.chains (near t) ≡ [] = right.turning.marked t (none (t % 2048) (omega (arith, after, here)) (omega (arith, after, here, before))) in
      due_here group w t here ∙ ap (λ (xs : List T). xs ++ far_due group w t) (ap (items_at group w.generations w.entries.items) empty)
      ∙ ap (λ (b : ℕ). items_timed group w.generations w.entries.items (t % 2048) (list_at w.chains (2049 + b))) here ∙ ap (items_timed group w.generations w.entries.items (t % 2048)) right.current)
  | inr past ↦ elim (cases_eq t w.at) [ inl here ↦ ap (λ (k : ℕ). wheel_due group w k) here ∙ done | inr other ↦ right.turning.past t (omega (arith, past, other)) ]
]

-- on, in the same block
pub ticks : {T : Type 0} (group : T → Option ℕ) (w v : Wheel T) (now : ℕ) → IsWheel group w → wheel_due group w w.at ≡ [] → NoneMarked w now → w.at < now → now / 2048 ≡ w.at / 2048 → now < 4194304 → v ≡ record w { at = now } → Turns group w now v
ticks {T} group w v now right done none on block below is =
    let next : Wheel T = record w { at = now } in
    let same : (t : ℕ) → wheel_due group next t ≡ wheel_due group w t = λ t. same_due group w next t block (λ here. refl) refl in
    subst (λ (u : Wheel T). Turns group w now u) (sym is) (record {
      right = record {
        turning = record {
          lists = right.turning.lists;
          room = right.turning.room;
          below = below;
          spread = λ b low. right.turning.spread b (omega (arith, low, block));
          past = λ t low. same t ∙ quiet group w now t right done none low (omega (arith, low, block));
          timely = right.turning.timely;
          marked = right.turning.marked;
        };
        current = ap (λ (b : ℕ). list_at w.chains (2049 + b)) block ∙ right.current;
      };
      at = refl;
      same = same;
    })

-- on, to the next block
pub record Crosses {T : Type 0} (group : T → Option ℕ) (w v : Wheel T) : Type 0 where
  pub turning : IsTurning group v
  pub same : (t : ℕ) → wheel_due group v t ≡ wheel_due group w t

pub crosses : {T : Type 0} (group : T → Option ℕ) (w v : Wheel T) (now : ℕ) → IsWheel group w → wheel_due group w w.at ≡ [] → NoneMarked w now → now ≡ (w.at / 2048 + 1) * 2048 → now < 4194304 → v ≡ record w { at = now } → Crosses group w v
crosses {T} group w v now right done none over below is =
    let next : Wheel T = record w { at = now } in
    let block : now / 2048 ≡ w.at / 2048 + 1 = omega (arith, over) in
    let passed : (s : ℕ) → s / 2048 ≡ w.at / 2048 → wheel_due group w s ≡ [] = λ s here. quiet group w now s right done none (omega (arith, here, over)) (omega (arith, here)) in
    let far_same : (t : ℕ) → far_due group next t ≡ far_due group w t = λ t. refl in
    let same : (t : ℕ) → wheel_due group next t ≡ wheel_due group w t = λ t.
    elim (cases_eq (t / 2048) (now / 2048)) [
      | inl here ↦ due_here group next t here ∙ ap (λ (xs : List T). xs ++ far_due group w t) (drained group w passed t) ∙ sym (due_ahead group w t (λ same. omega (arith, same, here, block)))
      | inr ahead ↦ due_ahead group next t ahead ∙ elim (cases_eq (t / 2048) (w.at / 2048)) [
        | inl old ↦ far_none group w t (passed t old) ∙ sym (passed t old)
        | inr apart ↦ sym (due_ahead group w t apart)
      ]
    ] in
    subst (λ (u : Wheel T). Crosses group w u) (sym is) (record {
      turning = record {
        lists = right.turning.lists;
        room = right.turning.room;
        below = below;
        spread = λ b low. elim (cases_eq b (w.at / 2048)) [ inl e ↦ ap (λ (k : ℕ). list_at w.chains (2049 + k)) e ∙ right.current | inr other ↦ right.turning.spread b (omega (arith, low, block, other)) ];
        past = λ t low. same t ∙ quiet group w now t right done none low (omega (arith, low, over));
        timely = right.turning.timely;
        marked = right.turning.marked;
      };
      same = same;
    })

pub turns_spread : {T : Type 0} (group : T → Option ℕ) (w u v : Wheel T) → Crosses group w u → Turns group u u.at v → Turns group w v.at v
turns_spread group w u v crossed turned = record { right = turned.right; at = refl; same = λ t. turned.same t ∙ crossed.same t }

-- as far as a far slot is spread
pub record Spreads {T : Type 0} (group : T → Option ℕ) (w v : Wheel T) : Type 0 where
  pub turning : IsTurning group v
  pub at : v.at ≡ w.at
  pub same : (t : ℕ) → wheel_due group v t ≡ wheel_due group w t

pub spreads_start : {T : Type 0} (group : T → Option ℕ) (w : Wheel T) → IsTurning group w → Spreads group w w
spreads_start group w turning = record { turning = turning; at = refl; same = λ t. refl }

-- one place goes from the far slot to a near one
moved_due : {T : Type 0} (group : T → Option ℕ) (w v : Wheel T) (place : ℕ) (e : Entry T) → v.at ≡ w.at → v.generations ≡ w.generations → v.entries.items ≡ w.entries.items
    → MovesFirst w.chains v.chains (far w.at) (near e.time) place → slice_get w.entries.items place ≡ Some e → (t : ℕ) → wheel_due group v t ≡ wheel_due group w t
moved_due {T} group w v place e at generations entries moved was t =
    let block : v.at / 2048 ≡ w.at / 2048 = ap (λ (k : ℕ). k / 2048) at in
    let near_is : near_due group v t ≡ items_at group w.generations w.entries.items (list_at v.chains (near t)) =
    ap (λ (gs : List ℕ). items_at group gs v.entries.items (list_at v.chains (near t))) generations ∙ ap (λ (es : List (Entry T)). items_at group w.generations es (list_at v.chains (near t))) entries in
    let far_is : far_due group v t ≡ items_timed group w.generations w.entries.items (t % 2048) (list_at v.chains (far t)) =
    ap (λ (gs : List ℕ). items_timed group gs v.entries.items (t % 2048) (list_at v.chains (far t))) generations ∙ ap (λ (es : List (Entry T)). items_timed group w.generations es (t % 2048) (list_at v.chains (far t))) entries in
    elim (cases_eq (t / 2048) (w.at / 2048)) [
      | inl here ↦ (
          let slot : far t ≡ far w.at = ap (λ (b : ℕ). 2049 + b) here in
          let rest : List T = items_timed group w.generations w.entries.items (t % 2048) (list_at v.chains (far t)) in
          let far_was : far_due group w t ≡ cons_option (timed_entry group w.generations (t % 2048) (Some e)) rest =
          ap (λ (s : ℕ). items_timed group w.generations w.entries.items (t % 2048) (list_at w.chains s)) slot ∙ ap (items_timed group w.generations w.entries.items (t % 2048)) moved.first
          ∙ ap (λ (o : Option (Entry T)). cons_option (timed_entry group w.generations (t % 2048) o) (items_timed group w.generations w.entries.items (t % 2048) (list_at v.chains (far w.at)))) was
          ∙ ap (λ (s : ℕ). cons_option (timed_entry group w.generations (t % 2048) (Some e)) (items_timed group w.generations w.entries.items (t % 2048) (list_at v.chains s))) (sym slot) in
          let after : wheel_due group v t ≡ items_at group w.generations w.entries.items (list_at v.chains (near t)) ++ rest =
          due_here group v t (here ∙ sym block) ∙ ap (λ (xs : List T). xs ++ far_due group v t) near_is ∙ ap (λ (xs : List T). items_at group w.generations w.entries.items (list_at v.chains (near t)) ++ xs) far_is in
          elim (cases_eq (t % 2048) (e.time % 2048)) [
            | inl own ↦ (
                let to : near t ≡ near e.time = ap (λ (o : ℕ). 1 + o) own in
                let near_more : items_at group w.generations w.entries.items (list_at v.chains (near t)) ≡ near_due group w t ++ cons_option (live group w.generations e) [] =
                ap (λ (s : ℕ). items_at group w.generations w.entries.items (list_at v.chains s)) to ∙ ap (items_at group w.generations w.entries.items) moved.joined
                ∙ filter_map-append (λ p. live_entry group w.generations (slice_get w.entries.items p)) (list_at w.chains (near e.time)) (place ∷ [])
                ∙ ap (λ (o : Option (Entry T)). items_at group w.generations w.entries.items (list_at w.chains (near e.time)) ++ cons_option (live_entry group w.generations o) []) was
                ∙ ap (λ (s : ℕ). items_at group w.generations w.entries.items (list_at w.chains s) ++ cons_option (live group w.generations e) []) (sym to) in
                after ∙ ap (λ (xs : List T). xs ++ rest) near_more ∙ append_assoc (near_due group w t) (cons_option (live group w.generations e) []) rest
                ∙ ap (λ (xs : List T). near_due group w t ++ xs) (cons_option-append (live group w.generations e) [] rest ∙ ap (λ (o : Option T). cons_option o rest) (sym (timed_own group w.generations e (t % 2048) (sym own))) ∙ sym far_was)
                ∙ sym (due_here group w t here))
            | inr other ↦ (
                let near_same : items_at group w.generations w.entries.items (list_at v.chains (near t)) ≡ near_due group w t =
                ap (items_at group w.generations w.entries.items) (moved.others (near t) (omega arith) (λ same. other (omega (arith, same)))) in
                after ∙ ap (λ (xs : List T). xs ++ rest) near_same
                ∙ ap (λ (xs : List T). near_due group w t ++ xs) (ap (λ (o : Option T). cons_option o rest) (sym (timed_other group w.generations e (t % 2048) (λ same. other (sym same)))) ∙ sym far_was)
                ∙ sym (due_here group w t here))
          ])
      | inr ahead ↦ due_ahead group v t (λ same. ahead (same ∙ block)) ∙ far_is
          ∙ ap (items_timed group w.generations w.entries.items (t % 2048)) (moved.others (far t) (λ same. ahead (omega (arith, same))) (omega arith)) ∙ sym (due_ahead group w t ahead)
    ]

pub spreads_more : {T : Type 0} (group : T → Option ℕ) (u w v : Wheel T) (place : ℕ) (e : Entry T) → Spreads group u w → v.at ≡ w.at → v.generations ≡ w.generations → v.entries.items ≡ w.entries.items
    → MovesFirst w.chains v.chains (far w.at) (near e.time) place → slice_get w.entries.items place ≡ Some e → ((s : ℕ) → mark_at v.marks s ≡ 0 → mark_at w.marks s ≡ 0) → (near e.time ≤ 2048 → mark_at v.marks (near e.time - 1) ≡ 1) → Spreads group u v
spreads_more {T} group u w v place e so_far at generations entries moved was marks mark =
    let turning = so_far.turning in
    let same : (t : ℕ) → wheel_due group v t ≡ wheel_due group w t = moved_due group w v place e at generations entries moved was in
    let block : v.at / 2048 ≡ w.at / 2048 = ap (λ (k : ℕ). k / 2048) at in
    record {
      turning = record {
        lists = moved.lists ∙ turning.lists;
        room = (let total = moved.total in let room = turning.room in let long = ap (λ (es : List (Entry T)). length es) entries in omega (arith, total, room, long));
        below = (let low = turning.below in omega (arith, low, at));
        spread = λ b low. moved.others (2049 + b) (λ same. omega (arith, same, low, block)) (omega arith) ∙ turning.spread b (omega (arith, low, block));
        past = λ t low. same t ∙ turning.past t (omega (arith, low, at));
        timely = subst (λ (gs : List ℕ). All (λ (x : Entry T). IsPastItem group gs x.generation x.item) v.entries.items) (sym generations)
            (subst (λ (es : List (Entry T)). All (λ (x : Entry T). IsPastItem group w.generations x.generation x.item) es) (sym entries) turning.timely);
        marked = marked_moved w v (far w.at) (near e.time) place turning.marked moved (λ zero_list. omega (arith, zero_list)) marks mark;
      };
      at = at ∙ so_far.at;
      same = λ t. same t ∙ so_far.same t;
    }

pub spreads_all : {T : Type 0} (group : T → Option ℕ) (u w : Wheel T) → Spreads group u w → slice_get (list_at w.chains (far w.at)) 0 ≡ None → Turns group u u.at w
spreads_all group u w so_far nothing = record {
  right = record { turning = so_far.turning; current = none_first (list_at w.chains (far w.at)) nothing };
  at = so_far.at;
  same = so_far.same;
}

-- back to a time, where nothing is due at all
pub rewinds : {T : Type 0} (group : T → Option ℕ) (w v : Wheel T) (now : ℕ) → IsWheel group w → ((t : ℕ) → wheel_due group w t ≡ []) → now ≤ w.at → v ≡ record w { at = now } → Turns group w now v
rewinds {T} group w v now right nothing back is =
    let before : Wheel T = record w { at = now } in
    let same : (t : ℕ) → wheel_due group before t ≡ wheel_due group w t = λ t. elim (cases_eq (t / 2048) (now / 2048)) [
      | inl here ↦ due_here group before t here ∙ ap (λ (xs : List T). xs ++ far_due group w t) (drained group w (λ s e. nothing s) t) ∙ far_none group w t (nothing t) ∙ sym (nothing t)
      | inr ahead ↦ due_ahead group before t ahead ∙ far_none group w t (nothing t) ∙ sym (nothing t)
    ] in
    subst (λ (u : Wheel T). Turns group w now u) (sym is) (record {
      right = record {
        turning = record {
          lists = right.turning.lists;
          room = right.turning.room;
          below = (let low = right.turning.below in omega (arith, low, back));
          spread = λ b low. right.turning.spread b (omega (arith, low, back));
          past = λ t low. same t ∙ nothing t;
          timely = right.turning.timely;
          marked = right.turning.marked;
        };
        current = elim (cases_eq (now / 2048) (w.at / 2048)) [ inl e ↦ ap (λ (b : ℕ). list_at w.chains (2049 + b)) e ∙ right.current | inr other ↦ right.turning.spread (now / 2048) (omega (arith, back, other)) ];
      };
      at = refl;
      same = same;
    })

pub starts : {T : Type 0} (group : T → Option ℕ) (w : Wheel T) → ((s : ℕ) → list_at w.chains s ≡ []) → (t : ℕ) → wheel_due group w t ≡ []
starts {T} group w empty t = elim (cases_eq (t / 2048) (w.at / 2048)) [
  | inl here ↦ due_here group w t here ∙ ap (λ (xs : List T). xs ++ far_due group w t) (ap (items_at group w.generations w.entries.items) (empty (near t))) ∙ ap (items_timed group w.generations w.entries.items (t % 2048)) (empty (far t))
  | inr ahead ↦ due_ahead group w t ahead ∙ ap (items_timed group w.generations w.entries.items (t % 2048)) (empty (far t))
]

pub not_some : {A : Type 0} (o : Option A) → false ≡ is_some o → o ≡ None
not_some None e = refl
not_some (Some x) e = absurd (false≢true e)

-- nothing waits where no list but that of the free places has a place
pub idle_due : {T : Type 0} (group : T → Option ℕ) (w : Wheel T) → ((s : ℕ) → s ≢ 0 → list_at w.chains s ≡ []) → (t : ℕ) → wheel_due group w t ≡ []
idle_due {T} group w none t =
    let near_none : near_due group w t ≡ [] = ap (λ (ps : List ℕ). items_at group w.generations w.entries.items ps) (none (near t) (λ e. omega (arith, e))) in
    let far_none : far_due group w t ≡ [] = ap (λ (ps : List ℕ). items_timed group w.generations w.entries.items (t % 2048) ps) (none (far t) (λ e. omega (arith, e))) in
    elim (cases_eq (t / 2048) (w.at / 2048)) [
      | inl here ↦ due_here group w t here ∙ ap (λ (xs : List T). xs ++ far_due group w t) near_none ∙ far_none
      | inr ahead ↦ due_ahead group w t ahead ∙ far_none
    ]
