-- What is due, after a group of items is cancelled.
use Rattle.std.proofs.Common.{◌≡◌, ℕ, zero, suc, ◌+◌, ◌/◌, ◌%◌, ◌<◌, Bool, true, false, List, [], ◌∷◌, ◌++◌, length, map, get_or, set, refl, sym, ◌∙◌, ap, subst, arith, inl, inr}
use Rattle.std.specs.Prelude.{◌==◌, if◌then◌else◌, Option, Some, None, slice_get, filter, not, ◌&&◌}
use Rattle.std.specs.List.{All, filter_map, cons_option}
use Rattle.std.proofs.lemmas.Bool.{cases_eq, ne_eqb, eqb-false}
use Rattle.std.proofs.lemmas.Bool.Decides.{eqb_tells}
use Rattle.std.proofs.lemmas.List.{length-map, get_or-set_same, get_or-set_other}
use Rattle.std.proofs.lemmas.List.Elements.{filter-append}
use Rattle.std.proofs.lemmas.Option.{get_or_from_slice_get, slice_get_within}
use Rattle.event_queue.specs.declared.wheel.Entry.{Entry}
use Rattle.event_queue.specs.declared.wheel.Wheel.{Wheel}
use Rattle.event_queue.specs.declared.marks.Marks.{Marks}
use Rattle.event_queue.specs.Links.{Places, list_at}
use Rattle.event_queue.specs.Marks.{mark_at}
use Rattle.event_queue.specs.Group.{is_group, is_in}
use Rattle.event_queue.specs.Wheel.{is_current, cleared, cleared_item, IsPast, live_item, live, live_entry, timed_entry, items_at, items_timed, near, far, near_due, far_due, wheel_due, IsPastItem, IsWheel, Cancels}
use Rattle.event_queue.proofs.WheelLemmas.{due_here, due_ahead}

-- a group is cancelled

abbrev keep_option : {X : Type 0} → (X → Bool) → Option X → Option X
keep_option keep None = None
keep_option keep (Some x) = if keep x then Some x else None

abbrev chosen : {X : Type 0} → X → Bool → Option X
chosen x b = if b then Some x else None

filter_map_keep : {X : Type 0} (keep : X → Bool) (f g : ℕ → Option X) (ps : List ℕ) → ((p : ℕ) → f p ≡ keep_option keep (g p)) → filter_map f ps ≡ filter keep (filter_map g ps)
filter_map_keep keep f g [] same = refl
filter_map_keep {X} keep f g (p ∷ ps) same = ap (λ (o : Option X). cons_option o (filter_map f ps)) (same p) ∙ ap (λ (xs : List X). cons_option (keep_option keep (g p)) xs) (filter_map_keep keep f g ps same) ∙ step (g p) (filter_map g ps)
  where
    taken : (b : Bool) (x : X) (xs : List X) → cons_option (if b then Some x else None) (filter keep xs) ≡ (if b then x ∷ filter keep xs else filter keep xs)
    taken true x xs = refl
    taken false x xs = refl

    step : (o : Option X) (xs : List X) → cons_option (keep_option keep o) (filter keep xs) ≡ filter keep (cons_option o xs)
    step None xs = refl
    step (Some x) xs = taken (keep x) x xs

-- a test that fails leaves nothing
and_false : (b : Bool) → b && false ≡ false
and_false true = refl
and_false false = refl

and_true : (b : Bool) → b && true ≡ b
and_true true = refl
and_true false = refl

-- in the next generation, what is current was so and isn't of the group
current_next : (gens : List ℕ) (g n : ℕ) (o : Option ℕ) (generation : ℕ) → g < length gens → n ≡ get_or gens g 0 → IsPast gens generation o → is_current (set gens g (n + 1)) o generation ≡ (is_current gens o generation && not (is_group g o))
current_next gens g n None generation within is past = refl
current_next gens g n (Some h) generation within is past = elim (eqb_tells h g) [
  | inl e ↦ (
      let new : get_or (set gens g (n + 1)) h 0 ≡ n + 1 = ap (λ (k : ℕ). get_or (set gens g (n + 1)) k 0) e.1 ∙ get_or-set_same gens g (n + 1) 0 within in
      let old : get_or gens h 0 ≡ n = ap (λ (k : ℕ). get_or gens k 0) e.1 ∙ sym is in
      let left : get_or (set gens g (n + 1)) h 0 == generation ≡ false = ne_eqb (get_or (set gens g (n + 1)) h 0) generation (λ same. omega (arith, same, new, old, past)) in
      let right : (get_or gens h 0 == generation && not (h == g)) ≡ false = ap (λ (b : Bool). get_or gens h 0 == generation && not b) e.0 ∙ and_false (get_or gens h 0 == generation) in
      left ∙ sym right)
  | inr e ↦ (
      let left : get_or (set gens g (n + 1)) h 0 == generation ≡ get_or gens h 0 == generation = ap (λ (k : ℕ). k == generation) (get_or-set_other gens g h (n + 1) 0 e.1) in
      let right : (get_or gens h 0 == generation && not (h == g)) ≡ get_or gens h 0 == generation = ap (λ (b : Bool). get_or gens h 0 == generation && not b) e.0 ∙ and_true (get_or gens h 0 == generation) in
      left ∙ sym right)
]

-- another group's generations stay
current_other : (gens : List ℕ) (g n : ℕ) (o : Option ℕ) (generation : ℕ) → is_group g o ≡ false → is_current (set gens g n) o generation ≡ is_current gens o generation
current_other gens g n None generation other = refl
current_other gens g n (Some h) generation other = ap (λ (k : ℕ). k == generation) (get_or-set_other gens g h n 0 (eqb-false h g other))

past_next : (gens : List ℕ) (g n : ℕ) (o : Option ℕ) (generation : ℕ) → g < length gens → n ≡ get_or gens g 0 → IsPast gens generation o → IsPast (set gens g (n + 1)) generation o
past_next gens g n None generation within is past = tt
past_next gens g n (Some h) generation within is past = elim (cases_eq h g) [
  | inl e ↦ (
      let new : get_or (set gens g (n + 1)) h 0 ≡ n + 1 = ap (λ (k : ℕ). get_or (set gens g (n + 1)) k 0) e ∙ get_or-set_same gens g (n + 1) 0 within in
      let old : get_or gens h 0 ≡ n = ap (λ (k : ℕ). get_or gens k 0) e ∙ sym is in
      omega (arith, new, old, past))
  | inr other ↦ (let same = get_or-set_other gens g h (n + 1) 0 other in omega (arith, same, past))
]

timed_keeps : {T : Type 0} (group : T → Option ℕ) (g : ℕ) (gens gens' : List ℕ) (e : Entry T) (item : Option T) → live_item group gens' e.generation item ≡ keep_option (λ x. not (is_in group g x)) (live group gens e)
    → (offset : ℕ) → timed_entry group gens' offset (Some (record { time = e.time; generation = e.generation; item = item })) ≡ keep_option (λ x. not (is_in group g x)) (timed_entry group gens offset (Some e))
timed_keeps {T} group g gens gens' e item same offset = by (e.time % 2048 == offset)
  where
    by : (b : Bool) → (if b then live_item group gens' e.generation item else None) ≡ keep_option (λ x. not (is_in group g x)) (if b then live group gens e else None)
    by true = same
    by false = refl

live_next : {T : Type 0} (group : T → Option ℕ) (g n : ℕ) (gens : List ℕ) (generation : ℕ) (item : Option T) → g < length gens → n ≡ get_or gens g 0 → IsPastItem group gens generation item
    → live_item group (set gens g (n + 1)) generation item ≡ keep_option (λ x. not (is_in group g x)) (live_item group gens generation item)
live_next group g n gens generation None within is past = refl
live_next {T} group g n gens generation (Some x) within is past =
    ap (chosen x) (current_next gens g n (group x) generation within is past) ∙ both (is_current gens (group x) generation) (not (is_group g (group x))) refl
  where
    both : (b k : Bool) → k ≡ not (is_group g (group x)) → chosen x (b && k) ≡ keep_option (λ y. not (is_in group g y)) (chosen x b)
    both true k same = ap (chosen x) same
    both false k same = refl

-- a wheel whose entries each show what is left of what they showed
left : {T : Type 0} (group : T → Option ℕ) (g : ℕ) (w v : Wheel T) → IsWheel group w → v.at ≡ w.at → v.chains ≡ w.chains → length v.entries.items ≡ length w.entries.items
    → ((p : ℕ) → live_entry group v.generations (slice_get v.entries.items p) ≡ keep_option (λ x. not (is_in group g x)) (live_entry group w.generations (slice_get w.entries.items p)))
    → ((offset p : ℕ) → timed_entry group v.generations offset (slice_get v.entries.items p) ≡ keep_option (λ x. not (is_in group g x)) (timed_entry group w.generations offset (slice_get w.entries.items p)))
    → All (λ (e : Entry T). IsPastItem group v.generations e.generation e.item) v.entries.items → v.marks ≡ w.marks → Cancels group w g v
left {T} group g w v right at chains long lives timeds timely marks =
    let block : v.at / 2048 ≡ w.at / 2048 = ap (λ (k : ℕ). k / 2048) at in
    let keep : T → Bool = λ x. not (is_in group g x) in
    let near_left : (t : ℕ) → near_due group v t ≡ filter keep (near_due group w t) = λ t.
    ap (λ (c : Places). items_at group v.generations v.entries.items (list_at c (near t))) chains
    ∙ filter_map_keep keep (λ p. live_entry group v.generations (slice_get v.entries.items p)) (λ p. live_entry group w.generations (slice_get w.entries.items p)) (list_at w.chains (near t)) lives in
    let far_left : (t : ℕ) → far_due group v t ≡ filter keep (far_due group w t) = λ t.
    ap (λ (c : Places). items_timed group v.generations v.entries.items (t % 2048) (list_at c (far t))) chains
    ∙ filter_map_keep keep (λ p. timed_entry group v.generations (t % 2048) (slice_get v.entries.items p)) (λ p. timed_entry group w.generations (t % 2048) (slice_get w.entries.items p)) (list_at w.chains (far t)) (timeds (t % 2048)) in
    let kept : (t : ℕ) → wheel_due group v t ≡ filter keep (wheel_due group w t) = λ t. elim (cases_eq (t / 2048) (w.at / 2048)) [
      | inl here ↦ due_here group v t (here ∙ sym block) ∙ ap (λ (xs : List T). xs ++ far_due group v t) (near_left t) ∙ ap (λ (xs : List T). filter keep (near_due group w t) ++ xs) (far_left t)
          ∙ sym (filter-append keep (near_due group w t) (far_due group w t)) ∙ ap (filter keep) (sym (due_here group w t here))
      | inr ahead ↦ due_ahead group v t (λ same. ahead (same ∙ block)) ∙ far_left t ∙ ap (filter keep) (sym (due_ahead group w t ahead))
    ] in
    let total : v.chains.total ≡ w.chains.total = ap (λ (c : Places). c.total) chains in
    record {
      right = record {
        turning = record {
          lists = ap (λ (c : Places). length c.lists) chains ∙ right.turning.lists;
          room = (let room = right.turning.room in omega (arith, room, total, long));
          below = (let low = right.turning.below in omega (arith, low, at));
          spread = λ b low. ap (λ (c : Places). list_at c (2049 + b)) chains ∙ right.turning.spread b (omega (arith, low, block));
          past = λ t low. kept t ∙ ap (filter keep) (right.turning.past t (omega (arith, low, at)));
          timely = timely;
          marked = λ t free. ap (λ (c : Places). list_at c (near t)) chains ∙ right.turning.marked t (ap (λ (m : Marks). mark_at m (t % 2048)) (sym marks) ∙ free);
        };
        current = ap (λ (c : Places). list_at c (far v.at)) chains ∙ ap (λ (b : ℕ). list_at w.chains (2049 + b)) block ∙ right.current;
      };
      at = at;
      kept = kept;
    }

All_at : {X : Type 0} (P : X → Type 0) (xs : List X) (p : ℕ) (x : X) → All P xs → slice_get xs p ≡ Some x → P x
All_at P xs p x all is = subst P (get_or_from_slice_get xs p x x is) (all p x (slice_get_within xs p x is))

-- of one place, whether or not it has an entry
next_live : {T : Type 0} (group : T → Option ℕ) (g n : ℕ) (gens : List ℕ) (o : Option (Entry T)) → g < length gens → n ≡ get_or gens g 0 → ((e : Entry T) → o ≡ Some e → IsPastItem group gens e.generation e.item)
    → live_entry group (set gens g (n + 1)) o ≡ keep_option (λ x. not (is_in group g x)) (live_entry group gens o)
next_live group g n gens None within is past = refl
next_live group g n gens (Some e) within is past = live_next group g n gens e.generation e.item within is (past e refl)

next_timed : {T : Type 0} (group : T → Option ℕ) (g n : ℕ) (gens : List ℕ) (o : Option (Entry T)) → g < length gens → n ≡ get_or gens g 0 → ((e : Entry T) → o ≡ Some e → IsPastItem group gens e.generation e.item)
    → (offset : ℕ) → timed_entry group (set gens g (n + 1)) offset o ≡ keep_option (λ x. not (is_in group g x)) (timed_entry group gens offset o)
next_timed group g n gens None within is past offset = refl
next_timed group g n gens (Some e) within is past offset = timed_keeps group g gens (set gens g (n + 1)) e e.item (live_next group g n gens e.generation e.item within is (past e refl)) offset

past_item_next : {T : Type 0} (group : T → Option ℕ) (g n : ℕ) (gens : List ℕ) (generation : ℕ) (item : Option T) → g < length gens → n ≡ get_or gens g 0 → IsPastItem group gens generation item → IsPastItem group (set gens g (n + 1)) generation item
past_item_next group g n gens generation None within is past = tt
past_item_next group g n gens generation (Some x) within is past = past_next gens g n (group x) generation within is past

-- the next generation of a group
pub cancels_next : {T : Type 0} (group : T → Option ℕ) (g n : ℕ) (w v : Wheel T) → IsWheel group w → g < length w.generations → n ≡ get_or w.generations g 0
    → v.at ≡ w.at → v.chains ≡ w.chains → v.entries.items ≡ w.entries.items → v.generations ≡ set w.generations g (n + 1) → v.marks ≡ w.marks → Cancels group w g v
cancels_next {T} group g n w v right within is at chains entries generations marks =
    let gens : List ℕ = w.generations in
    let past : (p : ℕ) (e : Entry T) → slice_get w.entries.items p ≡ Some e → IsPastItem group gens e.generation e.item =
    λ p e. All_at (λ (x : Entry T). IsPastItem group gens x.generation x.item) w.entries.items p e right.turning.timely in
    left group g w v right at chains (ap (λ (es : List (Entry T)). length es) entries)
    (λ p. ap (λ (gs : List ℕ). live_entry group gs (slice_get v.entries.items p)) generations ∙ ap (λ (es : List (Entry T)). live_entry group (set gens g (n + 1)) (slice_get es p)) entries
    ∙ next_live group g n gens (slice_get w.entries.items p) within is (past p))
    (λ offset p. ap (λ (gs : List ℕ). timed_entry group gs offset (slice_get v.entries.items p)) generations ∙ ap (λ (es : List (Entry T)). timed_entry group (set gens g (n + 1)) offset (slice_get es p)) entries
    ∙ next_timed group g n gens (slice_get w.entries.items p) within is (past p) offset)
    (subst (λ (gs : List ℕ). All (λ (e : Entry T). IsPastItem group gs e.generation e.item) v.entries.items) (sym generations)
    (subst (λ (es : List (Entry T)). All (λ (e : Entry T). IsPastItem group (set gens g (n + 1)) e.generation e.item) es) (sym entries)
    (λ k d low. past_item_next group g n gens (get_or w.entries.items k d).generation (get_or w.entries.items k d).item within is (right.turning.timely k d low)))) marks

-- the generations of a group begin anew, after its items were cleared

live_cleared : {T : Type 0} (group : T → Option ℕ) (g : ℕ) (gens : List ℕ) (generation : ℕ) (item : Option T)
    → live_item group (set gens g 0) generation (cleared_item group g item) ≡ keep_option (λ x. not (is_in group g x)) (live_item group gens generation item)
live_cleared group g gens generation None = refl
live_cleared {T} group g gens generation (Some x) = by (is_group g (group x)) refl
  where
    keep : T → Bool
    keep y = not (is_in group g y)

    dropped : (c : Bool) → keep x ≡ false → chosen x false ≡ keep_option keep (chosen x c)
    dropped true e = ap (chosen x) (sym e)
    dropped false e = refl

    stays : (c : Bool) → keep x ≡ true → chosen x c ≡ keep_option keep (chosen x c)
    stays true e = ap (chosen x) (sym e)
    stays false e = refl

    by : (b : Bool) → is_group g (group x) ≡ b → live_item group (set gens g 0) generation (if b then None else Some x) ≡ keep_option keep (chosen x (is_current gens (group x) generation))
    by true is = dropped (is_current gens (group x) generation) (ap (λ (b : Bool). not b) is)
    by false is = ap (chosen x) (current_other gens g 0 (group x) generation is) ∙ stays (is_current gens (group x) generation) (ap (λ (b : Bool). not b) is)

abbrev cleared_entry : {T : Type 0} → (T → Option ℕ) → ℕ → Option (Entry T) → Option (Entry T)
cleared_entry group g None = None
cleared_entry group g (Some e) = Some (cleared group g e)

slice_get-cleared : {T : Type 0} (group : T → Option ℕ) (g : ℕ) (es : List (Entry T)) (p : ℕ) → slice_get (map (cleared group g) es) p ≡ cleared_entry group g (slice_get es p)
slice_get-cleared group g [] p = refl
slice_get-cleared group g (e ∷ es) zero = refl
slice_get-cleared group g (e ∷ es) (suc p) = slice_get-cleared group g es p

anew_live : {T : Type 0} (group : T → Option ℕ) (g : ℕ) (gens : List ℕ) (o : Option (Entry T)) → live_entry group (set gens g 0) (cleared_entry group g o) ≡ keep_option (λ x. not (is_in group g x)) (live_entry group gens o)
anew_live group g gens None = refl
anew_live group g gens (Some e) = live_cleared group g gens e.generation e.item

anew_timed : {T : Type 0} (group : T → Option ℕ) (g : ℕ) (gens : List ℕ) (o : Option (Entry T)) (offset : ℕ)
    → timed_entry group (set gens g 0) offset (cleared_entry group g o) ≡ keep_option (λ x. not (is_in group g x)) (timed_entry group gens offset o)
anew_timed group g gens None offset = refl
anew_timed group g gens (Some e) offset = timed_keeps group g gens (set gens g 0) e (cleared_item group g e.item) (live_cleared group g gens e.generation e.item) offset

past_other : (gens : List ℕ) (g n : ℕ) (o : Option ℕ) (generation : ℕ) → is_group g o ≡ false → IsPast gens generation o → IsPast (set gens g n) generation o
past_other gens g n None generation other past = tt
past_other gens g n (Some h) generation other past = let same = get_or-set_other gens g h n 0 (eqb-false h g other) in omega (arith, same, past)

past_cleared : {T : Type 0} (group : T → Option ℕ) (g : ℕ) (gens : List ℕ) (generation : ℕ) (item : Option T) → IsPastItem group gens generation item → IsPastItem group (set gens g 0) generation (cleared_item group g item)
past_cleared group g gens generation None past = tt
past_cleared {T} group g gens generation (Some x) past = by (is_group g (group x)) refl
  where
    by : (b : Bool) → is_group g (group x) ≡ b → IsPastItem group (set gens g 0) generation (if b then None else Some x)
    by true is = tt
    by false is = past_other gens g 0 (group x) generation is past

All_map : {X Y : Type 0} (P : X → Type 0) (Q : Y → Type 0) (f : X → Y) (xs : List X) → ((x : X) → P x → Q (f x)) → All P xs → All Q (map f xs)
All_map P Q f [] step all k d low = absurd (omega (arith, low))
All_map P Q f (x ∷ xs) step all zero d low = step x (all 0 x (omega arith))
All_map P Q f (x ∷ xs) step all (suc k) d low = All_map P Q f xs step (λ j e lower. all (suc j) e (omega (arith, lower))) k d (omega (arith, low))

pub cancels_anew : {T : Type 0} (group : T → Option ℕ) (g : ℕ) (w v : Wheel T) → IsWheel group w
    → v.at ≡ w.at → v.chains ≡ w.chains → v.entries.items ≡ map (cleared group g) w.entries.items → v.generations ≡ set w.generations g 0 → v.marks ≡ w.marks → Cancels group w g v
cancels_anew {T} group g w v right at chains entries generations marks =
    let gens : List ℕ = w.generations in
    left group g w v right at chains (ap (λ (es : List (Entry T)). length es) entries ∙ length-map w.entries.items (cleared group g))
    (λ p. ap (λ (gs : List ℕ). live_entry group gs (slice_get v.entries.items p)) generations
    ∙ ap (live_entry group (set gens g 0)) (ap (λ (es : List (Entry T)). slice_get es p) entries ∙ slice_get-cleared group g w.entries.items p) ∙ anew_live group g gens (slice_get w.entries.items p))
    (λ offset p. ap (λ (gs : List ℕ). timed_entry group gs offset (slice_get v.entries.items p)) generations
    ∙ ap (timed_entry group (set gens g 0) offset) (ap (λ (es : List (Entry T)). slice_get es p) entries ∙ slice_get-cleared group g w.entries.items p) ∙ anew_timed group g gens (slice_get w.entries.items p) offset)
    (subst (λ (gs : List ℕ). All (λ (e : Entry T). IsPastItem group gs e.generation e.item) v.entries.items) (sym generations)
    (subst (λ (es : List (Entry T)). All (λ (e : Entry T). IsPastItem group (set gens g 0) e.generation e.item) es) (sym entries)
    (All_map (λ (e : Entry T). IsPastItem group gens e.generation e.item) (λ (e : Entry T). IsPastItem group (set gens g 0) e.generation e.item) (cleared group g) w.entries.items
    (λ e past. past_cleared group g gens e.generation e.item past) right.turning.timely))) marks

-- an entry that was read and written without the item of the group
pub cleared_written : {T : Type 0} (group : T → Option ℕ) (g : ℕ) (es : List (Entry T)) (i : ℕ) (e : Entry T) (item : Option T) → e ≡ get_or es i e → item ≡ cleared_item group g (get_or es i e).item
    → record { time = (get_or es i e).time; generation = (get_or es i e).generation; item = item } ≡ cleared group g e
cleared_written {T} group g es i e item is cleared_is =
    ap (λ (o : Option T). record { time = (get_or es i e).time; generation = (get_or es i e).generation; item = o }) cleared_is ∙ ap (λ (x : Entry T). cleared group g x) (sym is)
