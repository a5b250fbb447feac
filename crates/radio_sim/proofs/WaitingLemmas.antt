-- What waits, as a list of events: scheduling, cancelling and coming, by what the queue says of its items.
use Rattle.std.proofs.Common.{◌≡◌, ◌≢◌, ℕ, ◌<◌, ◌≤◌, Bool, true, false, List, [], ◌∷◌, ◌++◌, map, refl, sym, ◌∙◌, ap, subst, arith, rules, append_assoc, inl, inr}
use Rattle.std.specs.Prelude.{if◌then◌else◌, filter, length, Some, None}
use Rattle.std.specs.List.{cons_option}
use Rattle.std.proofs.lemmas.Bool.{cases_eq, cases_lt, le-leb, lt-leb}
use Rattle.std.proofs.lemmas.List.{append-nil}
use Rattle.std.proofs.lemmas.List.Elements.{filter_map-append, filter-append}
use Rattle.event_queue.specs.declared.queue.Timed.{Timed}
use Rattle.event_queue.specs.Agenda.{Agenda, inserted, scheduled, scheduled_all, is_other, item_at, due_at, Adds, AddsAll, Comes}
use Rattle.event_queue.proofs.AgendaLemmas.{due_at-own, due_at-other, scheduled_all_late}
use Rattle.arrayvec.specs.ArrayVec.{ArrayVec}
use Rattle.radio_sim.specs.declared.shared_event.SharedEvent.{SharedEvent}
use Rattle.radio_sim.specs.declared.shared_event.SharedEvent.TheVariants as event
use Rattle.radio_sim.specs.declared.waiting.Delivery.{Delivery}
use Rattle.radio_sim.specs.declared.waiting.Waiting.{Waiting}
use Rattle.radio_sim.specs.declared.waiting.Waiting.TheVariants as waiting
use Rattle.radio_sim.specs.declared.wire.Wire.{Wire}
use Rattle.radio_sim.specs.declared.wire.Sending.{Sending}
use Rattle.radio_sim.specs.Events.{group_of}
use Rattle.radio_sim.specs.Flight.{FirstAndRest, first_and_rest}
use Rattle.radio_sim.specs.Waiting.{delivery_event, first_event, later_deliveries, events_of, waiting_group, all_at, awaited, radio_agenda, IsOnTime}
use Rattle.radio_sim.specs.Wires.{loses, delivered, carried_by}

-- an item goes behind all that come by its time
insert_past : {T : Type 0} (x y : Timed T) (ys : List (Timed T)) → y.time ≤ x.time → inserted x (y ∷ ys) ≡ y ∷ inserted x ys
insert_past {T} x y ys past =
    let choice : Bool → List (Timed T) = λ b. if b then y ∷ inserted x ys else x ∷ y ∷ ys in
    ap choice (le-leb y.time x.time past)

insert_before : {T : Type 0} (x y : Timed T) (ys : List (Timed T)) → x.time < y.time → inserted x (y ∷ ys) ≡ x ∷ y ∷ ys
insert_before {T} x y ys ahead =
    let choice : Bool → List (Timed T) = λ b. if b then y ∷ inserted x ys else x ∷ y ∷ ys in
    ap choice (lt-leb y.time x.time ahead)

-- events put one after another, at one time
abbrev put_each : ℕ → List SharedEvent → List (Timed SharedEvent) → List (Timed SharedEvent)
put_each t [] xs = xs
put_each t (e ∷ es) xs = put_each t es (inserted (record { time = t; item = e }) xs)

-- all that comes by their time stays before them
insert_behind : (t : ℕ) (e : SharedEvent) (u : ℕ) (fs : List SharedEvent) (xs : List (Timed SharedEvent)) → u ≤ t
    → inserted (record { time = t; item = e }) (all_at u fs ++ xs) ≡ all_at u fs ++ inserted (record { time = t; item = e }) xs
insert_behind t e u [] xs past = refl
insert_behind t e u (f ∷ fs) xs past =
    insert_past (record { time = t; item = e }) (record { time = u; item = f }) (all_at u fs ++ xs) past
    ∙ ap (λ (ys : List (Timed SharedEvent)). record { time = u; item = f } ∷ ys) (insert_behind t e u fs xs past)

put_behind : (t : ℕ) (es : List SharedEvent) (u : ℕ) (fs : List SharedEvent) (xs : List (Timed SharedEvent)) → u ≤ t
    → put_each t es (all_at u fs ++ xs) ≡ all_at u fs ++ put_each t es xs
put_behind t [] u fs xs past = refl
put_behind t (e ∷ es) u fs xs past =
    ap (put_each t es) (insert_behind t e u fs xs past) ∙ put_behind t es u fs (inserted (record { time = t; item = e }) xs) past

-- before something later they stand in their order
put_before : (t : ℕ) (es : List SharedEvent) (h : Timed SharedEvent) (xs : List (Timed SharedEvent)) → t < h.time → put_each t es (h ∷ xs) ≡ all_at t es ++ h ∷ xs
put_before t [] h xs ahead = refl
put_before t (e ∷ es) h xs ahead =
    ap (put_each t es) (insert_before (record { time = t; item = e }) h xs ahead)
    ∙ put_behind t es t (e ∷ []) (h ∷ xs) (omega arith)
    ∙ ap (λ (ys : List (Timed SharedEvent)). record { time = t; item = e } ∷ ys) (put_before t es h xs ahead)

put_last : (t : ℕ) (es : List SharedEvent) → put_each t es [] ≡ all_at t es ++ []
put_last t [] = refl
put_last t (e ∷ es) =
    put_behind t es t (e ∷ []) [] (omega arith) ∙ ap (λ (ys : List (Timed SharedEvent)). record { time = t; item = e } ∷ ys) (put_last t es)

-- what waits goes behind all that comes by its time, with all its events
awaited_more : (t : ℕ) (w : Waiting) (xs : List (Timed Waiting)) → awaited (inserted (record { time = t; item = w }) xs) ≡ put_each t (events_of w) (awaited xs)
awaited_more t w [] = sym (put_last t (events_of w))
awaited_more t w (y ∷ ys) = elim (cases_lt t y.time) [
  | inl ahead ↦
      ap awaited (insert_before (record { time = t; item = w }) y ys ahead)
      ∙ sym (put_before t (events_of w) (record { time = y.time; item = first_event y.item }) (all_at y.time (map delivery_event (later_deliveries y.item)) ++ awaited ys) ahead)
  | inr past ↦
      ap awaited (insert_past (record { time = t; item = w }) y ys past)
      ∙ ap (λ (zs : List (Timed SharedEvent)). all_at y.time (events_of y.item) ++ zs) (awaited_more t w ys)
      ∙ sym (put_behind t (events_of w) y.time (events_of y.item) (awaited ys) past)
]

scheduled_each : (q : Agenda SharedEvent) (t : ℕ) (es : List SharedEvent) → t ≤ q.until → scheduled_all q t es ≡ record q { items = put_each t es q.items }
scheduled_each q t [] low = refl
scheduled_each q t (e ∷ es) low =
    let choice : Bool → Agenda SharedEvent = λ b. if b then record q { items = inserted (record { time = t; item = e }) q.items } else q in
    ap (λ (p : Agenda SharedEvent). scheduled_all p t es) (ap choice (le-leb t q.until low))
    ∙ scheduled_each (record q { items = inserted (record { time = t; item = e }) q.items }) t es low

kept_items : (q : Agenda Waiting) (t : ℕ) (w : Waiting) → t ≤ q.until → scheduled q t w ≡ record q { items = inserted (record { time = t; item = w }) q.items }
kept_items q t w low =
    let choice : Bool → Agenda Waiting = λ b. if b then record q { items = inserted (record { time = t; item = w }) q.items } else q in
    ap choice (le-leb t q.until low)

not_kept : (q : Agenda Waiting) (t : ℕ) (w : Waiting) → q.until < t → scheduled q t w ≡ q
not_kept q t w after =
    let choice : Bool → Agenda Waiting = λ b. if b then record q { items = inserted (record { time = t; item = w }) q.items } else q in
    ap choice (lt-leb t q.until after)

pub schedules_events : (coming : List Delivery) (q new : Agenda Waiting) (t : ℕ) (w : Waiting) → q.now ≤ t → new ≡ scheduled q t w
    → radio_agenda coming new ≡ scheduled_all (radio_agenda coming q) t (events_of w)
schedules_events coming q new t w ahead is = ap (radio_agenda coming) is ∙ elim (cases_lt q.until t) [
  | inl after ↦ ap (radio_agenda coming) (not_kept q t w after) ∙ sym (scheduled_all_late (radio_agenda coming q) t (events_of w) after)
  | inr low ↦ (
      let with_items : List (Timed SharedEvent) → Agenda SharedEvent = λ xs. record { until = q.until; now = q.now; items = xs } in
      ap (radio_agenda coming) (kept_items q t w low)
      ∙ ap (λ (xs : List (Timed SharedEvent)). with_items (all_at q.now (map delivery_event coming) ++ xs)) (awaited_more t w q.items)
      ∙ ap with_items (sym (put_behind t (events_of w) q.now (map delivery_event coming) (awaited q.items) ahead))
      ∙ sym (scheduled_each (radio_agenda coming q) t (events_of w) low))
]

pub schedules_one : (coming : List Delivery) (q new : Agenda Waiting) (t : ℕ) (w : Waiting) (e : SharedEvent) → q.now ≤ t → events_of w ≡ e ∷ [] → new ≡ scheduled q t w
    → radio_agenda coming new ≡ scheduled (radio_agenda coming q) t e
schedules_one coming q new t w e ahead one is = schedules_events coming q new t w ahead is ∙ ap (scheduled_all (radio_agenda coming q) t) one

-- what comes at one time
abbrev all_events : List Waiting → List SharedEvent
all_events [] = []
all_events (w ∷ ws) = events_of w ++ all_events ws

all_events_push : (ws : List Waiting) (w : Waiting) → all_events (ws ++ w ∷ []) ≡ all_events ws ++ events_of w
all_events_push [] w = append-nil (events_of w)
all_events_push (v ∷ ws) w = ap (λ (es : List SharedEvent). events_of v ++ es) (all_events_push ws w) ∙ sym (append_assoc (events_of v) (all_events ws) (events_of w))

due_own : (t u : ℕ) (es : List SharedEvent) → u ≡ t → due_at t (all_at u es) ≡ es
due_own t u [] own = refl
due_own t u (e ∷ es) own = due_at-own (record { time = u; item = e }) (all_at u es) t own ∙ ap (λ (ds : List SharedEvent). e ∷ ds) (due_own t u es own)

due_other : (t u : ℕ) (es : List SharedEvent) → u ≢ t → due_at t (all_at u es) ≡ []
due_other t u [] other = refl
due_other t u (e ∷ es) other = due_at-other (record { time = u; item = e }) (all_at u es) t other ∙ due_other t u es other

due_awaited : (t : ℕ) (xs : List (Timed Waiting)) → due_at t (awaited xs) ≡ all_events (due_at t xs)
due_awaited t [] = refl
due_awaited t (x ∷ xs) = filter_map-append (item_at t) (all_at x.time (events_of x.item)) (awaited xs) ∙ elim (cases_eq x.time t) [
  | inl own ↦
      ap (λ (es : List SharedEvent). es ++ due_at t (awaited xs)) (due_own t x.time (events_of x.item) own)
      ∙ ap (λ (es : List SharedEvent). events_of x.item ++ es) (due_awaited t xs) ∙ ap all_events (sym (due_at-own x xs t own))
  | inr other ↦
      ap (λ (es : List SharedEvent). es ++ due_at t (awaited xs)) (due_other t x.time (events_of x.item) other)
      ∙ due_awaited t xs ∙ ap all_events (sym (due_at-other x xs t other))
]

due_items : (coming : List Delivery) (q : Agenda Waiting) (t : ℕ) → due_at t (radio_agenda coming q).items ≡ due_at t (all_at q.now (map delivery_event coming)) ++ all_events (due_at t q.items)
due_items coming q t =
    filter_map-append (item_at t) (all_at q.now (map delivery_event coming)) (awaited q.items)
    ∙ ap (λ (es : List SharedEvent). due_at t (all_at q.now (map delivery_event coming)) ++ es) (due_awaited t q.items)

pub adds_events : (coming : List Delivery) (q new : Agenda Waiting) (t : ℕ) (w : Waiting) → new.now ≡ q.now → Adds q t w new → AddsAll (radio_agenda coming q) t (events_of w) (radio_agenda coming new)
adds_events coming q new t w now adds =
    let front : ℕ → ℕ → List SharedEvent = λ n s. due_at s (all_at n (map delivery_event coming)) in
    record {
      last = λ low.
          due_items coming new t ∙ ap (λ (n : ℕ). front n t ++ all_events (due_at t new.items)) now
          ∙ ap (λ (ws : List Waiting). front q.now t ++ all_events ws) (adds.last low) ∙ ap (λ (es : List SharedEvent). front q.now t ++ es) (all_events_push (due_at t q.items) w)
          ∙ sym (append_assoc (front q.now t) (all_events (due_at t q.items)) (events_of w)) ∙ ap (λ (es : List SharedEvent). es ++ events_of w) (sym (due_items coming q t));
      others = λ s other.
          due_items coming new s ∙ ap (λ (n : ℕ). front n s ++ all_events (due_at s new.items)) now
          ∙ ap (λ (ws : List Waiting). front q.now s ++ all_events ws) (adds.others s other) ∙ sym (due_items coming q s);
    }

pub adds_one : (coming : List Delivery) (q new : Agenda Waiting) (t : ℕ) (w : Waiting) (e : SharedEvent) → new.now ≡ q.now → events_of w ≡ e ∷ [] → Adds q t w new → Adds (radio_agenda coming q) t e (radio_agenda coming new)
adds_one coming q new t w e now one adds =
    let all = subst (λ (es : List SharedEvent). AddsAll (radio_agenda coming q) t es (radio_agenda coming new)) one (adds_events coming q new t w now adds) in
    record { last = all.last; others = all.others }

pub adds_none : (q : Agenda SharedEvent) (t : ℕ) → AddsAll q t [] q
adds_none q t = record { last = λ low. sym (append-nil (due_at t q.items)); others = λ s other. refl }

-- nothing in the queue comes early
until_kept : (q : Agenda Waiting) (t : ℕ) (w : Waiting) → (scheduled q t w).until ≡ q.until
until_kept q t w = elim (cases_lt q.until t) [
  | inl after ↦ ap (λ (p : Agenda Waiting). p.until) (not_kept q t w after)
  | inr low ↦ ap (λ (p : Agenda Waiting). p.until) (kept_items q t w low)
]

pub ahead_more : (q new : Agenda Waiting) (t : ℕ) (w : Waiting) → q.now ≤ t → new.now ≡ q.now → new ≡ scheduled q t w → Adds q t w new → IsOnTime q → IsOnTime new
ahead_more q new t w later now is adds ahead =
    let until : new.until ≡ q.until = ap (λ (p : Agenda Waiting). p.until) is ∙ until_kept q t w in
    let within = ahead.in_time in
    record {
      in_time = omega (arith, within, now, until);
      none_before = λ s low. adds.others s (λ same. omega (arith, same, low, now, later)) ∙ ahead.none_before s (omega (arith, low, now));
    }

pub ahead_come : (q new : Agenda Waiting) (first : Timed Waiting) → Comes q first new → IsOnTime new
ahead_come q new first comes =
    let now = comes.now in
    let until = comes.until in
    let in_time = comes.in_time in
    record {
      in_time = omega (arith, now, until, in_time);
      none_before = λ s low. comes.others s (λ same. omega (arith, same, low, now)) ∙ comes.none_before s (omega (arith, low, now));
    }

due_filtered : (keep : Timed Waiting → Bool) (t : ℕ) (xs : List (Timed Waiting)) → due_at t xs ≡ [] → due_at t (filter keep xs) ≡ []
due_filtered keep t [] none_due = refl
due_filtered keep t (x ∷ xs) none_due = elim (cases_eq x.time t) [
  | inl own ↦ absurd (nothing (due_at t xs) (sym (due_at-own x xs t own) ∙ none_due))
  | inr other ↦ (
      let rest = due_filtered keep t xs (sym (due_at-other x xs t other) ∙ none_due) in
      by other rest (keep x))
]
  where
    nothing : (ws : List Waiting) → x.item ∷ ws ≡ [] → ⊥
    nothing ws same = search rules

    by : x.time ≢ t → due_at t (filter keep xs) ≡ [] → (b : Bool) → due_at t (if b then x ∷ filter keep xs else filter keep xs) ≡ []
    by other rest true = due_at-other x (filter keep xs) t other ∙ rest
    by other rest false = rest

pub ahead_cancelled : (q : Agenda Waiting) (keep : Timed Waiting → Bool) → IsOnTime q → IsOnTime (record q { items = filter keep q.items })
ahead_cancelled q keep ahead = record { in_time = ahead.in_time; none_before = λ s low. due_filtered keep s q.items (ahead.none_before s low) }

-- what comes
comes_first : (old new : Agenda SharedEvent) (t : ℕ) (e : SharedEvent) → old.items ≡ record { time = t; item = e } ∷ new.items → new.now ≡ t → new.until ≡ old.until → old.now ≤ t → t ≤ old.until
    → ((s : ℕ) → s < t → due_at s old.items ≡ []) → Comes old (record { time = t; item = e }) new
comes_first old new t e items now until ahead in_time before = record {
  items = items;
  now = now;
  until = until;
  ahead = ahead;
  in_time = in_time;
  none_before = before;
  first_due = ap (due_at t) items ∙ due_at-own (record { time = t; item = e }) new.items t refl;
  others = λ s other. sym (ap (due_at s) items ∙ due_at-other (record { time = t; item = e }) new.items s (λ same. other (sym same)));
}

pub comes_left : (coming rest : List Delivery) (d : Delivery) (q : Agenda Waiting) (t : ℕ) (e : SharedEvent) → coming ≡ d ∷ rest → t ≡ q.now → e ≡ delivery_event d → IsOnTime q
    → Comes (radio_agenda coming q) (record { time = t; item = e }) (radio_agenda rest q)
comes_left coming rest d q t e is now event_is ahead =
    let within = ahead.in_time in
    let here : (radio_agenda coming q).items ≡ record { time = t; item = e } ∷ (radio_agenda rest q).items =
    ap (λ (ds : List Delivery). all_at q.now (map delivery_event ds) ++ awaited q.items) is
    ∙ ap (λ (n : ℕ). record { time = n; item = delivery_event d } ∷ (radio_agenda rest q).items) (sym now)
    ∙ ap (λ (v : SharedEvent). record { time = t; item = v } ∷ (radio_agenda rest q).items) (sym event_is) in
    comes_first (radio_agenda coming q) (radio_agenda rest q) t e here (sym now) refl (omega (arith, now)) (omega (arith, now, within))
    (λ s low. due_items coming q s
    ∙ ap (λ (es : List SharedEvent). es ++ all_events (due_at s q.items)) (due_other s q.now (map delivery_event coming) (λ same. omega (arith, same, low, now)))
    ∙ ap all_events (ahead.none_before s (omega (arith, low, now))))

pub comes_next : (coming rest : List Delivery) (q new : Agenda Waiting) (first : Timed Waiting) (e : SharedEvent) → coming ≡ [] → Comes q first new → e ≡ first_event first.item → rest ≡ later_deliveries first.item
    → Comes (radio_agenda coming q) (record { time = first.time; item = e }) (radio_agenda rest new)
comes_next coming rest q new first e none_left comes event_is rest_is =
    let t = first.time in
    let w = first.item in
    let now = comes.now in
    let here : (radio_agenda coming q).items ≡ record { time = t; item = e } ∷ (radio_agenda rest new).items =
    ap (λ (ds : List Delivery). all_at q.now (map delivery_event ds) ++ awaited q.items) none_left ∙ ap awaited comes.items
    ∙ ap (λ (n : ℕ). record { time = t; item = first_event w } ∷ (all_at n (map delivery_event (later_deliveries w)) ++ awaited new.items)) (sym now)
    ∙ ap (λ (ds : List Delivery). record { time = t; item = first_event w } ∷ (all_at new.now (map delivery_event ds) ++ awaited new.items)) (sym rest_is)
    ∙ ap (λ (v : SharedEvent). record { time = t; item = v } ∷ (radio_agenda rest new).items) (sym event_is) in
    comes_first (radio_agenda coming q) (radio_agenda rest new) t e here now comes.until comes.ahead comes.in_time
    (λ s low. due_items coming q s ∙ ap (λ (ds : List Delivery). due_at s (all_at q.now (map delivery_event ds)) ++ all_events (due_at s q.items)) none_left ∙ ap all_events (comes.none_before s low))

pub none_waits : (coming : List Delivery) (q : Agenda Waiting) (until : ℕ) → coming ≡ [] → q ≡ record { until = until; now = 0; items = [] } → radio_agenda coming q ≡ record { until = until; now = 0; items = [] }
none_waits coming q until none_left empty = ap (λ (ds : List Delivery). radio_agenda ds q) none_left ∙ ap (radio_agenda []) empty

pub none_awaited : (coming : List Delivery) (q : Agenda Waiting) → coming ≡ [] → q.items ≡ [] → (radio_agenda coming q).items ≡ []
none_awaited coming q none_left none_waits =
    ap (λ (ds : List Delivery). all_at q.now (map delivery_event ds) ++ awaited q.items) none_left ∙ ap awaited none_waits

-- deliveries are in no group
others_stay : (g t : ℕ) (ds : List Delivery) → filter (is_other group_of g) (all_at t (map delivery_event ds)) ≡ all_at t (map delivery_event ds)
others_stay g t [] = refl
others_stay g t (d ∷ ds) = ap (λ (xs : List (Timed SharedEvent)). record { time = t; item = delivery_event d } ∷ xs) (others_stay g t ds)

one_cancelled : (g : ℕ) (x : Timed Waiting) → filter (is_other group_of g) (all_at x.time (events_of x.item)) ≡ (if is_other waiting_group g x then all_at x.time (events_of x.item) else [])
one_cancelled g x = by x.time x.item
  where
    by : (t : ℕ) (w : Waiting) → filter (is_other group_of g) (all_at t (events_of w)) ≡ (if is_other waiting_group g (record { time = t; item = w }) then all_at t (events_of w) else [])
    by t (waiting.Planned line) = refl
    by t (waiting.Period node handler) = refl
    by t (waiting.Fire node) = refl
    by t (waiting.Expire node) = refl
    by t (waiting.Pump node) = refl
    by t (waiting.Due node ctx inv value) = refl
    by t (waiting.Flight f) = ap (λ (xs : List (Timed SharedEvent)). record { time = t; item = delivery_event f.first } ∷ xs) (others_stay g t f.rest)

awaited_cancelled : (g : ℕ) (xs : List (Timed Waiting)) → awaited (filter (is_other waiting_group g) xs) ≡ filter (is_other group_of g) (awaited xs)
awaited_cancelled g [] = refl
awaited_cancelled g (x ∷ xs) =
    by (is_other waiting_group g x)
    ∙ ap (λ (ys : List (Timed SharedEvent)). (if is_other waiting_group g x then all_at x.time (events_of x.item) else []) ++ ys) (awaited_cancelled g xs)
    ∙ ap (λ (ys : List (Timed SharedEvent)). ys ++ filter (is_other group_of g) (awaited xs)) (sym (one_cancelled g x))
    ∙ sym (filter-append (is_other group_of g) (all_at x.time (events_of x.item)) (awaited xs))
  where
    by : (b : Bool) → awaited (if b then x ∷ filter (is_other waiting_group g) xs else filter (is_other waiting_group g) xs)
        ≡ (if b then all_at x.time (events_of x.item) else []) ++ awaited (filter (is_other waiting_group g) xs)
    by true = refl
    by false = refl

pub cancels_events : (coming : List Delivery) (q new : Agenda Waiting) (g : ℕ) → new ≡ record q { items = filter (is_other waiting_group g) q.items }
    → radio_agenda coming new ≡ record (radio_agenda coming q) { items = filter (is_other group_of g) (radio_agenda coming q).items }
cancels_events coming q new g is =
    let with_items : List (Timed SharedEvent) → Agenda SharedEvent = λ xs. record { until = q.until; now = q.now; items = xs } in
    let front = all_at q.now (map delivery_event coming) in
    ap (radio_agenda coming) is
    ∙ ap (λ (xs : List (Timed SharedEvent)). with_items (front ++ xs)) (awaited_cancelled g q.items)
    ∙ ap (λ (xs : List (Timed SharedEvent)). with_items (xs ++ filter (is_other group_of g) (awaited q.items))) (sym (others_stay g q.now coming))
    ∙ ap with_items (sym (filter-append (is_other group_of g) front (awaited q.items)))

-- what the links deliver, as events
pub deliveries_events : (s : Sending) (bytes : ArrayVec ℕ) (ws : List Wire) → map delivery_event (carried_by s bytes ws) ≡ delivered s bytes ws
deliveries_events s bytes [] = refl
deliveries_events s bytes (w ∷ ws) = by (loses w)
    ∙ ap (cons_option (if loses w then None else Some (event.Deliver w.link s.number bytes))) (deliveries_events s bytes ws)
  where
    by : (b : Bool) → map delivery_event (cons_option (if b then None else Some (record { link = w.link; number = s.number; bytes = bytes })) (carried_by s bytes ws))
        ≡ cons_option (if b then None else Some (event.Deliver w.link s.number bytes)) (map delivery_event (carried_by s bytes ws))
    by true = refl
    by false = refl

pub none_long : (ds : List Delivery) → length ds ≡ 0 → ds ≡ []
none_long [] empty = refl
none_long (d ∷ ds) empty = cc

-- deliveries in their order are the deliveries
pub first_and_rest_list : (ds : List Delivery) → ds ≢ [] → ds ≡ (first_and_rest ds).first ∷ (first_and_rest ds).rest
first_and_rest_list [] some = absurd (some refl)
first_and_rest_list (d ∷ ds) some = refl

first_and_rest_events : (ds : List Delivery) → ds ≢ [] → events_of (waiting.Flight (first_and_rest ds)) ≡ map delivery_event ds
first_and_rest_events ds some = ap (map delivery_event) (sym (first_and_rest_list ds some))

pub delivered_none : (s : Sending) (bytes : ArrayVec ℕ) (ws : List Wire) (none carried : List Delivery) → none ≡ [] → carried ≡ none ++ carried_by s bytes ws → carried ≡ [] → delivered s bytes ws ≡ []
delivered_none s bytes ws none carried start is empty =
    sym (deliveries_events s bytes ws) ∙ ap (map delivery_event) (sym (is ∙ ap (λ (ds : List Delivery). ds ++ carried_by s bytes ws) start) ∙ empty)

pub delivered_flight : (s : Sending) (bytes : ArrayVec ℕ) (ws : List Wire) (none carried : List Delivery) (f : FirstAndRest) → none ≡ [] → carried ≡ none ++ carried_by s bytes ws → carried ≢ [] → f ≡ first_and_rest carried
    → events_of (waiting.Flight f) ≡ delivered s bytes ws
delivered_flight s bytes ws none carried f start is some flight =
    ap (λ (i : FirstAndRest). events_of (waiting.Flight i)) flight
    ∙ first_and_rest_events carried some
    ∙ ap (map delivery_event) (is ∙ ap (λ (ds : List Delivery). ds ++ carried_by s bytes ws) start) ∙ deliveries_events s bytes ws
