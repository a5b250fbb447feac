-- A tidy report is that of the lines of its text.
use Rattle.std.proofs.Common.{◌≡◌, ℕ, zero, suc, ◌+◌, ◌-◌, ◌<◌, ◌≤◌, ◌==◌, nat_lt, Bool, true, false, cond, List, [], ◌∷◌, ◌++◌, length, map, take, get_or, Option, None, refl, sym, ap, subst, ◌∙◌, arith, inl, inr, append_assoc, append-nil, length-append}
use Rattle.std.specs.Prelude.{All, fold, flat_map, filter}
use Rattle.std.proofs.lemmas.Bool.{cases_Bool, cond-true, cond-false, eqb-true, eq-eqb, ne_eqb, cases_lt, lt-ltb, le-ltb, false≢true}
use Rattle.std.proofs.lemmas.Grind.{flat_map-append}
use Rattle.std.proofs.lemmas.List.{take_all}
use Rattle.std.proofs.lemmas.List.Elements.{All-head, All-tail}
use Rattle.arrayvec.specs.ArrayVec.{ArrayVec}
use Rattle.mate_num.specs.declared.call.Stamp.{Stamp}
use Rattle.mate_num.specs.declared.store.Store.{Store}
use Rattle.mate_journal.specs.Log.{Log, IsSameLog}
use Rattle.mate_journal.specs.Tidy.{image_named, store_named, names_in, below, EventsRise, entry_event, NumbersInOrder}
use Rattle.mate_journal.specs.declared.air.Aired.{Aired}
use Rattle.mate_journal.specs.declared.entry.Entry.{Entry}
use Rattle.mate_journal.specs.declared.entry.Entry.TheVariants as entry
use Rattle.mate_journal.specs.declared.entry.Stamped.{Stamped}
use Rattle.mate_journal.specs.declared.report.Report.{Report}
use Rattle.report_writer.specs.Progress.{air_event, at_event}
use Rattle.report_line_reader.specs.declared.line.Told.{Told}
use Rattle.report_line_reader.specs.declared.line.Told.TheVariants as told
use Rattle.report_text.specs.Parts.{stamped, log_with_line, log_after, no_log, log_of, aired_of, air_told}
use Rattle.report_text.specs.Written.{image_at, store_at, told_by_entry, line_of_entry, line_of_aired, node_lines, lines_at}
use Rattle.report_text.proofs.PartLemmas.{take-push}

-- ---- folds

fold-append : {A B : Type 0} (f : A → B → A) (a : A) (xs ys : List B) → fold f a (xs ++ ys) ≡ fold f (fold f a xs) ys
fold-append f a [] ys = refl
fold-append f a (x ∷ xs) ys = fold-append f (f a x) xs ys

-- a log after the lines of entries of a log
abbrev adds : Log → Log → List Stamped → Log
adds l a es = fold (λ b e. log_with_line b e.stamp (told_by_entry l e.entry)) a es

same-cond : (b : Bool) (a : Log) → cond b a a ≡ a
same-cond true a = refl
same-cond false a = refl

fold-air : (k : ℕ) (a : Log) (xs : List Aired) → fold (log_after k) a (map line_of_aired xs) ≡ a
fold-air k a [] = refl
fold-air k a (x ∷ xs) = ap (λ (b : Log). fold (log_after k) b (map line_of_aired xs)) (same-cond (x.node == k) a) ∙ fold-air k a xs

fold-other : (k j : ℕ) (l a : Log) (es : List Stamped) → (j ≡ k → ⊥) → fold (log_after k) a (map (line_of_entry l j) es) ≡ a
fold-other k j l a [] ne = refl
fold-other k j l a (e ∷ es) ne =
    ap (λ (b : Log). fold (log_after k) b (map (line_of_entry l j) es)) (cond-false (j == k) (log_with_line a e.stamp (told_by_entry l e.entry)) a (ne_eqb j k ne)) ∙ fold-other k j l a es ne

fold-own : (k j : ℕ) (l a : Log) (es : List Stamped) → j ≡ k → fold (log_after k) a (map (line_of_entry l j) es) ≡ adds l a es
fold-own k j l a [] e = refl
fold-own k j l a (x ∷ es) e =
    ap (λ (b : Log). fold (log_after k) b (map (line_of_entry l j) es)) (cond-true (j == k) (log_with_line a x.stamp (told_by_entry l x.entry)) a (eq-eqb j k e))
    ∙ fold-own k j l (log_with_line a x.stamp (told_by_entry l x.entry)) es e

fold-later : (event k node : ℕ) (a : Log) (ls : List Log) → k < node → fold (log_after k) a (node_lines event node ls) ≡ a
fold-later event k node a [] h = refl
fold-later event k node a (l ∷ ls) h =
    let own = map (line_of_entry l node) (at_event entry_event event l.entries) in
    fold-append (log_after k) a own (node_lines event (suc node) ls)
    ∙ ap (λ (b : Log). fold (log_after k) b (node_lines event (suc node) ls)) (fold-other k node l a (at_event entry_event event l.entries) (λ e. absurd (omega (arith, e, h))))
    ∙ fold-later event k (suc node) a ls (omega (arith, h))

fold-nodes : (event k node : ℕ) (a : Log) (ls : List Log) (i : ℕ) (d : Log) → k ≡ node + i → i < length ls
    → fold (log_after k) a (node_lines event node ls) ≡ adds (get_or ls i d) a (at_event entry_event event (get_or ls i d).entries)
fold-nodes event k node a [] i d e h = absurd (omega (arith, h))
fold-nodes event k node a (l ∷ ls) zero d e h =
    let own = map (line_of_entry l node) (at_event entry_event event l.entries) in
    fold-append (log_after k) a own (node_lines event (suc node) ls)
    ∙ ap (λ (b : Log). fold (log_after k) b (node_lines event (suc node) ls)) (fold-own k node l a (at_event entry_event event l.entries) (omega (arith, e)))
    ∙ fold-later event k (suc node) (adds l a (at_event entry_event event l.entries)) ls (omega (arith, e))
fold-nodes event k node a (l ∷ ls) (suc i) d e h =
    let own = map (line_of_entry l node) (at_event entry_event event l.entries) in
    fold-append (log_after k) a own (node_lines event (suc node) ls)
    ∙ ap (λ (b : Log). fold (log_after k) b (node_lines event (suc node) ls)) (fold-other k node l a (at_event entry_event event l.entries) (λ q. absurd (omega (arith, e, q))))
    ∙ fold-nodes event k (suc node) a ls i d (omega (arith, e)) (omega (arith, h))

fold-event : (r : Report) (event k : ℕ) (a d : Log) → k < length r.nodes → fold (log_after k) a (lines_at r event) ≡ adds (get_or r.nodes k d) a (at_event entry_event event (get_or r.nodes k d).entries)
fold-event r event k a d h =
    fold-append (log_after k) a (map line_of_aired (at_event air_event event r.air)) (node_lines event 0 r.nodes)
    ∙ ap (λ (b : Log). fold (log_after k) b (node_lines event 0 r.nodes)) (fold-air k a (at_event air_event event r.air))
    ∙ fold-nodes event k 0 a r.nodes k d (omega arith) h

fold-events : (r : Report) (k : ℕ) (a d : Log) (events : List ℕ) → k < length r.nodes
    → fold (log_after k) a (flat_map (lines_at r) events) ≡ adds (get_or r.nodes k d) a (flat_map (λ (event : ℕ). at_event entry_event event (get_or r.nodes k d).entries) events)
fold-events r k a d [] h = refl
fold-events r k a d (event ∷ events) h =
    let l = get_or r.nodes k d in
    let f : Log → Stamped → Log = λ b e. log_with_line b e.stamp (told_by_entry l e.entry) in
    let here : List Stamped = at_event entry_event event l.entries in
    let more : List Stamped = flat_map (λ (event : ℕ). at_event entry_event event l.entries) events in
    fold-append (log_after k) a (lines_at r event) (flat_map (lines_at r) events)
    ∙ ap (λ (b : Log). fold (log_after k) b (flat_map (lines_at r) events)) (fold-event r event k a d h)
    ∙ fold-events r k (adds l a here) d events h
    ∙ sym (fold-append f a here more)

-- ---- items in the order of their events

abbrev under : {A : Type 0} → (A → ℕ) → ℕ → List A → List A
under ev n xs = filter (λ x. nat_lt (ev x) n) xs

abbrev IsFrom : {A : Type 0} → (A → ℕ) → ℕ → List A → Type 0
IsFrom ev n xs = EventsRise ev n xs

from-lower : {A : Type 0} (ev : A → ℕ) (low n : ℕ) (xs : List A) → n ≤ low → EventsRise ev low xs → EventsRise ev n xs
from-lower ev low n [] h r = tt
from-lower ev low n (x ∷ xs) h r = (let a = r.0 in omega (arith, a, h), r.1)

under-none : {A : Type 0} (ev : A → ℕ) (n : ℕ) (xs : List A) → EventsRise ev n xs → under ev n xs ≡ []
under-none ev n [] r = refl
under-none ev n (x ∷ xs) r =
    cond-false (nat_lt (ev x) n) (x ∷ under ev n xs) (under ev n xs) (le-ltb (ev x) n r.0) ∙ under-none ev n xs (from-lower ev (ev x) n xs r.0 r.1)

at-none : {A : Type 0} (ev : A → ℕ) (n low : ℕ) (xs : List A) → n < low → EventsRise ev low xs → at_event ev n xs ≡ []
at-none ev n low [] h r = refl
at-none ev n low (x ∷ xs) h r =
    let a = r.0 in
    cond-false (ev x == n) (x ∷ at_event ev n xs) (at_event ev n xs) (ne_eqb (ev x) n (λ e. absurd (omega (arith, a, h, e)))) ∙ at-none ev n (ev x) xs (omega (arith, a, h)) r.1

under-next : {A : Type 0} (ev : A → ℕ) (n low : ℕ) (xs : List A) → EventsRise ev low xs → under ev n xs ++ at_event ev n xs ≡ under ev (suc n) xs
under-next ev n low [] r = refl
under-next ev n low (x ∷ xs) r =
    elim (cases_lt (ev x) n) [
      | inl lt ↦
          let a = cond-true (nat_lt (ev x) n) (x ∷ under ev n xs) (under ev n xs) (lt-ltb (ev x) n lt) in
          let b = cond-false (ev x == n) (x ∷ at_event ev n xs) (at_event ev n xs) (ne_eqb (ev x) n (λ e. absurd (omega (arith, lt, e)))) in
          let c = cond-true (nat_lt (ev x) (suc n)) (x ∷ under ev (suc n) xs) (under ev (suc n) xs) (lt-ltb (ev x) (suc n) (omega (arith, lt))) in
          ap (λ (ys : List _). ys ++ at_event ev n (x ∷ xs)) a ∙ ap (λ (ys : List _). (x ∷ under ev n xs) ++ ys) b ∙ ap (λ (ys : List _). x ∷ ys) (under-next ev n (ev x) xs r.1) ∙ sym c
      | inr ge ↦
          let none : under ev n (x ∷ xs) ≡ [] = under-none ev n (x ∷ xs) (ge, r.1) in
          let rest_none : under ev n xs ≡ [] = under-none ev n xs (from-lower ev (ev x) n xs ge r.1) in
          let ih : at_event ev n xs ≡ under ev (suc n) xs = sym (ap (λ (ys : List _). ys ++ at_event ev n xs) rest_none) ∙ under-next ev n (ev x) xs r.1 in
          ap (λ (ys : List _). ys ++ at_event ev n (x ∷ xs)) none
          ∙ elim (cases_Bool (ev x == n)) [
            | inl same ↦
                let e = eqb-true (ev x) n same in
                cond-true (ev x == n) (x ∷ at_event ev n xs) (at_event ev n xs) same ∙ ap (λ (ys : List _). x ∷ ys) ih
                ∙ sym (cond-true (nat_lt (ev x) (suc n)) (x ∷ under ev (suc n) xs) (under ev (suc n) xs) (lt-ltb (ev x) (suc n) (omega (arith, e))))
            | inr other ↦
                let gt : suc n ≤ ev x = (let ne : ev x ≡ n → ⊥ = λ e. false≢true (sym other ∙ eq-eqb (ev x) n e) in omega (arith, ne, ge)) in
                cond-false (ev x == n) (x ∷ at_event ev n xs) (at_event ev n xs) other ∙ ih
                ∙ sym (cond-false (nat_lt (ev x) (suc n)) (x ∷ under ev (suc n) xs) (under ev (suc n) xs) (le-ltb (ev x) (suc n) gt))
          ]
    ]

by-events : {A : Type 0} (ev : A → ℕ) (xs : List A) (n : ℕ) → EventsRise ev 0 xs → flat_map (λ (event : ℕ). at_event ev event xs) (below n) ≡ under ev n xs
by-events ev xs zero r = sym (under-none ev 0 xs r)
by-events ev xs (suc n) r =
    flat_map-append (λ (event : ℕ). at_event ev event xs) (below n) (n ∷ [])
    ∙ ap (λ (ys : List _). ys ++ (at_event ev n xs ++ [])) (by-events ev xs n r)
    ∙ ap (λ (ys : List _). under ev n xs ++ ys) (append-nil (at_event ev n xs))
    ∙ under-next ev n 0 xs r

under-all : {A : Type 0} (ev : A → ℕ) (n : ℕ) (xs : List A) → All (λ (x : A). ev x < n) xs → under ev n xs ≡ xs
under-all ev n [] h = refl
under-all ev n (x ∷ xs) h =
    cond-true (nat_lt (ev x) n) (x ∷ under ev n xs) (under ev n xs) (lt-ltb (ev x) n (All-head (λ (y : _). ev y < n) x xs h))
    ∙ ap (λ (ys : List _). x ∷ ys) (under-all ev n xs (All-tail (λ (y : _). ev y < n) x xs h))

pub all-events : {A : Type 0} (ev : A → ℕ) (xs : List A) (n : ℕ) → EventsRise ev 0 xs → All (λ (x : A). ev x < n) xs → flat_map (λ (event : ℕ). at_event ev event xs) (below n) ≡ xs
all-events ev xs n r h = by-events ev xs n r ∙ under-all ev n xs h

-- ---- images and stores in the order of their lines

length-below : (n : ℕ) → length (below n) ≡ n
length-below zero = refl
length-below (suc n) = let a = length-append (below n) (n ∷ []) in let ih = length-below n in omega (arith, a, ih)

below-at : (n i : ℕ) → i < n → get_or (below n) i 0 ≡ i
below-at zero i h = absurd (omega (arith, h))
below-at (suc n) i h =
    let len = length-below n in
    elim (cases_lt i n) [
      | inl lt ↦ Rattle.report_text.proofs.OrderLemmas.get-before (below n) (n ∷ []) i 0 (omega (arith, len, lt)) ∙ below-at n i lt
      | inr ge ↦
          let at : i ≡ n = omega (arith, ge, h) in
          ap (λ (j : ℕ). get_or (below n ++ n ∷ []) j 0) (at ∙ sym len) ∙ Rattle.report_text.proofs.OrderLemmas.get-last (below n) n 0 ∙ sym at
    ]

get-middle : (xs : List ℕ) (y : ℕ) (ys : List ℕ) → get_or (xs ++ y ∷ ys) (length xs) 0 ≡ y
get-middle [] y ys = refl
get-middle (x ∷ xs) y ys = get-middle xs y ys

-- the name behind others is their number
next-name : (xs : List ℕ) (y : ℕ) (ys : List ℕ) (n : ℕ) → xs ++ y ∷ ys ≡ below n → (y ≡ length xs) × (length xs < n)
next-name xs y ys n e =
    let len = ap (λ (zs : List ℕ). length zs) e ∙ length-below n in
    let parts = length-append xs (y ∷ ys) in
    let lt : length xs < n = omega (arith, len, parts) in
    (sym (get-middle xs y ys) ∙ ap (λ (zs : List ℕ). get_or zs (length xs) 0) e ∙ below-at n (length xs) lt, lt)

names-append : (named : Entry → Option ℕ) (xs ys : List Stamped) → names_in named (xs ++ ys) ≡ names_in named xs ++ names_in named ys
names-append named xs ys = flat_map-append (λ (x : Stamped). Rattle.std.specs.Prelude.option_to_list (named x.entry)) xs ys

-- a log holds the first entries of another, with what they name
record IsFrontOf (l : Log) (front : List Stamped) (a : Log) : Type 0 where
  entries : a.entries ≡ front
  images : a.images ≡ take (length (names_in image_named front)) l.images
  stores : a.stores ≡ take (length (names_in store_named front)) l.stores

front-other : (l : Log) (front : List Stamped) (a : Log) (e : Stamped) → told_by_entry l e.entry ≡ told.Made e.entry → image_named e.entry ≡ None → store_named e.entry ≡ None → IsFrontOf l front a
    → IsFrontOf l (front ++ e ∷ []) (log_with_line a e.stamp (told_by_entry l e.entry))
front-other l front a e is ni ns f =
    let none_i : names_in image_named (front ++ e ∷ []) ≡ names_in image_named front =
    names-append image_named front (e ∷ []) ∙ ap (λ (o : Option ℕ). names_in image_named front ++ (Rattle.std.specs.Prelude.option_to_list o ++ [])) ni ∙ append-nil (names_in image_named front) in
    let none_s : names_in store_named (front ++ e ∷ []) ≡ names_in store_named front =
    names-append store_named front (e ∷ []) ∙ ap (λ (o : Option ℕ). names_in store_named front ++ (Rattle.std.specs.Prelude.option_to_list o ++ [])) ns ∙ append-nil (names_in store_named front) in
    let this : IsFrontOf l (front ++ e ∷ []) (log_with_line a e.stamp (told.Made e.entry)) = record {
      entries = ap (λ (xs : List Stamped). xs ++ e ∷ []) f.entries;
      images = f.images ∙ ap (λ (ns : List ℕ). take (length ns) l.images) (sym none_i);
      stores = f.stores ∙ ap (λ (ns : List ℕ). take (length ns) l.stores) (sym none_s);
    } in
    subst (λ (t : Told). IsFrontOf l (front ++ e ∷ []) (log_with_line a e.stamp t)) (sym is) this

length-take_le : {A : Type 0} (n : ℕ) (xs : List A) → n ≤ length xs → length (take n xs) ≡ n
length-take_le zero xs h = refl
length-take_le (suc n) [] h = absurd (omega (arith, h))
length-take_le (suc n) (x ∷ xs) h = let ih = length-take_le n xs (omega (arith, h)) in omega (arith, ih)

front-install : (l : Log) (front : List Stamped) (a : Log) (at : Stamp) (h : _) (version image : ℕ) (back : List Stamped)
    → names_in image_named (front ++ stamped at (entry.Install h version image) ∷ back) ≡ below (length l.images) → IsFrontOf l front a
    → IsFrontOf l (front ++ stamped at (entry.Install h version image) ∷ []) (log_with_line a at (told.Installed h version (image_at l image)))
front-install l front a at h version image back e f =
    let x = stamped at (entry.Install h version image) in
    let names = names_in image_named front in
    let next = next-name names image (names_in image_named back) (length l.images) (sym (names-append image_named front (x ∷ back)) ∙ e) in
    let lt = next.1 in
    let count : length a.images ≡ image = ap (λ (xs : List (ArrayVec ℕ)). length xs) f.images ∙ length-take_le (length names) l.images (omega (arith, lt)) ∙ sym next.0 in
    let n : length (names_in image_named (front ++ x ∷ [])) ≡ suc (length names) =
    (let p = ap (λ (xs : List ℕ). length xs) (names-append image_named front (x ∷ [])) ∙ length-append names (image ∷ []) in omega (arith, p)) in
    let none_s : names_in store_named (front ++ x ∷ []) ≡ names_in store_named front = names-append store_named front (x ∷ []) ∙ append-nil (names_in store_named front) in record {
      entries = ap (λ (xs : List Stamped). xs ++ stamped at (entry.Install h version (length a.images)) ∷ []) f.entries
          ∙ ap (λ (i : ℕ). front ++ stamped at (entry.Install h version i) ∷ []) count;
      images = ap (λ (xs : List (ArrayVec ℕ)). xs ++ image_at l image ∷ []) f.images
          ∙ ap (λ (i : ℕ). take (length names) l.images ++ get_or l.images i (record { items = [] }) ∷ []) next.0
          ∙ sym (take-push l.images (length names) (record { items = [] }) lt) ∙ ap (λ (k : ℕ). take k l.images) (sym n);
      stores = f.stores ∙ ap (λ (ns : List ℕ). take (length ns) l.stores) (sym none_s);
    }

front-seen : (l : Log) (front : List Stamped) (a : Log) (at : Stamp) (store : ℕ) (back : List Stamped)
    → names_in store_named (front ++ stamped at (entry.Seen store) ∷ back) ≡ below (length l.stores) → IsFrontOf l front a
    → IsFrontOf l (front ++ stamped at (entry.Seen store) ∷ []) (log_with_line a at (told.Shown (store_at l store)))
front-seen l front a at store back e f =
    let x = stamped at (entry.Seen store) in
    let names = names_in store_named front in
    let next = next-name names store (names_in store_named back) (length l.stores) (sym (names-append store_named front (x ∷ back)) ∙ e) in
    let lt = next.1 in
    let d : Store = record { shared = record { items = [] }; buffers = record { items = [] } } in
    let count : length a.stores ≡ store = ap (λ (xs : List Store). length xs) f.stores ∙ length-take_le (length names) l.stores (omega (arith, lt)) ∙ sym next.0 in
    let n : length (names_in store_named (front ++ x ∷ [])) ≡ suc (length names) =
    (let p = ap (λ (xs : List ℕ). length xs) (names-append store_named front (x ∷ [])) ∙ length-append names (store ∷ []) in omega (arith, p)) in
    let none_i : names_in image_named (front ++ x ∷ []) ≡ names_in image_named front = names-append image_named front (x ∷ []) ∙ append-nil (names_in image_named front) in record {
      entries = ap (λ (xs : List Stamped). xs ++ stamped at (entry.Seen (length a.stores)) ∷ []) f.entries ∙ ap (λ (i : ℕ). front ++ stamped at (entry.Seen i) ∷ []) count;
      images = f.images ∙ ap (λ (ns : List ℕ). take (length ns) l.images) (sym none_i);
      stores = ap (λ (xs : List Store). xs ++ store_at l store ∷ []) f.stores
          ∙ ap (λ (i : ℕ). take (length names) l.stores ++ get_or l.stores i d ∷ []) next.0 ∙ sym (take-push l.stores (length names) d lt) ∙ ap (λ (k : ℕ). take k l.stores) (sym n);
    }

front-next : (l : Log) (front : List Stamped) (a : Log) (at : Stamp) (x : Entry) (back : List Stamped)
    → names_in image_named (front ++ stamped at x ∷ back) ≡ below (length l.images) → names_in store_named (front ++ stamped at x ∷ back) ≡ below (length l.stores) → IsFrontOf l front a
    → IsFrontOf l (front ++ stamped at x ∷ []) (log_with_line a at (told_by_entry l x))
front-next l front a at (entry.Install h version image) back i s f = front-install l front a at h version image back i f
front-next l front a at (entry.Seen store) back i s f = front-seen l front a at store back s f
front-next l front a at x back i s f = front-other l front a (stamped at x) refl refl refl f

adds-from : (l : Log) (front back : List Stamped) (a : Log) → names_in image_named (front ++ back) ≡ below (length l.images) → names_in store_named (front ++ back) ≡ below (length l.stores) → IsFrontOf l front a
    → IsFrontOf l (front ++ back) (adds l a back)
adds-from l front [] a i s f = subst (λ (es : List Stamped). IsFrontOf l es a) (sym (append-nil front)) f
adds-from l front (e ∷ back) a i s f =
    let is : front ++ e ∷ back ≡ (front ++ e ∷ []) ++ back = sym (append_assoc front (e ∷ []) back) in
    let next = front-next l front a e.stamp e.entry back i s f in
    subst (λ (es : List Stamped). IsFrontOf l es (adds l a (e ∷ back))) (sym is)
    (adds-from l (front ++ e ∷ []) back (log_with_line a e.stamp (told_by_entry l e.entry)) (ap (names_in image_named) (sym is) ∙ i) (ap (names_in store_named) (sym is) ∙ s) next)

adds-all : (l : Log) → NumbersInOrder l → IsSameLog l (adds l no_log l.entries)
adds-all l n =
    let start : IsFrontOf l [] no_log = record { entries = refl; images = refl; stores = refl } in
    let f = adds-from l [] l.entries no_log n.images n.stores start in
    let i : length (names_in image_named l.entries) ≡ length l.images = ap (λ (xs : List ℕ). length xs) n.images ∙ length-below (length l.images) in
    let s : length (names_in store_named l.entries) ≡ length l.stores = ap (λ (xs : List ℕ). length xs) n.stores ∙ length-below (length l.stores) in record {
      entries = sym f.entries;
      images = sym (f.images ∙ take_all (length (names_in image_named l.entries)) l.images (omega (arith, i)));
      stores = sym (f.stores ∙ take_all (length (names_in store_named l.entries)) l.stores (omega (arith, s)));
    }

-- ---- the log of a node

pub log-of_lines : (r : Report) (k n : ℕ) (d : Log) → k < length r.nodes → EventsRise entry_event 0 (get_or r.nodes k d).entries → NumbersInOrder (get_or r.nodes k d)
    → All (λ (e : Stamped). entry_event e < n) (get_or r.nodes k d).entries → IsSameLog (get_or r.nodes k d) (log_of k (flat_map (lines_at r) (below n)))
log-of_lines r k n d h rises numbered all =
    let l = get_or r.nodes k d in
    let is : log_of k (flat_map (lines_at r) (below n)) ≡ adds l no_log l.entries =
    fold-events r k no_log d (below n) h ∙ ap (adds l no_log) (all-events entry_event l.entries n rises all) in
    subst (IsSameLog l) (sym is) (adds-all l numbered)

-- ---- the air

told_by_entry-off : (l : Log) (at : Stamp) (node : ℕ) (x : Entry) → Rattle.report_text.specs.Parts.aired_by at node (told_by_entry l x) ≡ []
told_by_entry-off l at node (entry.Post n h c payload) = refl
told_by_entry-off l at node _ = refl

air-entries : (l : Log) (node : ℕ) (es : List Stamped) → air_told (map (line_of_entry l node) es) ≡ []
air-entries l node [] = refl
air-entries l node (e ∷ es) = ap (λ (xs : List Aired). xs ++ air_told (map (line_of_entry l node) es)) (told_by_entry-off l e.stamp node e.entry) ∙ air-entries l node es

air-nodes : (event node : ℕ) (ls : List Log) → air_told (node_lines event node ls) ≡ []
air-nodes event node [] = refl
air-nodes event node (l ∷ ls) =
    flat_map-append aired_of (map (line_of_entry l node) (at_event entry_event event l.entries)) (node_lines event (suc node) ls)
    ∙ ap (λ (xs : List Aired). xs ++ air_told (node_lines event (suc node) ls)) (air-entries l node (at_event entry_event event l.entries)) ∙ air-nodes event (suc node) ls

air-own : (xs : List Aired) → air_told (map line_of_aired xs) ≡ xs
air-own [] = refl
air-own (x ∷ xs) = ap (λ (ys : List Aired). x ∷ ys) (air-own xs)

air-events : (r : Report) (events : List ℕ) → air_told (flat_map (lines_at r) events) ≡ flat_map (λ (event : ℕ). at_event air_event event r.air) events
air-events r [] = refl
air-events r (event ∷ events) =
    let here = at_event air_event event r.air in
    flat_map-append aired_of (lines_at r event) (flat_map (lines_at r) events)
    ∙ ap (λ (xs : List Aired). xs ++ air_told (flat_map (lines_at r) events))
    (flat_map-append aired_of (map line_of_aired here) (node_lines event 0 r.nodes) ∙ ap (λ (xs : List Aired). xs ++ air_told (node_lines event 0 r.nodes)) (air-own here)
    ∙ ap (λ (xs : List Aired). here ++ xs) (air-nodes event 0 r.nodes) ∙ append-nil here)
    ∙ ap (λ (xs : List Aired). here ++ xs) (air-events r events)

pub air-of_lines : (r : Report) (n : ℕ) → EventsRise air_event 0 r.air → All (λ (a : Aired). air_event a < n) r.air → air_told (flat_map (lines_at r) (below n)) ≡ r.air
air-of_lines r n rises all = air-events r (below n) ∙ all-events air_event r.air n rises all
