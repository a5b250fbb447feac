-- A store is read as it is written.
use Rattle.std.proofs.Common.{◌≡◌, ℕ, suc, ◌+◌, ◌-◌, ◌<◌, ◌≤◌, ◌==◌, nat_lt, Bool, true, false, not, ◌&&◌, cond, List, [], ◌∷◌, ◌++◌, length, take, drop, min, map, slice_index, Option, Some, None, refl, sym, ap, ◌∙◌, arith, inl, inr, append_assoc, append-nil, length-append}
use Rattle.std.specs.Prelude.{ℤ, codes, All, FitsSigned, flat_map}
use Rattle.std.specs.Int.{w16}
use Rattle.std.specs.List.{list_all, zip}
use Rattle.std.specs.Option.{option_and_then, option_map}
use Rattle.std.specs.Fmt.{signed_decimal}
use Rattle.std.specs.Str.{bytes_eq}
use Rattle.std.proofs.lemmas.Bool.{cases_Bool, cond-true, cond-false, and_parts, and_from, lt-ltb, eq-eqb, ne_eqb, false≢true}
use Rattle.std.proofs.lemmas.Bool.Decides.{nat_tests}
use Rattle.std.proofs.lemmas.Slice.Eq.{bytes_eq-Decides}
use Rattle.std.proofs.lemmas.List.Elements.{All-head, All-tail}
use Rattle.std.proofs.Math.Seq.{take-append_seam, drop-append_seam}
use Rattle.arrayvec.specs.ArrayVec.{ArrayVec}
use Rattle.mate_num.specs.declared.store.Store.{Store}
use Rattle.vm_shape.specs.Bounds.{HasItems}
use Rattle.vm_shape.specs.Names.{is_name}
use Rattle.vm_shape.specs.declared.description.Description.{Description}
use Rattle.vm_shape.proofs.DescriptionLemmas.{items_of, list_all-at}
use Rattle.report_writer.specs.Words.{store_words}
use Rattle.report_line_reader.specs.Words.{only_at_end}
use Rattle.report_line_reader.specs.Numbers.{value_of}
use Rattle.report_line_reader.specs.Stores.{after, closed, shared_value, shared_after, item, items_after, opened, buffer_of, buffers_after, store_with, store_of}
use Rattle.mate_journal.specs.Tidy.{IsStoreOf}
use Rattle.mate_journal.specs.Entries.{AreValues}
use Rattle.report_line_reader.proofs.NumberLemmas.{IsValue}
use Rattle.report_line_reader.proofs.WrittenWords.{is_above, is_written, in_value, in_value-signed, signed-some, IsValue-fits, name-written, list_all-both}
use Rattle.report_line_reader.proofs.WrittenFields.{reads-value}
use Rattle.report_line_reader.proofs.StoreLemmas.{joined, joined-append, joined-shared, joined-buffers, shared_list, item_list, listed, with_front, buffer_list}

abbrev pub Fit : List ℤ → Type 0
Fit vs = All (λ (v : ℤ). FitsSigned w16 v) vs

-- ---- the front of a word

after-written : (front x : List ℕ) → after front (front ++ x) ≡ Some x
after-written front x =
    let n : length (front ++ x) ≡ length front + length x = length-append front x in
    let m : min (length front) (length (front ++ x)) ≡ length front = omega (arith, n) in
    let begins : take (min (length front) (length (front ++ x))) (front ++ x) ≡ front = ap (λ (k : ℕ). take k (front ++ x)) m ∙ take-append_seam front x in
    let behind : drop (min (length front) (length (front ++ x))) (front ++ x) ≡ x = ap (λ (k : ℕ). drop k (front ++ x)) m ∙ drop-append_seam front x in
    cond-true (bytes_eq (take (min (length front) (length (front ++ x))) (front ++ x)) front) (Some (drop (min (length front) (length (front ++ x))) (front ++ x))) None
    ((bytes_eq-Decides (take (min (length front) (length (front ++ x))) (front ++ x)) front).1 begins)
    ∙ ap Some behind

-- ---- shared variables

shared_value-written : (name : List ℕ) (v : ℤ) → FitsSigned w16 v → shared_value name (shared_list (name, v)) ≡ Some v
shared_value-written name v h =
    let e : shared_list (name, v) ≡ name ++ (codes "=" ++ signed_decimal v) = append_assoc name (codes "=") (signed_decimal v) in
    ap (λ (w : List ℕ). option_and_then value_of (option_and_then (after (codes "=")) (after name w))) e
    ∙ ap (λ (o : Option (List ℕ)). option_and_then value_of (option_and_then (after (codes "=")) o)) (after-written name (codes "=" ++ signed_decimal v))
    ∙ ap (option_and_then value_of) (after-written (codes "=") (signed_decimal v))
    ∙ (reads-value v h).told

shared_after-written : (before : List ℤ) (names : List (List ℕ)) (vs : List ℤ) (left : List (List ℕ)) → length vs ≡ length names → Fit vs
    → shared_after before names (map shared_list (zip names vs) ++ left) ≡ Some (before ++ vs, left)
shared_after-written before [] [] left n h = ap (λ (x : List ℤ). Some (let r : List ℤ × List (List ℕ) = (x, left) in r)) (sym (append-nil before))
shared_after-written before [] (v ∷ vs) left n h = absurd (omega (arith, n))
shared_after-written before (name ∷ names) [] left n h = absurd (omega (arith, n))
shared_after-written before (name ∷ names) (v ∷ vs) left n h =
    ap (option_and_then (λ (x : ℤ). shared_after (before ++ x ∷ []) names (map shared_list (zip names vs) ++ left)))
    (shared_value-written name v (All-head (λ (x : ℤ). FitsSigned w16 x) v vs h))
    ∙ shared_after-written (before ++ v ∷ []) names vs left (omega (arith, n)) (All-tail (λ (x : ℤ). FitsSigned w16 x) v vs h)
    ∙ ap (λ (x : List ℤ). Some (let r : List ℤ × List (List ℕ) = (x, left) in r)) (append_assoc before (v ∷ []) vs)

-- ---- buffers

value_not_close : (b : ℕ) → in_value b ≡ true → (b == 93) ≡ false
value_not_close b h = grind (arith, nat_tests, and_parts)

-- a value alone is not closed
closed-value : (v : ℤ) → IsValue v → closed (signed_decimal v) ≡ None
closed-value v h =
    let w = signed_decimal v in
    let some : 0 < length w = signed-some v h in
    let last : in_value (slice_index w (length w - 1)) ≡ true = list_all-at in_value w (length w - 1) 0 (in_value-signed v h) (omega (arith, some)) in
    let no : (slice_index w (length w - 1) == 93) ≡ false = value_not_close (slice_index w (length w - 1)) last in
    let test : (not (length w == 0) && slice_index w (length w - 1) == 93) ≡ false = and-false (not (length w == 0)) (slice_index w (length w - 1) == 93) no in
    cond-false (not (length w == 0) && slice_index w (length w - 1) == 93) (Some (take (length w - 1) w)) None test where
      and-false : (a b : Bool) → b ≡ false → (a && b) ≡ false
      and-false true b h = h
      and-false false b h = refl

last-at : (w : List ℕ) (b : ℕ) → slice_index (w ++ b ∷ []) (length (w ++ b ∷ []) - 1) ≡ b
last-at [] b = refl
last-at (c ∷ []) b = refl
last-at (c ∷ d ∷ w) b =
    let n : length (c ∷ d ∷ w ++ b ∷ []) - 1 ≡ suc (length (d ∷ w ++ b ∷ []) - 1) = omega arith in
    ap (λ (k : ℕ). slice_index (c ∷ d ∷ w ++ b ∷ []) k) n ∙ last-at (d ∷ w) b

closed-last : (w : List ℕ) → closed (w ++ codes "]") ≡ Some w
closed-last w =
    let n : length (w ++ codes "]") ≡ length w + 1 = length-append w (codes "]") in
    let front : take (length (w ++ codes "]") - 1) (w ++ codes "]") ≡ w =
    (let m : length (w ++ codes "]") - 1 ≡ length w = omega (arith, n) in ap (λ (k : ℕ). take k (w ++ codes "]")) m ∙ take-append_seam w (codes "]")) in
    let full : (length (w ++ codes "]") == 0) ≡ false = ne_eqb (length (w ++ codes "]")) 0 (λ e. absurd (omega (arith, n, e))) in
    cond-true (not (length (w ++ codes "]") == 0) && slice_index (w ++ codes "]") (length (w ++ codes "]") - 1) == 93) (Some (take (length (w ++ codes "]") - 1) (w ++ codes "]"))) None
    (and_from (not (length (w ++ codes "]") == 0)) (slice_index (w ++ codes "]") (length (w ++ codes "]") - 1) == 93) (ap not full)
    (eq-eqb (slice_index (w ++ codes "]") (length (w ++ codes "]") - 1)) 93 (last-at w 93)))
    ∙ ap Some front

abbrev Found : Type 0
Found = Option (List ℤ × List (List ℕ))

abbrev found : List ℤ → List (List ℕ) → Found
found vs left = Some (vs, left)

room-step : (before : List ℤ) (o : Found) → length before < 10 → cond (nat_lt (length before) 10) o None ≡ o
room-step before o h = cond-true (nat_lt (length before) 10) o None (lt-ltb (length before) 10 h)

last-item : (before : List ℤ) (v : ℤ) (ws : List (List ℕ)) (go : List ℤ → Found) → FitsSigned w16 v
    → item (closed (signed_decimal v ++ codes "]")) before (signed_decimal v ++ codes "]") ws go ≡ found (before ++ v ∷ []) ws
last-item before v ws go h =
    ap (λ (c : Option (List ℕ)). item c before (signed_decimal v ++ codes "]") ws go) (closed-last (signed_decimal v))
    ∙ ap (option_map (λ (x : ℤ). let r : List ℤ × List (List ℕ) = (before ++ x ∷ [], ws) in r)) (reads-value v h).told

more-item : (before : List ℤ) (v : ℤ) (ws : List (List ℕ)) (go : List ℤ → Found) → FitsSigned w16 v
    → item (closed (signed_decimal v)) before (signed_decimal v) ws go ≡ go (before ++ v ∷ [])
more-item before v ws go h =
    ap (λ (c : Option (List ℕ)). item c before (signed_decimal v) ws go) (closed-value v (IsValue-fits v h))
    ∙ ap (option_and_then (λ (x : ℤ). go (before ++ x ∷ []))) (reads-value v h).told

-- the first of the words of values, and those behind it
abbrev item_first : ℤ → List ℤ → List ℕ
item_first v [] = signed_decimal v ++ codes "]"
item_first v (u ∷ us) = signed_decimal v

abbrev item_rest : List ℤ → List (List ℕ)
item_rest [] = []
item_rest (u ∷ us) = item_list u us

item_parts : (v : ℤ) (vs : List ℤ) → item_list v vs ≡ item_first v vs ∷ item_rest vs
item_parts v [] = refl
item_parts v (u ∷ us) = refl

items_after-last : (before : List ℤ) (v : ℤ) (left : List (List ℕ)) → length before < 10 → FitsSigned w16 v
    → items_after before (signed_decimal v ++ codes "]") left ≡ found (before ++ v ∷ []) left
items_after-last before v [] room h =
    room-step before (item (closed (signed_decimal v ++ codes "]")) before (signed_decimal v ++ codes "]") [] (λ more. None)) room ∙ last-item before v [] (λ more. None) h
items_after-last before v (w ∷ ws) room h =
    room-step before (item (closed (signed_decimal v ++ codes "]")) before (signed_decimal v ++ codes "]") (w ∷ ws) (λ more. items_after more w ws)) room
    ∙ last-item before v (w ∷ ws) (λ more. items_after more w ws) h

items_after-written : (before : List ℤ) (v : ℤ) (vs : List ℤ) (left : List (List ℕ)) → length before + suc (length vs) ≤ 10 → Fit (v ∷ vs)
    → items_after before (item_first v vs) (item_rest vs ++ left) ≡ found (before ++ v ∷ vs) left
items_after-written before v [] left few h = items_after-last before v left (omega (arith, few)) (All-head (λ (x : ℤ). FitsSigned w16 x) v [] h)
items_after-written before v (u ∷ us) left few h =
    let n : length (before ++ v ∷ []) ≡ length before + 1 = length-append before (v ∷ []) in
    let room : length before < 10 = omega (arith, few) in
    let go : List ℤ → Found = λ more. items_after more (item_first u us) (item_rest us ++ left) in
    ap (λ (ws : List (List ℕ)). items_after before (signed_decimal v) (ws ++ left)) (item_parts u us)
    ∙ room-step before (item (closed (signed_decimal v)) before (signed_decimal v) (item_first u us ∷ (item_rest us ++ left)) go) room
    ∙ more-item before v (item_first u us ∷ (item_rest us ++ left)) go (All-head (λ (x : ℤ). FitsSigned w16 x) v (u ∷ us) h)
    ∙ items_after-written (before ++ v ∷ []) u us left (omega (arith, n, few)) (All-tail (λ (x : ℤ). FitsSigned w16 x) v (u ∷ us) h)
    ∙ ap (λ (x : List ℤ). found x left) (append_assoc before (v ∷ []) (u ∷ us))

-- the word of a value is not a `]`
first_not_close : (w x : List ℕ) → 0 < length w → list_all in_value w ≡ true → bytes_eq (w ++ x) (codes "]") ≡ false
first_not_close [] x some h = absurd (omega arith)
first_not_close (b ∷ w) x some h =
    let no : (b == 93) ≡ false = value_not_close b (and_parts (in_value b) (list_all in_value w) h).0 in
    elim (cases_Bool (bytes_eq (b ∷ w ++ x) (codes "]"))) [
      | inl same ↦
          let e : b ∷ w ++ x ≡ codes "]" = (bytes_eq-Decides (b ∷ w ++ x) (codes "]")).0 same in
          let at : b ≡ 93 = cc in
          absurd (false≢true (sym no ∙ eq-eqb b 93 at))
      | inr other ↦ other
    ]

item_first-open : (v : ℤ) (vs : List ℤ) → FitsSigned w16 v → bytes_eq (item_first v vs) (codes "]") ≡ false
item_first-open v [] h = let is = IsValue-fits v h in first_not_close (signed_decimal v) (codes "]") (signed-some v is) (in_value-signed v is)
item_first-open v (u ∷ us) h =
    let is = IsValue-fits v h in
    ap (λ (w : List ℕ). bytes_eq w (codes "]")) (sym (append-nil (signed_decimal v))) ∙ first_not_close (signed_decimal v) [] (signed-some v is) (in_value-signed v is)

-- the first word behind the `[`, and those behind it
abbrev open_first : List ℤ → List ℕ
open_first [] = codes "]"
open_first (v ∷ vs) = item_first v vs

abbrev open_rest : List ℤ → List (List ℕ)
open_rest [] = []
open_rest (v ∷ vs) = item_rest vs

open_parts : (vs : List ℤ) → listed vs ≡ open_first vs ∷ open_rest vs
open_parts [] = refl
open_parts (v ∷ vs) = item_parts v vs

opened-written : (vs : List ℤ) (left : List (List ℕ)) → AreValues vs → opened (open_first vs) (open_rest vs ++ left) ≡ found vs left
opened-written [] left h = cond-true (bytes_eq (codes "]") (codes "]")) (found [] left) (items_after [] (codes "]") left) ((bytes_eq-Decides (codes "]") (codes "]")).1 refl)
opened-written (v ∷ vs) left h =
    let few = h.0 in
    cond-false (bytes_eq (item_first v vs) (codes "]")) (found [] (item_rest vs ++ left)) (items_after [] (item_first v vs) (item_rest vs ++ left))
    (item_first-open v vs (All-head (λ (x : ℤ). FitsSigned w16 x) v vs h.1))
    ∙ items_after-written [] v vs left (omega arith) h.1

buffer_parts : (name : List ℕ) (b : ArrayVec ℤ) → buffer_list (name, b) ≡ ((name ++ codes "=[") ++ open_first b.items) ∷ open_rest b.items
buffer_parts name b = ap (with_front (name ++ codes "=[")) (open_parts b.items)

buffer_of-written : (name : List ℕ) (b : ArrayVec ℤ) (left : List (List ℕ)) → AreValues b.items → buffer_of name (buffer_list (name, b) ++ left) ≡ found b.items left
buffer_of-written name b left h =
    let w = open_first b.items in
    let ws = open_rest b.items ++ left in
    let e : (name ++ codes "=[") ++ w ≡ name ++ (codes "=[" ++ w) = append_assoc name (codes "=[") w in
    ap (λ (x : List (List ℕ)). buffer_of name (x ++ left)) (buffer_parts name b)
    ∙ ap (λ (x : List ℕ). option_and_then (λ (y : List ℕ). opened y ws) (option_and_then (after (codes "=[")) (after name x))) e
    ∙ ap (λ (o : Option (List ℕ)). option_and_then (λ (y : List ℕ). opened y ws) (option_and_then (after (codes "=[")) o)) (after-written name (codes "=[" ++ w))
    ∙ ap (option_and_then (λ (y : List ℕ). opened y ws)) (after-written (codes "=[") w)
    ∙ opened-written b.items left h

buffers_after-written : (before : List (ArrayVec ℤ)) (names : List (List ℕ)) (bs : List (ArrayVec ℤ)) (left : List (List ℕ)) → length bs ≡ length names
    → All (λ (b : ArrayVec ℤ). AreValues b.items) bs
    → buffers_after before names (flat_map buffer_list (zip names bs) ++ left) ≡ Some (before ++ bs, left)
buffers_after-written before [] [] left n h = ap (λ (x : List (ArrayVec ℤ)). Some (let r : List (ArrayVec ℤ) × List (List ℕ) = (x, left) in r)) (sym (append-nil before))
buffers_after-written before [] (b ∷ bs) left n h = absurd (omega (arith, n))
buffers_after-written before (name ∷ names) [] left n h = absurd (omega (arith, n))
buffers_after-written before (name ∷ names) (b ∷ bs) left n h =
    let more = flat_map buffer_list (zip names bs) in
    ap (buffers_after before (name ∷ names)) (append_assoc (buffer_list (name, b)) more left)
    ∙ ap (option_and_then (λ (f : List ℤ × List (List ℕ)). buffers_after (before ++ (record { items = f.0 }) ∷ []) names f.1))
    (buffer_of-written name b (more ++ left) (All-head (λ (x : ArrayVec ℤ). AreValues x.items) b bs h))
    ∙ buffers_after-written (before ++ b ∷ []) names bs left (omega (arith, n)) (All-tail (λ (x : ArrayVec ℤ). AreValues x.items) b bs h)
    ∙ ap (λ (x : List (ArrayVec ℤ)). Some (let r : List (ArrayVec ℤ) × List (List ℕ) = (x, left) in r)) (append_assoc before (b ∷ []) bs)

-- ---- the whole store

-- the words of a store
abbrev pub store_list : Description → Store → List (List ℕ)
store_list d s = map shared_list (zip d.shared.items s.shared.items) ++ flat_map buffer_list (zip d.buffers.items s.buffers.items)

pub store_of-written : (d : Description) (s : Store) → IsStoreOf d s → Fit s.shared.items → All (λ (b : ArrayVec ℤ). AreValues b.items) s.buffers.items
    → store_of d (store_list d s) ≡ Some s
store_of-written d s is shared buffers =
    let tail = flat_map buffer_list (zip d.buffers.items s.buffers.items) in
    let finish : List ℤ → List (ArrayVec ℤ) × List (List ℕ) → Option Store = λ vs b. only_at_end (store_with vs b.0) b.1 in
    ap (option_and_then (λ (v : List ℤ × List (List ℕ)). option_and_then (λ (b : List (ArrayVec ℤ) × List (List ℕ)). only_at_end (store_with v.0 b.0) b.1) (buffers_after [] d.buffers.items v.1)))
    (shared_after-written [] d.shared.items s.shared.items tail is.shared shared)
    ∙ ap (option_and_then (λ (b : List (ArrayVec ℤ) × List (List ℕ)). only_at_end (store_with s.shared.items b.0) b.1))
    (ap (buffers_after [] d.buffers.items) (sym (append-nil tail)) ∙ buffers_after-written [] d.buffers.items s.buffers.items [] is.buffers buffers)

pub joined-store : (d : Description) (s : Store) → joined (store_list d s) ≡ store_words d s
joined-store d s =
    joined-append (map shared_list (zip d.shared.items s.shared.items)) (flat_map buffer_list (zip d.buffers.items s.buffers.items))
    ∙ rw (joined-shared (zip d.shared.items s.shared.items), joined-buffers (zip d.buffers.items s.buffers.items)) refl

-- ---- no space in a word

written-shared : (names : List (List ℕ)) (vs : List ℤ) → list_all is_name names ≡ true → Fit vs → list_all is_written (map shared_list (zip names vs)) ≡ true
written-shared [] vs n h = refl
written-shared (name ∷ names) [] n h = refl
written-shared (name ∷ names) (v ∷ vs) n h =
    let parts = and_parts (is_name name) (list_all is_name names) n in
    let v_is = (reads-value v (All-head (λ (x : ℤ). FitsSigned w16 x) v vs h)).written in
    and_from (is_written (shared_list (name, v))) (list_all is_written (map shared_list (zip names vs)))
    (list_all-both is_above (name ++ codes "=") (signed_decimal v) (list_all-both is_above name (codes "=") (name-written name parts.0) refl) v_is)
    (written-shared names vs parts.1 (All-tail (λ (x : ℤ). FitsSigned w16 x) v vs h))

written-items : (v : ℤ) (vs : List ℤ) → Fit (v ∷ vs) → list_all is_written (item_list v vs) ≡ true
written-items v [] h =
    and_from (is_written (signed_decimal v ++ codes "]")) true
    (list_all-both is_above (signed_decimal v) (codes "]") (reads-value v (All-head (λ (x : ℤ). FitsSigned w16 x) v [] h)).written refl) refl
written-items v (u ∷ us) h =
    and_from (is_written (signed_decimal v)) (list_all is_written (item_list u us)) (reads-value v (All-head (λ (x : ℤ). FitsSigned w16 x) v (u ∷ us) h)).written
    (written-items u us (All-tail (λ (x : ℤ). FitsSigned w16 x) v (u ∷ us) h))

written-listed : (vs : List ℤ) → Fit vs → list_all is_written (listed vs) ≡ true
written-listed [] h = refl
written-listed (v ∷ vs) h = written-items v vs h

written-front : (front : List ℕ) (ws : List (List ℕ)) → is_written front ≡ true → list_all is_written ws ≡ true → list_all is_written (with_front front ws) ≡ true
written-front front [] f h = refl
written-front front (w ∷ ws) f h =
    let parts = and_parts (is_written w) (list_all is_written ws) h in
    and_from (is_written (front ++ w)) (list_all is_written ws) (list_all-both is_above front w f parts.0) parts.1

written-buffers : (names : List (List ℕ)) (bs : List (ArrayVec ℤ)) → list_all is_name names ≡ true → All (λ (b : ArrayVec ℤ). AreValues b.items) bs
    → list_all is_written (flat_map buffer_list (zip names bs)) ≡ true
written-buffers [] bs n h = refl
written-buffers (name ∷ names) [] n h = refl
written-buffers (name ∷ names) (b ∷ bs) n h =
    let parts = and_parts (is_name name) (list_all is_name names) n in
    let values = All-head (λ (x : ArrayVec ℤ). AreValues x.items) b bs h in
    list_all-both is_written (buffer_list (name, b)) (flat_map buffer_list (zip names bs))
    (written-front (name ++ codes "=[") (listed b.items) (list_all-both is_above name (codes "=[") (name-written name parts.0) refl) (written-listed b.items values.1))
    (written-buffers names bs parts.1 (All-tail (λ (x : ArrayVec ℤ). AreValues x.items) b bs h))

pub written-store : (d : Description) (s : Store) → Fit s.shared.items → All (λ (b : ArrayVec ℤ). AreValues b.items) s.buffers.items
    → list_all is_written (store_list d s) ≡ true
written-store d s shared buffers =
    let items : HasItems d = items_of d in
    list_all-both is_written (map shared_list (zip d.shared.items s.shared.items)) (flat_map buffer_list (zip d.buffers.items s.buffers.items))
    (written-shared d.shared.items s.shared.items items.each_shared shared) (written-buffers d.buffers.items s.buffers.items items.each_buffer buffers)
