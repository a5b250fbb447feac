-- A store is written as it was read.
use Rattle.std.proofs.Common.{◌≡◌, ℕ, suc, ◌-◌, ◌<◌, nat_lt, not, ◌&&◌, ◌==◌, List, [], ◌∷◌, ◌++◌, length, take, drop, min, map, Option, Some, None, refl, sym, ap, subst, ◌∙◌, arith, inl, inr, append_assoc, append-nil, slice_index}
use Rattle.std.specs.Prelude.{ℤ, codes, flat_map}
use Rattle.std.specs.List.{zip}
use Rattle.std.specs.Option.{option_and_then, option_map}
use Rattle.std.specs.Fmt.{signed_decimal}
use Rattle.std.specs.Str.{bytes_eq}
use Rattle.std.proofs.lemmas.Bool.{cases_Bool, cond-true, cond-false, and_parts, eqb-true}
use Rattle.std.proofs.lemmas.Bool.Decides.{nat_tests}
use Rattle.std.proofs.lemmas.List.{take-append-drop}
use Rattle.std.proofs.lemmas.Slice.Eq.{bytes_eq-Decides}
use Rattle.arrayvec.specs.ArrayVec.{ArrayVec}
use Rattle.mate_num.specs.declared.store.Store.{Store}
use Rattle.vm_shape.specs.declared.description.Description.{Description}
use Rattle.report_writer.specs.Words.{values, word, spaced, shared_word, buffer_word, store_words}
use Rattle.report_line_reader.specs.Words.{first, rest, only_at_end}
use Rattle.report_line_reader.specs.Numbers.{value_of}
use Rattle.report_line_reader.specs.Stores.{after, closed, shared_value, shared_after, item, items_after, opened, buffer_of, buffers_after, store_with, store_of}
use Rattle.mate_journal.specs.Tidy.{IsStoreOf}
use Rattle.report_line_reader.proofs.OptionLemmas.{steps, when_some}
use Rattle.report_line_reader.proofs.NumberLemmas.{signed-value_of}
use Rattle.report_line_reader.proofs.FieldLemmas.{maps, next}

-- words, each after a space
abbrev pub joined : List (List ℕ) → List ℕ
joined words = flat_map word words

pub joined-append : (xs ys : List (List ℕ)) → joined (xs ++ ys) ≡ joined xs ++ joined ys
joined-append [] ys = refl
joined-append (x ∷ xs) ys = ap (λ (bs : List ℕ). word x ++ bs) (joined-append xs ys) ∙ sym (append_assoc (word x) (joined xs) (joined ys))

-- what stands behind a front
pub after-front : (front w x : List ℕ) → after front w ≡ Some x → w ≡ front ++ x
after-front front w x h =
    let n = min (length front) (length w) in
    let parts = when_some (bytes_eq (take n w) front) (Some (drop n w)) x h in
    let begins : take n w ≡ front = (bytes_eq-Decides (take n w) front).0 parts.0 in
    let behind : drop n w ≡ x = cc (parts.1) in
    sym (take-append-drop n w) ∙ cc (begins, behind)

-- a shared variable's word
abbrev pub shared_list : List ℕ × ℤ → List ℕ
shared_list (name, v) = name ++ codes "=" ++ signed_decimal v

shared_value-word : (name w : List ℕ) (v : ℤ) → shared_value name w ≡ Some v → w ≡ shared_list (name, v)
shared_value-word name w v h =
    let s = steps value_of (option_and_then (after (codes "=")) (after name w)) v h in
    let t = steps (after (codes "=")) (after name w) s.step s.was in
    let e = after-front name w t.step t.was in
    let f = after-front (codes "=") t.step s.step t.gives in
    let g = signed-value_of s.step v s.gives in
    e ∙ ap (λ (x : List ℕ). name ++ x) (f ∙ ap (λ (x : List ℕ). codes "=" ++ x) g) ∙ sym (append_assoc name (codes "=") (signed_decimal v))

pub record ReadsShared (before : List ℤ) (names ws : List (List ℕ)) (all : List ℤ) (left : List (List ℕ)) : Type 0 where
  pub values : List ℤ
  pub count : length values ≡ length names
  pub all_are : all ≡ before ++ values
  pub words : ws ≡ map shared_list (zip names values) ++ left

shared_after-words : (before : List ℤ) (names ws : List (List ℕ)) (r : List ℤ × List (List ℕ)) → shared_after before names ws ≡ Some r → ReadsShared before names ws r.0 r.1
unfolding shared_value
shared_after-words before [] ws r h =
    let e : (before, ws) ≡ r = cc h in
    let all : before ≡ r.0 = ap (λ (x : List ℤ × List (List ℕ)). x.0) e in
    let left : ws ≡ r.1 = ap (λ (x : List ℤ × List (List ℕ)). x.1) e in
    record { values = []; count = refl; all_are = sym all ∙ sym (append-nil before); words = left }
shared_after-words before (name ∷ names) ws r h =
    let s = steps _ (first (shared_value name) ws) r h in
    let n = next (shared_value name) ws s.step s.was in
    let ih : ReadsShared (before ++ s.step ∷ []) names (rest ws) r.0 r.1 = shared_after-words (before ++ s.step ∷ []) names (rest ws) r s.gives in
    let e = shared_value-word name n.word s.step n.told in
    record {
      values = s.step ∷ ih.values;
      count = omega (arith, ih.count);
      all_are = ih.all_are ∙ append_assoc before (s.step ∷ []) ih.values;
      words = n.is ∙ cc (e, ih.words);
    }

-- ---- buffers

last_split : (w : List ℕ) → 0 < length w → w ≡ take (length w - 1) w ++ slice_index w (length w - 1) ∷ []
last_split [] h = absurd (omega arith)
last_split (b ∷ []) h = refl
last_split (b ∷ c ∷ w) h =
    let ih : c ∷ w ≡ take (length (c ∷ w) - 1) (c ∷ w) ++ slice_index (c ∷ w) (length (c ∷ w) - 1) ∷ [] = last_split (c ∷ w) (omega arith) in
    let n : length (b ∷ c ∷ w) - 1 ≡ suc (length (c ∷ w) - 1) = omega arith in
    rw n (ap (λ (x : List ℕ). b ∷ x) ih)

closed-word : (w inner : List ℕ) → closed w ≡ Some inner → w ≡ inner ++ codes "]"
closed-word w inner h =
    let parts = when_some (not (length w == 0) && slice_index w (length w - 1) == 93) (Some (take (length w - 1) w)) inner h in
    let tests = and_parts (not (length w == 0)) (slice_index w (length w - 1) == 93) parts.0 in
    let some : 0 < length w = grind (arith, nat_tests) in
    let last : slice_index w (length w - 1) ≡ 93 = eqb-true _ _ tests.1 in
    let front : take (length w - 1) w ≡ inner = cc (parts.1) in
    last_split w some ∙ cc (last, front)

-- values, the last one with a `]`
abbrev pub item_list : ℤ → List ℤ → List (List ℕ)
item_list v [] = (signed_decimal v ++ codes "]") ∷ []
item_list v (u ∷ us) = signed_decimal v ∷ item_list u us

record ReadsItems (before : List ℤ) (w : List ℕ) (ws : List (List ℕ)) (all : List ℤ) (left : List (List ℕ)) : Type 0 where
  one : ℤ
  more : List ℤ
  all_are : all ≡ before ++ one ∷ more
  words : w ∷ ws ≡ item_list one more ++ left

-- the last value
last_item : (inner : List ℕ) (before : List ℤ) (w : List ℕ) (ws : List (List ℕ)) (r : List ℤ × List (List ℕ)) → w ≡ inner ++ codes "]"
    → option_map (λ (v : ℤ). let x : List ℤ × List (List ℕ) = (before ++ v ∷ [], ws) in x) (value_of inner) ≡ Some r → ReadsItems before w ws r.0 r.1
last_item inner before w ws r e h =
    let m = maps (λ (v : ℤ). let x : List ℤ × List (List ℕ) = (before ++ v ∷ [], ws) in x) (value_of inner) r h in
    let v = signed-value_of inner m.value m.was in
    let all : before ++ m.value ∷ [] ≡ r.0 = ap (λ (x : List ℤ × List (List ℕ)). x.0) m.gives in
    let left : ws ≡ r.1 = ap (λ (x : List ℤ × List (List ℕ)). x.1) m.gives in
    record { one = m.value; more = []; all_are = sym all; words = cc (e, v, left) }

items_by : (c : Option (List ℕ)) (before : List ℤ) (w : List ℕ) (ws : List (List ℕ)) (r : List ℤ × List (List ℕ)) (go : List ℤ → Option (List ℤ × List (List ℕ)))
    → ((inner : List ℕ) → c ≡ Some inner → w ≡ inner ++ codes "]")
    → ((v : ℤ) → w ≡ signed_decimal v → go (before ++ v ∷ []) ≡ Some r → ReadsItems before w ws r.0 r.1)
    → item c before w ws go ≡ Some r → ReadsItems before w ws r.0 r.1
items_by (Some inner) before w ws r go close more h = last_item inner before w ws r (close inner refl) h
items_by None before w ws r go close more h =
    let s = steps (λ (v : ℤ). go (before ++ v ∷ [])) (value_of w) r h in
    more s.step (signed-value_of w s.step s.was) s.gives

items_after-words : (before : List ℤ) (w : List ℕ) (ws : List (List ℕ)) (r : List ℤ × List (List ℕ)) → items_after before w ws ≡ Some r → ReadsItems before w ws r.0 r.1
unfolding value_of
items_after-words before w [] r h =
    let room = when_some (nat_lt (length before) 10) (item (closed w) before w [] (λ more. None)) r h in
    items_by (closed w) before w [] r (λ more. None) (λ inner e. closed-word w inner e) (λ v e none. absurd cc) room.1
items_after-words before w (u ∷ ws) r h =
    let room = when_some (nat_lt (length before) 10) (item (closed w) before w (u ∷ ws) (λ more. items_after more u ws)) r h in
    items_by (closed w) before w (u ∷ ws) r (λ more. items_after more u ws) (λ inner e. closed-word w inner e)
    (λ v e goes. (
    let ih : ReadsItems (before ++ v ∷ []) u ws r.0 r.1 = items_after-words (before ++ v ∷ []) u ws r goes in
    record {
      one = v;
      more = ih.one ∷ ih.more;
      all_are = ih.all_are ∙ append_assoc before (v ∷ []) (ih.one ∷ ih.more);
      words = cc (e, ih.words);
    }))
    room.1

-- the front of the first word
abbrev pub with_front : List ℕ → List (List ℕ) → List (List ℕ)
with_front front [] = []
with_front front (w ∷ ws) = (front ++ w) ∷ ws

abbrev pub listed : List ℤ → List (List ℕ)
listed [] = codes "]" ∷ []
listed (v ∷ vs) = item_list v vs

-- a buffer's words
abbrev pub buffer_list : List ℕ × ArrayVec ℤ → List (List ℕ)
buffer_list (name, b) = with_front (name ++ codes "=[") (listed b.items)

record ReadsOpened (w : List ℕ) (ws : List (List ℕ)) (all : List ℤ) (left : List (List ℕ)) : Type 0 where
  words : w ∷ ws ≡ listed all ++ left

listed_items : (w : List ℕ) (ws left : List (List ℕ)) (all : List ℤ) → ReadsItems [] w ws all left → ReadsOpened w ws all left
listed_items w ws left all i =
    let same : all ≡ i.one ∷ i.more = i.all_are in
    record { words = i.words ∙ ap (λ (vs : List ℤ). listed vs ++ left) (sym same) }

opened-words : (w : List ℕ) (ws : List (List ℕ)) (r : List ℤ × List (List ℕ)) → opened w ws ≡ Some r → ReadsOpened w ws r.0 r.1
opened-words w ws r h =
    elim (cases_Bool (bytes_eq w (codes "]"))) [
      | inl none ↦
          let pair : List ℤ × List (List ℕ) = ([], ws) in
          let e : Some pair ≡ Some r = sym (cond-true (bytes_eq w (codes "]")) _ _ none) ∙ h in
          let same : pair ≡ r = cc in
          let all : [] ≡ r.0 = ap (λ (x : List ℤ × List (List ℕ)). x.0) same in
          let left : ws ≡ r.1 = ap (λ (x : List ℤ × List (List ℕ)). x.1) same in
          let word : w ≡ codes "]" = (bytes_eq-Decides w (codes "]")).0 none in
          record { words = cc (word, left) ∙ ap (λ (vs : List ℤ). listed vs ++ r.1) all }
      | inr some ↦ listed_items w ws r.1 r.0 (items_after-words [] w ws r (sym (cond-false (bytes_eq w (codes "]")) _ _ some) ∙ h))
    ]

record ReadsBuffer (name : List ℕ) (ws : List (List ℕ)) (all : List ℤ) (left : List (List ℕ)) : Type 0 where
  words : ws ≡ with_front (name ++ codes "=[") (listed all) ++ left

fronted : (front w : List ℕ) (ws parts left : List (List ℕ)) → w ∷ ws ≡ parts ++ left → 0 < length parts → (front ++ w) ∷ ws ≡ with_front front parts ++ left
fronted front w ws [] left e h = absurd (omega arith)
fronted front w ws (p ∷ parts) left e h = cc

item_list-some : (v : ℤ) (vs : List ℤ) → 0 < length (item_list v vs)
item_list-some v [] = omega arith
item_list-some v (u ∷ us) = omega arith

listed-some : (vs : List ℤ) → 0 < length (listed vs)
listed-some [] = omega arith
listed-some (v ∷ vs) = item_list-some v vs

buffer_of-words : (name : List ℕ) (ws : List (List ℕ)) (r : List ℤ × List (List ℕ)) → buffer_of name ws ≡ Some r → ReadsBuffer name ws r.0 r.1
buffer_of-words name ws r h =
    let s = steps (λ (word : List ℕ). opened word (rest ws)) (first (λ word. option_and_then (after (codes "=[")) (after name word)) ws) r h in
    let n = next (λ word. option_and_then (after (codes "=[")) (after name word)) ws s.step s.was in
    let t = steps (after (codes "=[")) (after name n.word) s.step n.told in
    let e = after-front name n.word t.step t.was in
    let f = after-front (codes "=[") t.step s.step t.gives in
    let o = opened-words s.step (rest ws) r s.gives in
    let w : n.word ≡ (name ++ codes "=[") ++ s.step = e ∙ ap (λ (x : List ℕ). name ++ x) f ∙ sym (append_assoc name (codes "=[") s.step) in
    record { words = n.is ∙ ap (λ (x : List ℕ). x ∷ rest ws) w ∙ fronted (name ++ codes "=[") s.step (rest ws) (listed r.0) r.1 o.words (listed-some r.0) }

pub record ReadsBuffers (before : List (ArrayVec ℤ)) (names ws : List (List ℕ)) (all : List (ArrayVec ℤ)) (left : List (List ℕ)) : Type 0 where
  pub buffers : List (ArrayVec ℤ)
  pub count : length buffers ≡ length names
  pub all_are : all ≡ before ++ buffers
  pub words : ws ≡ flat_map buffer_list (zip names buffers) ++ left

buffers_after-words : (before : List (ArrayVec ℤ)) (names ws : List (List ℕ)) (r : List (ArrayVec ℤ) × List (List ℕ)) → buffers_after before names ws ≡ Some r
    → ReadsBuffers before names ws r.0 r.1
buffers_after-words before [] ws r h =
    let e : (before, ws) ≡ r = cc h in
    let all : before ≡ r.0 = ap (λ (x : List (ArrayVec ℤ) × List (List ℕ)). x.0) e in
    let left : ws ≡ r.1 = ap (λ (x : List (ArrayVec ℤ) × List (List ℕ)). x.1) e in
    record { buffers = []; count = refl; all_are = sym all ∙ sym (append-nil before); words = left }
buffers_after-words before (name ∷ names) ws r h =
    let s = steps _ (buffer_of name ws) r h in
    let b : ArrayVec ℤ = record { items = s.step.0 } in
    let n : ReadsBuffer name ws s.step.0 s.step.1 = buffer_of-words name ws s.step s.was in
    let ih : ReadsBuffers (before ++ b ∷ []) names s.step.1 r.0 r.1 = buffers_after-words (before ++ b ∷ []) names s.step.1 r s.gives in
    record {
      buffers = b ∷ ih.buffers;
      count = omega (arith, ih.count);
      all_are = ih.all_are ∙ append_assoc before (b ∷ []) ih.buffers;
      words = n.words ∙ ap (λ (x : List (List ℕ)). buffer_list (name, b) ++ x) ih.words ∙ sym (append_assoc (buffer_list (name, b)) (flat_map buffer_list (zip names ih.buffers)) r.1);
    }

-- ---- as they are written

pub joined-shared : (pairs : List (List ℕ × ℤ)) → joined (map shared_list pairs) ≡ flat_map shared_word pairs
joined-shared [] = refl
joined-shared ((name, v) ∷ pairs) = rw (joined-shared pairs) refl

joined-items : (v : ℤ) (vs : List ℤ) → joined (item_list v vs) ≡ word (signed_decimal v ++ values vs ++ codes "]")
joined-items v [] = simp (append_assoc, append-nil)
joined-items v (u ∷ us) = rw (joined-items u us) (simp append_assoc)

joined-front : (front : List ℕ) (w : List ℕ) (ws : List (List ℕ)) (x : List ℕ) → joined (w ∷ ws) ≡ word x → joined ((front ++ w) ∷ ws) ≡ word (front ++ x)
joined-front front w ws x h =
    let e : w ++ joined ws ≡ x = cc in
    ap (λ (y : List ℕ). 32 ∷ y) (append_assoc front w (joined ws) ∙ ap (λ (y : List ℕ). front ++ y) e)

joined-front_of : (front x : List ℕ) (parts : List (List ℕ)) → joined parts ≡ word x → joined (with_front front parts) ≡ word (front ++ x)
joined-front_of front x [] h = absurd cc
joined-front_of front x (w ∷ ws) h = joined-front front w ws x h

joined-listed : (vs : List ℤ) → joined (listed vs) ≡ word (spaced vs ++ codes "]")
joined-listed [] = refl
joined-listed (v ∷ vs) = joined-items v vs

joined-buffer : (name : List ℕ) (b : ArrayVec ℤ) → joined (buffer_list (name, b)) ≡ buffer_word (name, b)
joined-buffer name b =
    joined-front_of (name ++ codes "=[") (spaced b.items ++ codes "]") (listed b.items) (joined-listed b.items)
    ∙ ap (λ (x : List ℕ). 32 ∷ x) (sym (append_assoc (name ++ codes "=[") (spaced b.items) (codes "]")))

pub joined-buffers : (pairs : List (List ℕ × ArrayVec ℤ)) → joined (flat_map buffer_list pairs) ≡ flat_map buffer_word pairs
joined-buffers [] = refl
joined-buffers ((name, b) ∷ pairs) =
    joined-append (buffer_list (name, b)) (flat_map buffer_list pairs) ∙ rw (joined-buffer name b, joined-buffers pairs) refl

-- ---- the whole store

pub record ReadsStore (d : Description) (ws : List (List ℕ)) (s : Store) : Type 0 where
  pub words : joined ws ≡ store_words d s
  pub right : IsStoreOf d s

pub only_end : {A : Type 0} (a b : A) (ws : List (List ℕ)) → only_at_end a ws ≡ Some b → (ws ≡ []) × (a ≡ b)
only_end a b [] h = (refl, cc h)
only_end a b (w ∷ ws) h = absurd cc

pub store_of-words : (d : Description) (ws : List (List ℕ)) (s : Store) → store_of d ws ≡ Some s → ReadsStore d ws s
unfolding store_of
store_of-words d ws s h =
    let p = steps _ (shared_after [] d.shared.items ws) s h in
    let q = steps _ (buffers_after [] d.buffers.items p.step.1) s p.gives in
    let e = only_end (store_with p.step.0 q.step.0) s q.step.1 q.gives in
    let x = shared_after-words [] d.shared.items ws p.step p.was in
    let y = buffers_after-words [] d.buffers.items p.step.1 q.step q.was in
    let shared : p.step.0 ≡ x.values = x.all_are in
    let buffers : q.step.0 ≡ y.buffers = y.all_are in
    let tail : p.step.1 ≡ flat_map buffer_list (zip d.buffers.items y.buffers) = y.words ∙ ap (λ (z : List (List ℕ)). flat_map buffer_list (zip d.buffers.items y.buffers) ++ z) e.0 ∙ append-nil _ in
    let whole : joined ws ≡ store_words d (store_with x.values y.buffers) =
    ap joined (x.words ∙ ap (λ (z : List (List ℕ)). map shared_list (zip d.shared.items x.values) ++ z) tail)
    ∙ joined-append (map shared_list (zip d.shared.items x.values)) (flat_map buffer_list (zip d.buffers.items y.buffers))
    ∙ rw (joined-shared (zip d.shared.items x.values), joined-buffers (zip d.buffers.items y.buffers)) refl in
    let this : ReadsStore d ws (store_with x.values y.buffers) = record { words = whole; right = record { shared = x.count; buffers = y.count } } in
    let P : Store → Type 0 = λ t. ReadsStore d ws t in
    subst P (sym (ap (λ (v : List ℤ). store_with v y.buffers) shared) ∙ sym (ap (λ (b : List (ArrayVec ℤ)). store_with p.step.0 b) buffers) ∙ e.1)
    this
