-- Lemmas on a heap's fields: what its store is, and what a write of one field makes of it.
use Rattle.std.proofs.Common.{◌≡◌, ℕ, ◌+◌, ◌*◌, ◌<◌, ◌≤◌, ℤ, pos, List, [], ◌∷◌, ◌++◌, take, drop, length, get_or, set, replicate, Bool, true, Ok, Err, refl, ap, sym, subst, ◌∙◌, arith}
use Rattle.std.specs.Prelude.{nat_lt, if◌then◌else◌}
use Rattle.std.proofs.lemmas.Bool.Decides.{nat_tests}
use Rattle.std.specs.List.{All}
use Rattle.std.proofs.lemmas.Slice.{drop-put_mid}
use Rattle.std.proofs.lemmas.List.{length-replicate, take_at, take-replicate, drop-drop, drop-set-add, drop-set-lt, length-take-le, length-drop, set-set, take-take, take_more_set, get_or-take, take-set-le}
use Rattle.std.proofs.Math.Seq.{take-set-lt}
use Rattle.std.proofs.lemmas.List.Elements.{All-take}
use Rattle.arrayvec.specs.ArrayVec.{ArrayVec}
use Rattle.mate_num.specs.Store.{payload, zero_store, buffer_at, set_value, set_buffer, appended, item_set}
use Rattle.mate_num.specs.declared.call.FaultKind.TheVariants.{Index, BufferFull}
use Rattle.node_heap.specs.Changes.{ChangesBuffer}
use Rattle.mate_num.specs.declared.store.Store.{Store}
use Rattle.node_heap.specs.declared.heap.Heap.TheInside.{Inside}
use Rattle.node_heap.specs.Heap.{held_store, IsHeap}
use Rattle.node_heap.specs.Blocks.{rows, start_of, values_of}
use Rattle.node_heap.proofs.BlockLemmas.{length-rows, rows_at, rows-set_value, rows-set_length, rows-empty}

-- the fields h of a heap that contracts see as the store s
pub record Opened (h : Inside) (s : Store) : Type 0 where
  pub is : IsHeap h
  pub values : length h.values ≡ 96
  pub lengths : length h.lengths ≡ 8
  pub view : held_store h ≡ s

module _ (h : Inside) (o : Opened h (held_store h)) where
  length-buffers : length (held_store h).buffers.items ≡ h.buffers
  length-buffers =
      let e : length h.lengths ≡ 8 = o.lengths in
      let f : h.buffers ≤ 8 = o.is.buffers_fit in
      length-rows (take h.buffers h.lengths) (drop 16 h.values) ∙ length-take-le h.buffers h.lengths (omega arith)

  length-shared : length (held_store h).shared.items ≡ h.shared
  length-shared =
      let e : length h.values ≡ 96 = o.values in
      let f : h.shared ≤ 16 = o.is.shared_fits in
      length-take-le h.shared h.values (omega arith)

  below-8 : (b : ℕ) → b < length (held_store h).buffers.items → b < 8
  below-8 b lt = let e = length-buffers in let f : h.buffers ≤ 8 = o.is.buffers_fit in omega arith

  below-16 : (v : ℕ) → v < length (held_store h).shared.items → v < 16
  below-16 v lt = let e = length-shared in let f : h.shared ≤ 16 = o.is.shared_fits in omega arith

  length_fits : (b : ℕ) → b < length (held_store h).buffers.items → get_or h.lengths b 0 ≤ 10
  length_fits b lt = o.is.lengths_fit b 0 (let e : length h.lengths ≡ 8 = o.lengths in let f = below-8 b lt in omega arith)

  buffer-is : (b : ℕ) → b < length (held_store h).buffers.items → buffer_at (held_store h) b ≡ values_of h.values h.lengths b
  buffer-is b lt =
      let e = length-buffers in
      let in' : b < length (take h.buffers h.lengths) = rw (length-take-le h.buffers h.lengths (let f : h.buffers ≤ 8 = o.is.buffers_fit in let g : length h.lengths ≡ 8 = o.lengths in omega arith)) (omega arith) in
      ap (λ (p : ArrayVec ℤ). p.items) (rows_at (take h.buffers h.lengths) (drop 16 h.values) b (payload []) in')
      ∙ rw (get_or-take h.buffers h.lengths b 0 (omega arith), drop-drop (b * 10) 16 h.values) refl

  -- the parts of a store
  parts : {a b : List ℤ} {r s : List (ArrayVec ℤ)} → a ≡ b → r ≡ s → ◌≡◌ {A = Store} record { shared = record { items = a }; buffers = record { items = r } } record { shared = record { items = b }; buffers = record { items = s } }
  parts {a} {b} {r} {s} e f =
      ap (λ (xs : List ℤ). record { shared = record { items = xs }; buffers = record { items = r } }) e
      ∙ ap (λ (xs : List (ArrayVec ℤ)). record { shared = record { items = b }; buffers = record { items = xs } }) f

  store_of-put : (v : ℕ) (x : ℤ) → v < length (held_store h).shared.items → held_store (record h { values = set h.values v x }) ≡ set_value (held_store h) v x
  store_of-put v x lt =
      let e = length-shared in
      let small = below-16 v lt in
      parts (take-set-lt h.shared h.values v x (omega arith)) (ap (λ (ys : List ℤ). rows (take h.buffers h.lengths) ys) (drop-set-lt 16 h.values v x small))

  store_of-put_all : (xs : List ℤ) → length xs ≡ length (held_store h).shared.items → held_store (record h { values = xs ++ drop (length xs) h.values }) ≡ record (held_store h) { shared = record { items = xs } }
  store_of-put_all xs len =
      let e = length-shared in
      let small : h.shared ≤ 16 = o.is.shared_fits in
      parts (take_at xs (drop (length xs) h.values) h.shared (omega arith))
      (ap (λ (ys : List ℤ). rows (take h.buffers h.lengths) ys) (drop-put_mid 0 (length xs) h.values xs 16 (omega arith) (omega arith) refl))

  first_lengths_fit : All (λ n. n ≤ 10) (take h.buffers h.lengths)
  first_lengths_fit = All-take (λ (n : ℕ). n ≤ 10) h.buffers h.lengths o.is.lengths_fit

  in_rows : (b : ℕ) → b < length (held_store h).buffers.items → b < length (take h.buffers h.lengths)
  in_rows b lt =
      let e = length-buffers in
      let f : h.buffers ≤ 8 = o.is.buffers_fit in
      let g : length h.lengths ≡ 8 = o.lengths in
      rw (length-take-le h.buffers h.lengths (omega arith)) (omega arith)

  -- the block's buffers after a write at place i of buffer b
  rows_written : (b i : ℕ) (x : ℤ) → b < length (held_store h).buffers.items → i < 10 → rows (take h.buffers h.lengths) (drop 16 (set h.values (start_of b + i) x)) ≡ set (held_store h).buffers.items b (payload (take (get_or h.lengths b 0) (set (drop (start_of b) h.values) i x)))
  rows_written b i x lt small =
      let place : start_of b + i ≡ 16 + (b * 10 + i) = omega arith in
      let e = length-buffers in
      rw (place, drop-set-add 16 h.values (b * 10 + i) x, rows-set_value (take h.buffers h.lengths) (drop 16 h.values) b i x first_lengths_fit (in_rows b lt) small, get_or-take h.buffers h.lengths b 0 (omega arith), drop-drop (b * 10) 16 h.values) refl

  shared_written : (b i : ℕ) (x : ℤ) → take h.shared (set h.values (start_of b + i) x) ≡ take h.shared h.values
  shared_written b i x = let f : h.shared ≤ 16 = o.is.shared_fits in take-set-le h.shared h.values (start_of b + i) x (omega arith)

  store_of-set_item : (b i : ℕ) (x : ℤ) → b < length (held_store h).buffers.items → i < get_or h.lengths b 0 → held_store (record h { values = set h.values (start_of b + i) x }) ≡ set_buffer (held_store h) b (set (buffer_at (held_store h) b) i x)
  store_of-set_item b i x lt in' =
      let fits = length_fits b lt in
      parts (shared_written b i x)
      (rows_written b i x lt (omega arith)
      ∙ ap (λ (ys : List ℤ). set (held_store h).buffers.items b (payload ys)) (take-set-lt (get_or h.lengths b 0) (drop (start_of b) h.values) i x in' ∙ sym (ap (λ (ys : List ℤ). set ys i x) (buffer-is b lt))))

  rows_resized : (b m : ℕ) (ys : List ℤ) → b < length (held_store h).buffers.items → rows (take h.buffers (set h.lengths b m)) ys ≡ set (rows (take h.buffers h.lengths) ys) b (payload (take m (drop (b * 10) ys)))
  rows_resized b m ys lt =
      let e = length-buffers in
      rw (take-set-lt h.buffers h.lengths b m (omega arith)) (rows-set_length (take h.buffers h.lengths) ys b m (in_rows b lt))

  store_of-shorter : (b m : ℕ) → b < length (held_store h).buffers.items → m ≤ get_or h.lengths b 0 → held_store (record h { lengths = set h.lengths b m }) ≡ set_buffer (held_store h) b (take m (buffer_at (held_store h) b))
  store_of-shorter b m lt le =
      parts refl
      (rows_resized b m (drop 16 h.values) lt
      ∙ ap (λ (ys : List ℤ). set (held_store h).buffers.items b (payload ys))
      (ap (λ (ys : List ℤ). take m ys) (drop-drop (b * 10) 16 h.values) ∙ sym (ap (λ (ys : List ℤ). take m ys) (buffer-is b lt) ∙ take-take m (get_or h.lengths b 0) (drop (start_of b) h.values) le)))

  length_room : (b : ℕ) → b < 8 → 10 ≤ length (drop (start_of b) h.values)
  length_room b lt = let e : length h.values ≡ 96 = o.values in rw (length-drop (start_of b) h.values) (omega arith)

  store_of-append : (b : ℕ) (x : ℤ) → b < length (held_store h).buffers.items → get_or h.lengths b 0 < 10 → held_store (record h { values = set h.values (start_of b + get_or h.lengths b 0) x; lengths = set h.lengths b (get_or h.lengths b 0 + 1) }) ≡ set_buffer (held_store h) b (buffer_at (held_store h) b ++ x ∷ [])
  store_of-append b x lt room =
      let n : ℕ = get_or h.lengths b 0 in
      let wide = length_room b (below-8 b lt) in
      let ys : List ℤ = drop (start_of b) h.values in
      parts (shared_written b n x)
      (rows_resized b (n + 1) (drop 16 (set h.values (start_of b + n) x)) lt
      ∙ ap (λ (r : List (ArrayVec ℤ)). set r b (payload (take (n + 1) (drop (b * 10) (drop 16 (set h.values (start_of b + n) x)))))) (rows_written b n x lt room)
      ∙ set-set (held_store h).buffers.items b (payload (take n (set ys n x))) (payload (take (n + 1) (drop (b * 10) (drop 16 (set h.values (start_of b + n) x)))))
      ∙ ap (λ (zs : List ℤ). set (held_store h).buffers.items b (payload zs))
      (ap (λ (zs : List ℤ). take (n + 1) zs) (drop-drop (b * 10) 16 (set h.values (start_of b + n) x) ∙ drop-set-add (start_of b) h.values n x) ∙ take_more_set ys n x (omega arith) ∙ sym (ap (λ (zs : List ℤ). zs ++ x ∷ []) (buffer-is b lt))))

  -- how many values are in a buffer
  length-buffer : (b : ℕ) → b < length (held_store h).buffers.items → length (buffer_at (held_store h) b) ≡ get_or h.lengths b 0
  length-buffer b lt =
      let fits = length_fits b lt in
      let wide = length_room b (below-8 b lt) in
      rw (buffer-is b lt) (length-take-le (get_or h.lengths b 0) (drop (start_of b) h.values) (omega arith))

-- the same, of the store that contracts see
module _ {h : Inside} {s : Store} (o : Opened h s) where
  its_own : Opened h (held_store h)
  its_own = record { is = o.is; values = o.values; lengths = o.lengths; view = refl }

  pub count_is : h.buffers ≡ length s.buffers.items
  count_is = let P : Store → Type 0 = λ s. h.buffers ≡ length s.buffers.items in subst P o.view (sym (length-buffers h its_own))

  module _ (b : ℕ) (lt : b < length s.buffers.items) where
    within : b < length (held_store h).buffers.items
    within = let P : Store → Type 0 = λ s. b < length s.buffers.items in subst P (sym o.view) lt

    pub is-below-8 : b < 8
    is-below-8 = below-8 h its_own b within

    pub size_fits : get_or h.lengths b 0 ≤ 10
    size_fits = length_fits h its_own b within

    pub values_end : start_of b + get_or h.lengths b 0 ≤ 96
    values_end = let e = is-below-8 in let f = size_fits in omega arith

    pub values-are : values_of h.values h.lengths b ≡ buffer_at s b
    values-are = let P : Store → Type 0 = λ s. values_of h.values h.lengths b ≡ buffer_at s b in subst P o.view (sym (buffer-is h its_own b within))

    pub size_is : length (buffer_at s b) ≡ get_or h.lengths b 0
    size_is = let P : Store → Type 0 = λ s. length (buffer_at s b) ≡ get_or h.lengths b 0 in subst P o.view (length-buffer h its_own b within)

    pub with_item : (i : ℕ) (x : ℤ) → i < get_or h.lengths b 0 → held_store (record h { values = set h.values (start_of b + i) x }) ≡ set_buffer s b (set (buffer_at s b) i x)
    with_item i x in' =
        let P : Store → Type 0 = λ s. held_store (record h { values = set h.values (start_of b + i) x }) ≡ set_buffer s b (set (buffer_at s b) i x) in
        subst P o.view (store_of-set_item h its_own b i x within in')

    pub with_more : (x : ℤ) → get_or h.lengths b 0 < 10 → held_store (record h { values = set h.values (start_of b + get_or h.lengths b 0) x; lengths = set h.lengths b (get_or h.lengths b 0 + 1) }) ≡ set_buffer s b (buffer_at s b ++ x ∷ [])
    with_more x room =
        let P : Store → Type 0 = λ s. held_store (record h { values = set h.values (start_of b + get_or h.lengths b 0) x; lengths = set h.lengths b (get_or h.lengths b 0 + 1) }) ≡ set_buffer s b (buffer_at s b ++ x ∷ []) in
        subst P o.view (store_of-append h its_own b x within room)

    pub with_fewer : (m : ℕ) → m ≤ get_or h.lengths b 0 → held_store (record h { lengths = set h.lengths b m }) ≡ set_buffer s b (take m (buffer_at s b))
    with_fewer m le =
        let P : Store → Type 0 = λ s. held_store (record h { lengths = set h.lengths b m }) ≡ set_buffer s b (take m (buffer_at s b)) in
        subst P o.view (store_of-shorter h its_own b m within le)

  pub with_values : (xs ys : List ℤ) → ys ≡ xs → length xs ≡ length s.shared.items → held_store (record h { values = ys ++ drop (length xs) h.values }) ≡ record s { shared = record { items = xs } }
  with_values xs ys same len =
      let P : Store → Type 0 = λ s. length xs ≡ length s.shared.items → held_store (record h { values = xs ++ drop (length xs) h.values }) ≡ record s { shared = record { items = xs } } in
      let Q : List ℤ → Type 0 = λ zs. held_store (record h { values = zs ++ drop (length xs) h.values }) ≡ record s { shared = record { items = xs } } in
      subst Q (sym same) (subst P o.view (store_of-put_all h its_own xs) len)

  pub with_value : (v : ℕ) (x : ℤ) → v < length s.shared.items → held_store (record h { values = set h.values v x }) ≡ set_value s v x
  with_value v x lt =
      let P : Store → Type 0 = λ s. v < length s.shared.items → held_store (record h { values = set h.values v x }) ≡ set_value s v x in
      subst P o.view (store_of-put h its_own v x) lt

-- the store of a new heap
pub store_of-new : (shared buffers : ℕ) → shared ≤ 16 → buffers ≤ 8 → held_store record { shared = shared; buffers = buffers; values = replicate 96 (pos 0); lengths = replicate 8 0 } ≡ zero_store shared buffers
store_of-new shared buffers few_shared few_buffers =
    let zeros : List ℤ = drop 16 (replicate 96 (pos 0)) in
    ap (λ (xs : List ℤ). record { shared = record { items = xs }; buffers = record { items = rows (take buffers (replicate 8 0)) zeros } }) (take-replicate shared 96 (pos 0) (omega arith))
    ∙ ap (λ (ns : List ℕ). record { shared = record { items = replicate shared (pos 0) }; buffers = record { items = rows ns zeros } }) (take-replicate buffers 8 0 few_buffers)
    ∙ ap (λ (r : List (ArrayVec ℤ)). record { shared = record { items = replicate shared (pos 0) }; buffers = record { items = r } }) (rows-empty buffers zeros)

-- the store of one that begins anew in its place
pub store_of-restarted : (shared buffers : ℕ) (xs ys : List ℤ) → xs ≡ replicate shared (pos 0) → buffers ≤ 8 → held_store record { shared = shared; buffers = buffers; values = xs ++ ys; lengths = replicate 8 0 } ≡ zero_store shared buffers
store_of-restarted shared buffers xs ys zeros few_buffers =
    let behind : List ℤ = drop 16 (xs ++ ys) in
    let long = ap length zeros in
    let count = length-replicate shared (pos 0) in
    ap (λ (zs : List ℤ). record { shared = record { items = zs }; buffers = record { items = rows (take buffers (replicate 8 0)) behind } }) (take_at xs ys shared (omega (arith, long, count)) ∙ zeros)
    ∙ ap (λ (ns : List ℕ). record { shared = record { items = replicate shared (pos 0) }; buffers = record { items = rows ns behind } }) (take-replicate buffers 8 0 few_buffers)
    ∙ ap (λ (r : List (ArrayVec ℤ)). record { shared = record { items = replicate shared (pos 0) }; buffers = record { items = r } }) (rows-empty buffers behind)

-- what the calls leave that change a buffer
module _ {h : Inside} {s : Store} (o : Opened h s) (b : ℕ) (lt : b < length s.buffers.items) where
  pub append-Changes : (place size at : ℕ) (x y : ℤ) → y ≡ x → size ≡ length (buffer_at s b) → place ≡ start_of b + size → at ≡ b → size < 10 → ChangesBuffer s b (appended (buffer_at s b) x) (Ok tt) (held_store (record h { values = set h.values place y; lengths = set h.lengths at (size + 1) }))
  append-Changes place size at x y same is-size is-place is-at room =
      let n : ℕ = get_or h.lengths b 0 in
      let e : size ≡ n = is-size ∙ size_is o b lt in
      let p : place ≡ start_of b + n = omega arith in
      let whole : held_store (record h { values = set h.values place y; lengths = set h.lengths at (size + 1) }) ≡ set_buffer s b (buffer_at s b ++ x ∷ []) =
      rw (same, is-at, p, e) (with_more o b lt x (omega arith)) in
      let t : nat_lt (length (buffer_at s b)) 10 ≡ true = grind (arith, nat_tests) in
      let P : Bool → Type 0 = λ v. ChangesBuffer s b (if v then Ok (buffer_at s b ++ x ∷ []) else Err BufferFull) (Ok tt) (held_store (record h { values = set h.values place y; lengths = set h.lengths at (size + 1) })) in
      subst P (sym t) (refl, whole)

  pub set_item-Changes : (place i : ℕ) (index x y : ℤ) → y ≡ x → index ≡ pos i → i < length (buffer_at s b) → place ≡ start_of b + i → ChangesBuffer s b (item_set (buffer_at s b) index x) (Ok tt) (held_store (record h { values = set h.values place y }))
  set_item-Changes place i index x y same is-index in' is-place =
      let e : length (buffer_at s b) ≡ get_or h.lengths b 0 = size_is o b lt in
      let whole : held_store (record h { values = set h.values place y }) ≡ set_buffer s b (set (buffer_at s b) i x) =
      rw (same, is-place) (with_item o b lt i x (omega arith)) in
      let t : nat_lt i (length (buffer_at s b)) ≡ true = grind (arith, nat_tests) in
      let P : Bool → Type 0 = λ v. ChangesBuffer s b (if v then Ok (set (buffer_at s b) i x) else Err Index) (Ok tt) (held_store (record h { values = set h.values place y })) in
      let Q : ℤ → Type 0 = λ j. ChangesBuffer s b (item_set (buffer_at s b) j x) (Ok tt) (held_store (record h { values = set h.values place y })) in
      subst Q (sym is-index) (subst P (sym t) (refl, whole))

  pub shorter_is : (at m : ℕ) → at ≡ b → m ≤ length (buffer_at s b) → held_store (record h { lengths = set h.lengths at m }) ≡ set_buffer s b (take m (buffer_at s b))
  shorter_is at m is-at le = let e = size_is o b lt in rw is-at (with_fewer o b lt m (omega arith))
