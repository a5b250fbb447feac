-- What was read of a field is in the range of its type.
use Rattle.std.proofs.Common.{◌≡◌, ℕ, zero, suc, ◌+◌, ◌*◌, ◌^◌, ◌<◌, ◌≤◌, ◌==◌, nat_lt, nat_le, ◌&&◌, List, [], ◌∷◌, ◌++◌, length, Option, Some, None, sym, ap, subst, ◌∙◌, arith, inl, inr, length-append}
use Rattle.std.specs.Prelude.{ℤ, pos, negsuc, All, FitsSigned, codes}
use Rattle.std.specs.Int.{w16}
use Rattle.std.specs.Option.{option_and_then, option_map}
use Rattle.std.proofs.lemmas.Bool.{cases_Bool, cond-true, cond-false, and_parts, ltb-true, leb-true}
use Rattle.std.proofs.lemmas.List.Elements.{All-nil, All-push}
use Rattle.std.specs.Str.{bytes_eq}
use Rattle.arrayvec.specs.ArrayVec.{ArrayVec}
use Rattle.hex.specs.Hex.{lower_digits}
use Rattle.hex.proofs.HexLemmas.{length-encode_with}
use Rattle.mate_num.specs.declared.store.Store.{Store}
use Rattle.vm_shape.specs.declared.description.Description.{Description}
use Rattle.report_line_reader.specs.Words.{first, rest}
use Rattle.report_line_reader.specs.Numbers.{below_limit, unsigned_of, below_of, negative, positive, value_of, values_after}
use Rattle.report_line_reader.specs.Fields.{number_of, payload_of}
use Rattle.capsule_codec.specs.HexText.{bytes_of_digits}
use Rattle.report_line_reader.specs.Hex.{is_hex_word, hex_of}
use Rattle.report_line_reader.specs.Stores.{after, closed, shared_value, shared_after, item, items_after, opened, buffer_of, buffers_after, store_with, store_of}
use Rattle.mate_journal.specs.Entries.{AreValues}
use Rattle.mate_journal.specs.Ranges.{IsByteList, HasStoreRanges}
use Rattle.report_line_reader.proofs.OptionLemmas.{steps, when_some, below_some}
use Rattle.report_line_reader.proofs.NumberLemmas.{decimal-below_of}
use Rattle.report_line_reader.proofs.HexLemmas.{encode_lower-bytes_of_digits, small-bytes_of_digits}
use Rattle.report_line_reader.proofs.FieldLemmas.{maps}
use Rattle.report_line_reader.proofs.StoreLemmas.{only_end}

-- ---- numbers

pub first-told : {A : Type 0} (tells : List ℕ → Option A) (P : A → Type 0) → ((w : List ℕ) (a : A) → tells w ≡ Some a → P a) → (ws : List (List ℕ)) (a : A) → first tells ws ≡ Some a → P a
first-told tells P h [] a e = absurd cc
first-told tells P h (w ∷ ws) a e = h w a e

pub small-number : (ws : List (List ℕ)) (n : ℕ) → first number_of ws ≡ Some n → n < 2 ^ 32
small-number ws n h = first-told number_of (λ m. m < 2 ^ 32) (λ w m e. (decimal-below_of (2 ^ 32) w m e).below) ws n h

pub small-unsigned : (w : List ℕ) (n : ℕ) → unsigned_of w ≡ Some n → n < 2 ^ 64
small-unsigned w n h =
    let numeral = when_some (Rattle.report_line_reader.specs.Numbers.is_plain_numeral w) (below_limit (2 ^ 64) (Rattle.std.specs.Str.Parse.digits_value 10 w)) n h in
    let below = below_some (Rattle.std.specs.Str.Parse.digits_value 10 w) (2 ^ 64) n numeral.1 in
    let P : ℕ → Type 0 = λ m. m < 2 ^ 64 in subst P below.1 below.0

-- ---- values

Fits16 : ℤ → Type 0
Fits16 v = FitsSigned w16 v

negative-fits : (n : ℕ) (v : ℤ) → negative n ≡ Some v → FitsSigned w16 v
negative-fits zero v h = absurd cc
negative-fits (suc n) v h =
    let parts = when_some (nat_lt n 32768) (Some (negsuc n)) v h in
    let same : negsuc n ≡ v = cc (parts.1) in
    let this : FitsSigned w16 (negsuc n) = record { sfits = ltb-true n 32768 parts.0 } in
    subst (λ (x : ℤ). FitsSigned w16 x) same this

positive-fits : (n : ℕ) (v : ℤ) → positive n ≡ Some v → FitsSigned w16 v
positive-fits n v h =
    let parts = when_some (nat_lt n 32768) (Some (pos n)) v h in
    let same : pos n ≡ v = cc (parts.1) in
    let this : FitsSigned w16 (pos n) = record { sfits = ltb-true n 32768 parts.0 } in
    subst (λ (x : ℤ). FitsSigned w16 x) same this

pub value-fits : (w : List ℕ) (v : ℤ) → value_of w ≡ Some v → FitsSigned w16 v
value-fits [] v h = absurd cc
value-fits (b ∷ bs) v h =
    elim (cases_Bool (b == 45)) [
      | inl minus ↦ let read = steps negative (unsigned_of bs) v (sym (cond-true (b == 45) _ _ minus) ∙ h) in negative-fits read.step v read.gives
      | inr digit ↦ let read = steps positive (unsigned_of (b ∷ bs)) v (sym (cond-false (b == 45) _ _ digit) ∙ h) in positive-fits read.step v read.gives
    ]

push-values : (before : List ℤ) (v : ℤ) → AreValues before → length before < 10 → FitsSigned w16 v → AreValues (before ++ v ∷ [])
push-values before v h room this =
    let n : length (before ++ v ∷ []) ≡ length before + 1 = length-append before (v ∷ []) in
    (omega (arith, n, room), All-push (λ (x : ℤ). FitsSigned w16 x) before v h.1 this)

no_values : AreValues []
no_values = (omega arith, All-nil (λ (x : ℤ). FitsSigned w16 x))

values-fit : (before : List ℤ) (ws : List (List ℕ)) (all : List ℤ) → AreValues before → values_after before ws ≡ Some all → AreValues all
values-fit before [] all are h = let e : before ≡ all = cc h in subst AreValues e are
values-fit before (w ∷ ws) all are h =
    let s = steps _ (value_of w) all h in
    let more = when_some (nat_lt (length before) 10) (values_after (before ++ s.step ∷ []) ws) all s.gives in
    values-fit (before ++ s.step ∷ []) ws all (push-values before s.step are (ltb-true (length before) 10 more.0) (value-fits w s.step s.was)) more.1

pub payload-fits : (ws : List (List ℕ)) (p : ArrayVec ℤ) → payload_of ws ≡ Some p → AreValues p.items
payload-fits ws p h =
    let m = maps (λ (vs : List ℤ). let x : ArrayVec ℤ = record { items = vs } in x) (values_after [] ws) p h in
    subst AreValues (ap (λ (x : ArrayVec ℤ). x.items) m.gives) (values-fit [] ws m.value no_values m.was)

-- ---- bytes

pub record AreBytes (most : ℕ) (bytes : List ℕ) : Type 0 where
  pub few : length bytes ≤ most
  pub list : IsByteList bytes

pub hex-bytes : (most : ℕ) (w : List ℕ) (v : ArrayVec ℕ) → hex_of most w ≡ Some v → AreBytes most v.items
hex-bytes most w v h =
    let parts = when_some (is_hex_word w && nat_le (length w) (2 * most)) (Some (let x : ArrayVec ℕ = record { items = bytes_of_digits w } in x)) v h in
    let tests = and_parts (is_hex_word w) (nat_le (length w) (2 * most)) parts.0 in
    let same = ap (λ (x : List ℕ). length x) (encode_lower-bytes_of_digits w tests.0) in
    let few : length w ≤ 2 * most = leb-true (length w) (2 * most) tests.1 in
    let this : AreBytes most (bytes_of_digits w) = record { few = omega (arith, same, few, length-encode_with lower_digits (bytes_of_digits w)); list = small-bytes_of_digits w tests.0 } in
    let is : bytes_of_digits w ≡ v.items = ap (λ (o : Option (ArrayVec ℕ)). elim o [ Some x ↦ x.items | None ↦ [] ]) parts.1 in
    subst (AreBytes most) is this

-- ---- stores

shared-fit : (before : List ℤ) (names ws : List (List ℕ)) (r : List ℤ × List (List ℕ)) → All (λ (v : ℤ). FitsSigned w16 v) before → shared_after before names ws ≡ Some r
    → All (λ (v : ℤ). FitsSigned w16 v) r.0
shared-fit before [] ws r are h =
    let e : (before, ws) ≡ r = cc h in
    subst (All (λ (v : ℤ). FitsSigned w16 v)) (ap (λ (x : List ℤ × List (List ℕ)). x.0) e) are
shared-fit before (name ∷ names) ws r are h =
    let s = steps _ (first (shared_value name) ws) r h in
    let this : FitsSigned w16 s.step =
    first-told (shared_value name) (λ (v : ℤ). FitsSigned w16 v)
    (λ w v e. (let t = steps value_of (option_and_then (after (codes "=")) (after name w)) v e in value-fits t.step v t.gives)) ws s.step s.was in
    shared-fit (before ++ s.step ∷ []) names (rest ws) r (All-push (λ (v : ℤ). FitsSigned w16 v) before s.step are this) s.gives

last-fits : (inner : List ℕ) (before : List ℤ) (ws : List (List ℕ)) (r : List ℤ × List (List ℕ)) → AreValues before → length before < 10
    → option_map (λ (v : ℤ). let x : List ℤ × List (List ℕ) = (before ++ v ∷ [], ws) in x) (value_of inner) ≡ Some r → AreValues r.0
last-fits inner before ws r are room h =
    let m = maps (λ (v : ℤ). let x : List ℤ × List (List ℕ) = (before ++ v ∷ [], ws) in x) (value_of inner) r h in
    subst AreValues (ap (λ (x : List ℤ × List (List ℕ)). x.0) m.gives) (push-values before m.value are room (value-fits inner m.value m.was))

item-fits : (c : Option (List ℕ)) (before : List ℤ) (w : List ℕ) (ws : List (List ℕ)) (r : List ℤ × List (List ℕ)) (go : List ℤ → Option (List ℤ × List (List ℕ)))
    → AreValues before → length before < 10 → ((v : ℤ) → AreValues (before ++ v ∷ []) → go (before ++ v ∷ []) ≡ Some r → AreValues r.0)
    → item c before w ws go ≡ Some r → AreValues r.0
item-fits (Some inner) before w ws r go are room more h = last-fits inner before ws r are room h
item-fits None before w ws r go are room more h =
    let s = steps (λ (v : ℤ). go (before ++ v ∷ [])) (value_of w) r h in
    more s.step (push-values before s.step are room (value-fits w s.step s.was)) s.gives

items-fit : (before : List ℤ) (w : List ℕ) (ws : List (List ℕ)) (r : List ℤ × List (List ℕ)) → AreValues before → items_after before w ws ≡ Some r → AreValues r.0
items-fit before w [] r are h =
    let room = when_some (nat_lt (length before) 10) (item (closed w) before w [] (λ more. None)) r h in
    item-fits (closed w) before w [] r (λ more. None) are (ltb-true (length before) 10 room.0) (λ v fits none. absurd cc) room.1
items-fit before w (u ∷ ws) r are h =
    let room = when_some (nat_lt (length before) 10) (item (closed w) before w (u ∷ ws) (λ more. items_after more u ws)) r h in
    item-fits (closed w) before w (u ∷ ws) r (λ more. items_after more u ws) are (ltb-true (length before) 10 room.0)
    (λ v fits goes. items-fit (before ++ v ∷ []) u ws r fits goes) room.1

opened-fit : (w : List ℕ) (ws : List (List ℕ)) (r : List ℤ × List (List ℕ)) → opened w ws ≡ Some r → AreValues r.0
opened-fit w ws r h =
    elim (cases_Bool (bytes_eq w (codes "]"))) [
      | inl none ↦
          let pair : List ℤ × List (List ℕ) = ([], ws) in
          let e : Some pair ≡ Some r = sym (cond-true (bytes_eq w (codes "]")) _ _ none) ∙ h in
          let same : pair ≡ r = cc in
          subst AreValues (ap (λ (x : List ℤ × List (List ℕ)). x.0) same) no_values
      | inr some ↦ items-fit [] w ws r no_values (sym (cond-false (bytes_eq w (codes "]")) _ _ some) ∙ h)
    ]

AreBuffers : List (ArrayVec ℤ) → Type 0
AreBuffers bs = All (λ (b : ArrayVec ℤ). AreValues b.items) bs

buffers-fit : (before : List (ArrayVec ℤ)) (names ws : List (List ℕ)) (r : List (ArrayVec ℤ) × List (List ℕ)) → All (λ (b : ArrayVec ℤ). AreValues b.items) before
    → buffers_after before names ws ≡ Some r → All (λ (b : ArrayVec ℤ). AreValues b.items) r.0
buffers-fit before [] ws r are h =
    let e : (before, ws) ≡ r = cc h in
    subst (All (λ (b : ArrayVec ℤ). AreValues b.items)) (ap (λ (x : List (ArrayVec ℤ) × List (List ℕ)). x.0) e) are
buffers-fit before (name ∷ names) ws r are h =
    let s = steps _ (buffer_of name ws) r h in
    let b : ArrayVec ℤ = record { items = s.step.0 } in
    let o = steps (λ (word : List ℕ). opened word (rest ws)) (first (λ word. option_and_then (after (codes "=[")) (after name word)) ws) s.step s.was in
    let this : AreValues s.step.0 = opened-fit o.step (rest ws) s.step o.gives in
    buffers-fit (before ++ b ∷ []) names s.step.1 r (All-push (λ (x : ArrayVec ℤ). AreValues x.items) before b are this) s.gives

pub store-fits : (d : Description) (ws : List (List ℕ)) (s : Store) → store_of d ws ≡ Some s → HasStoreRanges s
store-fits d ws s h =
    let p = steps _ (shared_after [] d.shared.items ws) s h in
    let q = steps _ (buffers_after [] d.buffers.items p.step.1) s p.gives in
    let e = only_end (store_with p.step.0 q.step.0) s q.step.1 q.gives in
    let shared = shared-fit [] d.shared.items ws p.step (All-nil (λ (v : ℤ). FitsSigned w16 v)) p.was in
    let buffers = buffers-fit [] d.buffers.items p.step.1 q.step (All-nil (λ (b : ArrayVec ℤ). AreValues b.items)) q.was in
    subst HasStoreRanges e.1 (shared, buffers)
