-- Lists of contexts, none twice: one more at the end, one less, and that there are at most 16.
use Rattle.std.proofs.Common.{◌≡◌, ◌≢◌, ℕ, ◌+◌, ◌-◌, ◌<◌, ◌≤◌, Bool, true, false, not, eqb, List, [], ◌∷◌, ◌++◌, Some, None, length, get_or, take, drop, map, slice_get, ◌||◌, ◌∙◌, sym, ap, refl, subst, arith, inl, inr, cond}
use Rattle.std.specs.List.{list_any, IsDistinct, AllByRecursion}
use Rattle.std.proofs.lemmas.List.{length-append, length-map, take_more, drop_more, take_all, drop_all, append_assoc, append-nil}
use Rattle.std.proofs.lemmas.List.Folds.{list_any-append}
use Rattle.std.proofs.lemmas.List.Elements.{filter-append}
use Rattle.std.proofs.lemmas.Bool.{cases_eq, eqb-true, eq-eqb, ne_eqb, or_parts, or_from, or_cases, or_left, or_right}
use Rattle.std.proofs.lemmas.Map.Steps.{length-le_from_distinct_below}
use Rattle.circular_buffer.specs.Buffer.{Buffer, buffer, keep_last}
use Rattle.mate_num.specs.declared.id.ContextId.{ContextId}
use Rattle.context_sched.specs.Ready.{is_same, holds, without, AreContexts, Changes}

-- ---- one more at the end
holds-push : (xs : List ContextId) (x c : ContextId) → holds (xs ++ x ∷ []) c ≡ (holds xs c || (is_same c x || false))
holds-push xs x c = list_any-append (is_same c) xs (x ∷ [])

is_same-comm : (a b : ContextId) → is_same a b ≡ is_same b a
is_same-comm a b = elim (cases_eq a.0 b.0) [
  | inl e ↦ eq-eqb a.0 b.0 e ∙ sym (eq-eqb b.0 a.0 (sym e))
  | inr ne ↦ ne_eqb a.0 b.0 ne ∙ sym (ne_eqb b.0 a.0 (λ e. ne (sym e)))
]

pub AreContexts-push : (xs : List ContextId) (ctx : ContextId) → ctx.0 < 16 → AreContexts xs → holds xs ctx ≡ false → AreContexts (xs ++ ctx ∷ [])
AreContexts-push [] ctx within all absent = (within, refl, tt)
AreContexts-push (x ∷ xs) ctx within all absent =
    let apart : (is_same ctx x ≡ false) × (holds xs ctx ≡ false) = or_parts (is_same ctx x) (holds xs ctx) absent in
    (all.0, holds-push xs ctx x ∙ or_from (holds xs x) (is_same x ctx || false) all.1 (or_from (is_same x ctx) false (is_same-comm x ctx ∙ apart.0) refl), AreContexts-push xs ctx within all.2 apart.1)

pub Changes-push : (xs ys : List ContextId) (ctx : ContextId) → ys ≡ xs ++ ctx ∷ [] → Changes xs ys ctx true
Changes-push xs ys ctx e = record {
  here = ap (λ (l : List ContextId). holds l ctx) e ∙ holds-push xs ctx ctx ∙ or_right (holds xs ctx) (is_same ctx ctx || false) (or_left (is_same ctx ctx) false (eq-eqb ctx.0 ctx.0 refl));
  others = λ c ne. ap (λ (l : List ContextId). holds l c) e ∙ holds-push xs ctx c ∙ other c ne (holds xs c);
} where
  other : (c : ContextId) → c.0 ≢ ctx.0 → (b : Bool) → (b || (is_same c ctx || false)) ≡ b
  other c ne true = refl
  other c ne false = or_from (is_same c ctx) false (ne_eqb c.0 ctx.0 ne) refl

-- ---- at most 16
numbers : List ContextId → List ℕ
numbers xs = map (λ (c : ContextId). c.0) xs

apart-from_holds : (xs : List ContextId) (ctx : ContextId) → holds xs ctx ≡ false → AllByRecursion (λ y. eqb ctx.0 y ≡ false) (numbers xs)
unfolding numbers
apart-from_holds [] ctx absent = tt
apart-from_holds (x ∷ xs) ctx absent =
    let apart : (is_same ctx x ≡ false) × (holds xs ctx ≡ false) = or_parts (is_same ctx x) (holds xs ctx) absent in
    (apart.0, apart-from_holds xs ctx apart.1)

IsDistinct-numbers : (xs : List ContextId) → AreContexts xs → IsDistinct eqb (numbers xs)
unfolding IsDistinct numbers
IsDistinct-numbers [] all = tt
IsDistinct-numbers (x ∷ xs) all = (apart-from_holds xs x all.1, IsDistinct-numbers xs all.2)

below-numbers : (xs : List ContextId) → AreContexts xs → (q : ℕ) → list_any (eqb q) (numbers xs) ≡ true → q < 16
unfolding numbers
below-numbers [] all q found = absurd (let e : false ≡ true = found in cc)
below-numbers (x ∷ xs) all q found = elim (or_cases (eqb q x.0) (list_any (eqb q) (numbers xs)) found) [
  | inl here ↦ (let e = eqb-true q x.0 here in let below = all.0 in omega arith)
  | inr later ↦ below-numbers xs all.2 q later
]

pub length-contexts : (xs : List ContextId) → AreContexts xs → length xs ≤ 16
unfolding numbers
length-contexts xs all =
    let n = length-le_from_distinct_below (numbers xs) 16 (IsDistinct-numbers xs all) (below-numbers xs all) in
    let e = length-map xs (λ (c : ContextId). c.0) in
    omega arith

pub room_for : (xs : List ContextId) (ctx : ContextId) → ctx.0 < 16 → AreContexts xs → holds xs ctx ≡ false → length xs < 16
room_for xs ctx within all absent =
    let n = length-contexts (xs ++ ctx ∷ []) (AreContexts-push xs ctx within all absent) in
    let e : length (xs ++ ctx ∷ []) ≡ length xs + 1 = length-append xs (ctx ∷ []) in
    omega arith

-- a push into a buffer with room
pub keep_all : (xs : List ContextId) (x : ContextId) (n : ℕ) → length xs < n → keep_last n (xs ++ x ∷ []) ≡ xs ++ x ∷ []
keep_all xs x n room =
    let e : length (xs ++ x ∷ []) - n ≡ 0 = (let m : length (xs ++ x ∷ []) ≡ length xs + 1 = length-append xs (x ∷ []) in omega arith) in
    ap (λ (k : ℕ). drop k (xs ++ x ∷ [])) e

-- a ring's buffer of n = 16 places, which hold xs, after a push
pub pushed : (old xs : List ContextId) (ctx : ContextId) (n : ℕ) (ys : List ContextId) → xs ≡ old → n ≡ 16 → ctx.0 < 16 → AreContexts xs → holds old ctx ≡ false → ys ≡ keep_last n (xs ++ ctx ∷ []) → ys ≡ old ++ ctx ∷ []
pushed old xs ctx n ys same full within all absent e =
    let room = room_for xs ctx within all (ap (λ (l : List ContextId). holds l ctx) same ∙ absent) in
    e ∙ keep_all xs ctx n (omega arith) ∙ ap (λ (l : List ContextId). l ++ ctx ∷ []) same

pub AreContexts-pushed : (old xs : List ContextId) (ctx : ContextId) (ys : List ContextId) → xs ≡ old → ctx.0 < 16 → AreContexts xs → holds old ctx ≡ false → ys ≡ old ++ ctx ∷ [] → AreContexts ys
AreContexts-pushed old xs ctx ys same within all absent e =
    let was : AreContexts old = subst AreContexts same all in
    subst AreContexts (sym e) (AreContexts-push old ctx within was absent)

-- ---- one less
holds-without_other : (xs : List ContextId) (ctx c : ContextId) → holds xs c ≡ false → holds (without xs ctx) c ≡ false
holds-without_other [] ctx c absent = refl
holds-without_other (x ∷ xs) ctx c absent =
    let apart : (is_same c x ≡ false) × (holds xs c ≡ false) = or_parts (is_same c x) (holds xs c) absent in
    by_test (not (is_same ctx x)) apart.0 (holds-without_other xs ctx c apart.1)
  where
    by_test : (b : Bool) → is_same c x ≡ false → holds (without xs ctx) c ≡ false → holds (cond b (x ∷ without xs ctx) (without xs ctx)) c ≡ false
    by_test true apart rest = or_from (is_same c x) (holds (without xs ctx) c) apart rest
    by_test false apart rest = rest

pub AreContexts-without : (xs : List ContextId) (ctx : ContextId) → AreContexts xs → AreContexts (without xs ctx)
AreContexts-without [] ctx all = tt
AreContexts-without (x ∷ xs) ctx all = by_test (not (is_same ctx x)) (AreContexts-without xs ctx all.2)
  where
    by_test : (b : Bool) → AreContexts (without xs ctx) → AreContexts (cond b (x ∷ without xs ctx) (without xs ctx))
    by_test true rest = (all.0, holds-without_other xs ctx x all.1, rest)
    by_test false rest = rest

holds-without : (xs : List ContextId) (ctx : ContextId) → holds (without xs ctx) ctx ≡ false
holds-without [] ctx = refl
holds-without (x ∷ xs) ctx = by_test (is_same ctx x) refl (holds-without xs ctx)
  where
    by_test : (b : Bool) → is_same ctx x ≡ b → holds (without xs ctx) ctx ≡ false → holds (cond (not b) (x ∷ without xs ctx) (without xs ctx)) ctx ≡ false
    by_test true e rest = rest
    by_test false e rest = or_from (is_same ctx x) (holds (without xs ctx) ctx) e rest

holds-without_kept : (xs : List ContextId) (ctx c : ContextId) → c.0 ≢ ctx.0 → holds (without xs ctx) c ≡ holds xs c
holds-without_kept [] ctx c ne = refl
holds-without_kept (x ∷ xs) ctx c ne = by_test (is_same ctx x) refl (holds-without_kept xs ctx c ne)
  where
    by_test : (b : Bool) → is_same ctx x ≡ b → holds (without xs ctx) c ≡ holds xs c → holds (cond (not b) (x ∷ without xs ctx) (without xs ctx)) c ≡ (is_same c x || holds xs c)
    by_test true e rest =
        let apart : is_same c x ≡ false = ne_eqb c.0 x.0 (λ same. ne (same ∙ sym (eqb-true ctx.0 x.0 e))) in
        rest ∙ sym (ap (λ (t : Bool). t || holds xs c) apart)
    by_test false e rest = ap (λ (t : Bool). is_same c x || t) rest

pub Changes-without : (xs ys : List ContextId) (ctx : ContextId) → ys ≡ without xs ctx → Changes xs ys ctx false
Changes-without xs ys ctx e = record {
  here = ap (λ (l : List ContextId). holds l ctx) e ∙ holds-without xs ctx;
  others = λ c ne. ap (λ (l : List ContextId). holds l c) e ∙ holds-without_kept xs ctx c ne;
}

-- ---- once round the ring: after i turns what was not yet seen stands first, and then what was kept
abbrev pub turned : List ContextId → ContextId → ℕ → List ContextId
turned start ctx i = drop i start ++ without (take i start) ctx

turned_front : (start : List ContextId) (ctx d : ContextId) (i : ℕ) → i < length start → turned start ctx i ≡ get_or start i d ∷ (drop (i + 1) start ++ without (take i start) ctx)
turned_front start ctx d i below = ap (λ (l : List ContextId). l ++ without (take i start) ctx) (drop_more start i d below)

some_more : (start : List ContextId) (ctx x : ContextId) (items : List ContextId) (i : ℕ) → i < length start → items ≡ turned start ctx i → Some x ≡ slice_get items 0 → drop 1 items ++ without (x ∷ []) ctx ≡ turned start ctx (i + 1)
some_more start ctx x items i below is front =
    let y : ContextId = get_or start i x in
    let whole : items ≡ y ∷ (drop (i + 1) start ++ without (take i start) ctx) = is ∙ turned_front start ctx x i below in
    let first : x ≡ y = (let e : Some x ≡ Some y = front ∙ ap (λ (l : List ContextId). slice_get l 0) whole in cc) in
    let rest : drop 1 items ≡ drop (i + 1) start ++ without (take i start) ctx = ap (λ (l : List ContextId). drop 1 l) whole in
    ap (λ (l : List ContextId). l ++ without (x ∷ []) ctx) rest
    ∙ append_assoc (drop (i + 1) start) (without (take i start) ctx) (without (x ∷ []) ctx)
    ∙ ap (λ (z : ContextId). drop (i + 1) start ++ (without (take i start) ctx ++ without (z ∷ []) ctx)) first
    ∙ ap (λ (l : List ContextId). drop (i + 1) start ++ l) (sym (filter-append (λ c. not (is_same ctx c)) (take i start) (y ∷ [])))
    ∙ ap (λ (l : List ContextId). drop (i + 1) start ++ without l ctx) (sym (take_more start i x below))

without_itself : (ctx x : ContextId) → x.0 ≡ ctx.0 → without (x ∷ []) ctx ≡ []
without_itself ctx x e = ap (λ (t : Bool). cond (not t) (x ∷ []) []) (eq-eqb ctx.0 x.0 (sym e))

without_another : (ctx x : ContextId) → x.0 ≢ ctx.0 → without (x ∷ []) ctx ≡ x ∷ []
without_another ctx x ne = ap (λ (t : Bool). cond (not t) (x ∷ []) []) (ne_eqb ctx.0 x.0 (λ e. ne (sym e)))

-- the buffer after i turns
pub record IsTurned (start : List ContextId) (ctx : ContextId) (i : ℕ) (b : Buffer ContextId) : Type 0 where
  pub items : b.items ≡ turned start ctx i
  pub room : length b.items ≤ 16
  pub capacity : b.capacity ≡ 16

length-past : (items : List ContextId) (x : ContextId) → Some x ≡ slice_get items 0 → length items ≤ 16 → length (drop 1 items) < 16
length-past [] x front room = absurd (let none : Some x ≡ None = front in cc)
length-past (y ∷ items) x front room = omega arith

-- the context itself is taken and not put back
pub IsTurned-past : (start : List ContextId) (ctx x : ContextId) (i : ℕ) (b after : Buffer ContextId) → i < length start → IsTurned start ctx i b → Some x ≡ slice_get b.items 0 → x.0 ≡ ctx.0 → after ≡ buffer (drop 1 b.items) b.capacity → IsTurned start ctx (i + 1) after
IsTurned-past start ctx x i b after below was front same e =
    let rest : after.items ≡ drop 1 b.items = ap (λ (c : Buffer ContextId). c.items) e in
    let short = length-past b.items x front was.room in
    record {
      items =
          rest
          ∙ sym (append-nil (drop 1 b.items))
          ∙ ap (λ (l : List ContextId). drop 1 b.items ++ l) (sym (without_itself ctx x same))
          ∙ some_more start ctx x b.items i below was.items front;
      room = (let n : length after.items ≡ length (drop 1 b.items) = ap length rest in omega arith);
      capacity = ap (λ (c : Buffer ContextId). c.capacity) e ∙ was.capacity;
    }

-- another context goes last
pub IsTurned-round : (start : List ContextId) (ctx x : ContextId) (i : ℕ) (b mid after : Buffer ContextId) → i < length start → IsTurned start ctx i b → Some x ≡ slice_get b.items 0 → (x.0 ≡ ctx.0 → ⊥) → mid ≡ buffer (drop 1 b.items) b.capacity → after ≡ buffer (keep_last mid.capacity (mid.items ++ x ∷ [])) mid.capacity → IsTurned start ctx (i + 1) after
IsTurned-round start ctx x i b mid after below was front another e f =
    let rest : mid.items ≡ drop 1 b.items = ap (λ (c : Buffer ContextId). c.items) e in
    let full : mid.capacity ≡ 16 = ap (λ (c : Buffer ContextId). c.capacity) e ∙ was.capacity in
    let short = length-past b.items x front was.room in
    let n : length mid.items ≡ length (drop 1 b.items) = ap length rest in
    let whole : after.items ≡ mid.items ++ x ∷ [] = ap (λ (c : Buffer ContextId). c.items) f ∙ keep_all mid.items x mid.capacity (omega arith) in
    record {
      items =
          whole
          ∙ ap (λ (l : List ContextId). l ++ x ∷ []) rest
          ∙ ap (λ (l : List ContextId). drop 1 b.items ++ l) (sym (without_another ctx x another))
          ∙ some_more start ctx x b.items i below was.items front;
      room = (let m : length after.items ≡ length mid.items + 1 = ap length whole ∙ length-append mid.items (x ∷ []) in omega arith);
      capacity = ap (λ (c : Buffer ContextId). c.capacity) f ∙ full;
    }

-- a turn always finds a context
pub IsTurned-found : (start : List ContextId) (ctx : ContextId) (i : ℕ) (b : Buffer ContextId) → i < length start → IsTurned start ctx i b → slice_get b.items 0 ≡ None → ⊥
IsTurned-found start ctx i b below was none =
    let x : ContextId = get_or start i ctx in
    let one : slice_get b.items 0 ≡ Some x = ap (λ (l : List ContextId). slice_get l 0) (was.items ∙ turned_front start ctx ctx i below) in
    let e : Some x ≡ None = sym one ∙ none in cc

pub turned_none : (start : List ContextId) (ctx : ContextId) → start ≡ turned start ctx 0
turned_none start ctx = sym (append-nil start)

pub turned_all : (start : List ContextId) (ctx : ContextId) (i : ℕ) (b : Buffer ContextId) → length start ≤ i → IsTurned start ctx i b → b.items ≡ without start ctx
turned_all start ctx i b past was = was.items ∙ ap (λ (l : List ContextId). l ++ without (take i start) ctx) (drop_all i start past) ∙ ap (λ (l : List ContextId). without l ctx) (take_all i start past)
