-- The number that is kept with each waiter: what it says, and how it changes.
use Rattle.std.proofs.Common.{◌≡◌, ◌≢◌, ℕ, zero, suc, ◌+◌, ◌<◌, Bool, true, false, cond, eqb, List, [], ◌∷◌, ◌++◌, Some, length, get_or, map, ◌∙◌, sym, ap, subst, refl, IsTrue, arith}
use Rattle.std.specs.List.{AllByRecursion, Contains, find}
use Rattle.std.specs.Option.{is_some, option_map}
use Rattle.std.proofs.lemmas.List.{append_assoc, append-nil}
use Rattle.std.proofs.lemmas.List.Sums.{sum_by-cons, sum_by-append}
use Rattle.std.proofs.lemmas.List.Elements.{Contains-append_cases}
use Rattle.std.proofs.lemmas.Bool.{eqb-false}
use Rattle.mate_num.specs.declared.id.ContextId.{ContextId}
use Rattle.mate_num.specs.Lists.{Along}
use Rattle.mate_num.specs.declared.lock_set.LockSet.{LockSet}
use Rattle.lock_manager.specs.declared.claim.Claim.{Claim}
use Rattle.lock_manager.specs.declared.claim.Waiter.{Waiter}
use Rattle.lock_manager.specs.Conflict.{conflict}
use Rattle.lock_manager.specs.Claims.{is_of, set_of, against, blocked_of, IsClaimHeldBack, IsFree, AreClaimsHeldBack}
use Rattle.lock_manager.specs.Counts.{claims_of, waiting_number, AreCounts, lowered}
use Rattle.lock_manager.proofs.ClaimLemmas.{one_if-true, one_if-false}
use Rattle.lock_manager.proofs.ConflictLemmas.{conflict-true, conflict-false, conflict-swap}

-- ---- a count of conflicts
against-cons : (set : LockSet) (x : Claim) (xs : List Claim) → against set (x ∷ xs) ≡ cond (conflict set x.set) 1 0 + against set xs
against-cons set x xs = sum_by-cons (λ (c : Claim). cond (conflict set c.set) 1 0) x xs

pub against-append : (set : LockSet) (xs ys : List Claim) → against set (xs ++ ys) ≡ against set xs + against set ys
against-append set xs ys = sum_by-append (λ (c : Claim). cond (conflict set c.set) 1 0) xs ys

-- a claim of the list that conflicts with the set
record Found (set : LockSet) (xs : List Claim) : Type 0 where
  by : Claim
  among : Contains xs by
  conflicting : conflict set by.set ≡ true

found : (set : LockSet) (xs : List Claim) → 0 < against set xs → Found set xs
found set [] some = absurd (omega arith)
found set (x ∷ xs) some = by_test (conflict set x.set) refl (let e = against-cons set x xs in omega arith) (found set xs)
  where
    by_test : (b : Bool) → conflict set x.set ≡ b → 0 < cond b 1 0 + against set xs → (0 < against set xs → Found set xs) → Found set (x ∷ xs)
    by_test true e some rest = record { by = x; among = (0, omega arith, refl); conflicting = e }
    by_test false e some rest = let f : Found set xs = rest (omega arith) in record { by = f.by; among = (suc f.among.0, (let h = f.among.1 in omega arith), f.among.2); conflicting = f.conflicting }

none_at : (set : LockSet) (xs : List Claim) (k : ℕ) (d : Claim) → against set xs ≡ 0 → k < length xs → conflict set (get_or xs k d).set ≡ false
none_at set [] k d none below = absurd (omega arith)
none_at set (x ∷ xs) zero d none below = by_test (conflict set x.set) (sym (against-cons set x xs) ∙ none)
  where
    by_test : (b : Bool) → cond b 1 0 + against set xs ≡ 0 → b ≡ false
    by_test true h = absurd (omega arith)
    by_test false h = refl
none_at set (x ∷ xs) (suc k) d none below = none_at set xs k d (let e = against-cons set x xs in omega arith) (omega arith)

none_among : (set : LockSet) (xs : List Claim) → against set xs ≡ 0 → (a : Claim) → Contains xs a → conflict set a.set ≡ false
none_among set xs none a among = ap (λ (c : Claim). conflict set c.set) (sym among.2) ∙ none_at set xs among.0 a none among.1

-- no conflict with the set, from either side
none_with : (set : LockSet) (ws : List Waiter) → against set (claims_of ws) ≡ 0 → AllByRecursion (λ w. conflict w.claim.set set ≡ false) ws
none_with set [] none = tt
none_with set (w ∷ ws) none =
    let e = against-cons set w.claim (claims_of ws) in
    (conflict-swap set w.claim.set (none_at set (claims_of (w ∷ ws)) 0 w.claim none (omega arith)), none_with set ws (omega arith))

-- ---- lists of right numbers
pub AreCounts-front : (ahead : List Claim) (xs ys : List Waiter) → AreCounts ahead (xs ++ ys) → AreCounts ahead xs
AreCounts-front ahead [] ys h = tt
AreCounts-front ahead (x ∷ xs) ys h = (h.0, AreCounts-front (ahead ++ x.claim ∷ []) xs ys h.1)

pub AreCounts-back : (ahead : List Claim) (xs ys : List Waiter) → AreCounts ahead (xs ++ ys) → AreCounts (ahead ++ claims_of xs) ys
AreCounts-back ahead [] ys h = let P : List Claim → Type 0 = λ l. AreCounts l ys in subst P (sym (append-nil ahead)) h
AreCounts-back ahead (x ∷ xs) ys h = let P : List Claim → Type 0 = λ l. AreCounts l ys in subst P (append_assoc ahead (x.claim ∷ []) (claims_of xs)) (AreCounts-back (ahead ++ x.claim ∷ []) xs ys h.1)

pub AreCounts-append : (ahead : List Claim) (xs ys : List Waiter) → AreCounts ahead xs → AreCounts (ahead ++ claims_of xs) ys → AreCounts ahead (xs ++ ys)
AreCounts-append ahead [] ys h k = let P : List Claim → Type 0 = λ l. AreCounts l ys in subst P (append-nil ahead) k
AreCounts-append ahead (x ∷ xs) ys h k =
    let P : List Claim → Type 0 = λ l. AreCounts l ys in
    (h.0, AreCounts-append (ahead ++ x.claim ∷ []) xs ys h.1 (subst P (sym (append_assoc ahead (x.claim ∷ []) (claims_of xs))) k))

-- other claims ahead, with which the waiters' sets conflict as often
against-grow : (set : LockSet) (ahead other : List Claim) (c : Claim) → against set ahead ≡ against set other → against set (ahead ++ c ∷ []) ≡ against set (other ++ c ∷ [])
against-grow set ahead other c h = let e = against-append set ahead (c ∷ []) in let f = against-append set other (c ∷ []) in omega arith

AreCounts-same : (ahead other : List Claim) (ws : List Waiter) → ((set : LockSet) → against set ahead ≡ against set other) → AreCounts ahead ws → AreCounts other ws
AreCounts-same ahead other [] same h = tt
AreCounts-same ahead other (w ∷ ws) same h = (h.0 ∙ same w.claim.set, AreCounts-same (ahead ++ w.claim ∷ []) (other ++ w.claim ∷ []) ws (λ set. against-grow set ahead other w.claim (same set)) h.1)

AreCounts-beside : (c : Claim) (ahead other : List Claim) (ws : List Waiter) → ((set : LockSet) → conflict set c.set ≡ false → against set ahead ≡ against set other) → AllByRecursion (λ w. conflict w.claim.set c.set ≡ false) ws → AreCounts ahead ws → AreCounts other ws
AreCounts-beside c ahead other [] same apart h = tt
AreCounts-beside c ahead other (w ∷ ws) same apart h =
    (h.0 ∙ same w.claim.set apart.0, AreCounts-beside c (ahead ++ w.claim ∷ []) (other ++ w.claim ∷ []) ws (λ set ne. against-grow set ahead other w.claim (same set ne)) apart.1 h.1)

-- ---- the number of a context
pub number-is : (ahead : List Claim) (ws : List Waiter) (ctx : ContextId) → AreCounts ahead ws → waiting_number ws ctx ≡ blocked_of ahead (claims_of ws) ctx
number-is ahead [] ctx h = refl
number-is ahead (w ∷ ws) ctx h = by_test (is_of ctx w.claim) (number-is (ahead ++ w.claim ∷ []) ws ctx h.1)
  where
    by_test : (b : Bool) → waiting_number ws ctx ≡ blocked_of (ahead ++ w.claim ∷ []) (claims_of ws) ctx → option_map (λ (v : Waiter). v.blocked) (cond b (Some w) (find (λ (v : Waiter). is_of ctx v.claim) ws)) ≡ cond b (Some (against w.claim.set ahead)) (blocked_of (ahead ++ w.claim ∷ []) (claims_of ws) ctx)
    by_test true rest = ap (λ (n : ℕ). Some n) h.0
    by_test false rest = rest

pub is_some-blocked_of : (ahead cs : List Claim) (ctx : ContextId) → is_some (blocked_of ahead cs ctx) ≡ is_some (set_of cs ctx)
is_some-blocked_of ahead [] ctx = refl
is_some-blocked_of ahead (c ∷ cs) ctx = by_test (is_of ctx c) (is_some-blocked_of (ahead ++ c ∷ []) cs ctx)
  where
    by_test : (b : Bool) → is_some (blocked_of (ahead ++ c ∷ []) cs ctx) ≡ is_some (set_of cs ctx) → is_some (cond b (Some (against c.set ahead)) (blocked_of (ahead ++ c ∷ []) cs ctx)) ≡ is_some (cond b (Some c.set) (set_of cs ctx))
    by_test true rest = refl
    by_test false rest = rest

-- ---- a grant: a waiter with the number 0 goes to the started ones
pub AreCounts-grant : (started : List Claim) (before after : List Waiter) (w : Waiter) → AreCounts started (before ++ w ∷ after) → w.blocked ≡ 0 → AreCounts (started ++ w.claim ∷ []) (before ++ after)
AreCounts-grant started before after w h free =
    let c : Claim = w.claim in
    let rest : AreCounts (started ++ claims_of before) (w ∷ after) = AreCounts-back started before (w ∷ after) h in
    let none : against c.set (started ++ claims_of before) ≡ 0 = sym rest.0 ∙ free in
    let e = against-append c.set started (claims_of before) in
    AreCounts-append (started ++ c ∷ []) before after
    (AreCounts-beside c started (started ++ c ∷ []) before (λ set ne. unmoved set ne) (none_with c.set before (omega arith)) (AreCounts-front started before (w ∷ after) h))
    (AreCounts-same ((started ++ claims_of before) ++ c ∷ []) ((started ++ c ∷ []) ++ claims_of before) after (λ set. moved set) rest.1)
  where
    unmoved : (set : LockSet) → conflict set w.claim.set ≡ false → against set started ≡ against set (started ++ w.claim ∷ [])
    unmoved set ne =
        let e = against-append set started (w.claim ∷ []) in
        let f = against-cons set w.claim [] in
        let n = one_if-false (conflict set w.claim.set) ne in
        omega arith

    moved : (set : LockSet) → against set ((started ++ claims_of before) ++ w.claim ∷ []) ≡ against set ((started ++ w.claim ∷ []) ++ claims_of before)
    moved set =
        let a = against-append set (started ++ claims_of before) (w.claim ∷ []) in
        let b = against-append set started (claims_of before) in
        let d = against-append set (started ++ w.claim ∷ []) (claims_of before) in
        let e = against-append set started (w.claim ∷ []) in
        omega arith

pub IsFree-from_count : (started earlier : List Claim) (c : Claim) → against c.set (started ++ earlier) ≡ 0 → IsFree started earlier c
IsFree-from_count started earlier c none =
    let e = against-append c.set started earlier in
    record {
      of_started = λ a among. conflict-false c.set a.set (none_among c.set started (omega arith) a among);
      of_earlier = λ a among. conflict-false c.set a.set (none_among c.set earlier (omega arith) a among);
    }

-- ---- waiters whose numbers are not 0 are held back
abbrev HeldInTurn : List Claim → List Claim → List Claim → Type 0
HeldInTurn started = Along (IsClaimHeldBack started) (λ earlier c. earlier ++ c ∷ [])

held_in_turn : (started earlier : List Claim) (ws : List Waiter) → AreCounts (started ++ earlier) ws → AllByRecursion (λ w. eqb w.blocked 0 ≡ false) ws → HeldInTurn started earlier (claims_of ws)
held_in_turn started earlier [] h some = tt
held_in_turn started earlier (w ∷ ws) h some =
    let ne : w.blocked ≢ 0 = eqb-false w.blocked 0 some.0 in
    let e = h.0 in
    let f : Found w.claim.set (started ++ earlier) = found w.claim.set (started ++ earlier) (omega arith) in
    let P : List Claim → Type 0 = λ l. AreCounts l ws in (
      record { by = f.by; ahead = Contains-append_cases started earlier f.by f.among; conflict = conflict-true w.claim.set f.by.set f.conflicting },
      held_in_turn started (earlier ++ w.claim ∷ []) ws (subst P (append_assoc started earlier (w.claim ∷ [])) h.1) some.1,
    )

held_at : (started earlier front : List Claim) (c : Claim) (back : List Claim) → HeldInTurn started earlier (front ++ c ∷ back) → IsClaimHeldBack started (earlier ++ front) c
held_at started earlier [] c back h = let P : List Claim → Type 0 = λ l. IsClaimHeldBack started l c in subst P (sym (append-nil earlier)) h.0
held_at started earlier (b ∷ front) c back h =
    let P : List Claim → Type 0 = λ l. IsClaimHeldBack started l c in
    subst P (append_assoc earlier (b ∷ []) front) (held_at started (earlier ++ b ∷ []) front c back h.1)

pub AllHeldBack-from_counts : (started : List Claim) (ws : List Waiter) → AreCounts started ws → AllByRecursion (λ w. eqb w.blocked 0 ≡ false) ws → AreClaimsHeldBack started (claims_of ws)
AllHeldBack-from_counts started ws h some = record {
  each = λ earlier c later e.
      (let P : List Claim → Type 0 = λ l. HeldInTurn started [] l in
      let Q : List Claim → Type 0 = λ l. AreCounts l ws in
      held_at started [] earlier c later (subst P e (held_in_turn started [] ws (subst Q (sym (append-nil started)) h) some)));
}

-- ---- a release: a claim on the set goes from those ahead
one_less : (set : LockSet) (ahead other : List Claim) (c : Claim) (s : LockSet) → against s ahead ≡ against s other + cond (conflict s set) 1 0 → against s (ahead ++ c ∷ []) ≡ against s (other ++ c ∷ []) + cond (conflict s set) 1 0
one_less set ahead other c s h = let e = against-append s ahead (c ∷ []) in let f = against-append s other (c ∷ []) in omega arith

pub claims_of-lowered : (set : LockSet) (ws : List Waiter) → claims_of (map (lowered set) ws) ≡ claims_of ws
claims_of-lowered set [] = refl
claims_of-lowered set (w ∷ ws) = ap (λ (l : List Claim). w.claim ∷ l) (claims_of-lowered set ws)

AreCounts-lowered : (set : LockSet) (ahead other : List Claim) (ws : List Waiter) → ((s : LockSet) → against s ahead ≡ against s other + cond (conflict s set) 1 0) → AreCounts ahead ws → AreCounts other (map (lowered set) ws)
AreCounts-lowered set ahead other [] fewer h = tt
AreCounts-lowered set ahead other (w ∷ ws) fewer h = (
  (let e = fewer w.claim.set in let n = h.0 in omega arith),
  AreCounts-lowered set (ahead ++ w.claim ∷ []) (other ++ w.claim ∷ []) ws (λ s. one_less set ahead other w.claim s (fewer s)) h.1,
)

number_above : (set : LockSet) (ahead other : List Claim) (ws : List Waiter) → ((s : LockSet) → against s ahead ≡ against s other + cond (conflict s set) 1 0) → AreCounts ahead ws → AllByRecursion (λ w. IsTrue (conflict w.claim.set set) → 0 < w.blocked) ws
number_above set ahead other [] fewer h = tt
number_above set ahead other (w ∷ ws) fewer h = (
  (λ both. (let n = one_if-true (conflict w.claim.set set) both in let e = fewer w.claim.set in let k = h.0 in omega arith)),
  number_above set (ahead ++ w.claim ∷ []) (other ++ w.claim ∷ []) ws (λ s. one_less set ahead other w.claim s (fewer s)) h.1,
)

without_one : (front back : List Claim) (c : Claim) (s : LockSet) → against s (front ++ c ∷ back) ≡ against s (front ++ back) + cond (conflict s c.set) 1 0
without_one front back c s =
    let a = against-append s front (c ∷ back) in
    let b = against-cons s c back in
    let d = against-append s front back in
    omega arith

pub AreCounts-release : (front back : List Claim) (c : Claim) (ws : List Waiter) → AreCounts (front ++ c ∷ back) ws → AreCounts (front ++ back) (map (lowered c.set) ws)
AreCounts-release front back c ws = AreCounts-lowered c.set (front ++ c ∷ back) (front ++ back) ws (without_one front back c)

pub number_above-release : (front back : List Claim) (c : Claim) (ws : List Waiter) → AreCounts (front ++ c ∷ back) ws → AllByRecursion (λ w. IsTrue (conflict w.claim.set c.set) → 0 < w.blocked) ws
number_above-release front back c ws = number_above c.set (front ++ c ∷ back) (front ++ back) ws (without_one front back c)
