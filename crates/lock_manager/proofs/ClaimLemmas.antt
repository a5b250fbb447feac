-- Lists of claims: the set that a context has in them, and that each context has one claim at most.
use Rattle.std.proofs.Common.{◌≡◌, ◌≢◌, ◌⊎◌, ℕ, ◌+◌, ◌<◌, ◌≤◌, Bool, true, false, cond, eqb, List, [], ◌∷◌, ◌++◌, Option, Some, None, length, map, ◌∙◌, sym, ap, refl, inl, inr, arith}
use Rattle.std.specs.List.{count_by, list_any, IsDistinct, AllByRecursion}
use Rattle.std.proofs.lemmas.List.{length-map, append-nil}
use Rattle.std.proofs.lemmas.List.Sums.{sum_by-cons, sum_by-append}
use Rattle.std.proofs.lemmas.Bool.{cases_Bool, cases_eq, eqb-true, eq-eqb, ne_eqb, or_cases}
use Rattle.std.proofs.lemmas.Map.Steps.{length-le_from_distinct_below}
use Rattle.mate_num.specs.declared.id.ContextId.{ContextId}
use Rattle.mate_num.specs.declared.lock_set.LockSet.{LockSet}
use Rattle.lock_manager.specs.declared.claim.Claim.{Claim}
use Rattle.lock_manager.specs.Claims.{is_of, set_of, AreOnce}

-- ---- what a test counts for
abbrev pub one_if : Bool → ℕ
one_if b = cond b 1 0

pub one_if-true : (b : Bool) → b ≡ true → one_if b ≡ 1
one_if-true b e = ap one_if e

pub one_if-false : (b : Bool) → b ≡ false → one_if b ≡ 0
one_if-false b e = ap one_if e

-- ---- how often a context claims
abbrev pub times : ContextId → List Claim → ℕ
times ctx xs = count_by (is_of ctx) xs

pub times-cons : (ctx : ContextId) (x : Claim) (xs : List Claim) → times ctx (x ∷ xs) ≡ cond (is_of ctx x) 1 0 + times ctx xs
times-cons ctx x xs = sum_by-cons (λ (c : Claim). cond (is_of ctx c) 1 0) x xs

pub times-append : (ctx : ContextId) (xs ys : List Claim) → times ctx (xs ++ ys) ≡ times ctx xs + times ctx ys
times-append ctx xs ys = sum_by-append (λ (c : Claim). cond (is_of ctx c) 1 0) xs ys

pub times-own : (x : Claim) (xs : List Claim) → times x.ctx (x ∷ xs) ≡ 1 + times x.ctx xs
times-own x xs = times-cons x.ctx x xs ∙ ap (λ (b : Bool). cond b 1 0 + times x.ctx xs) (eq-eqb x.ctx.0 x.ctx.0 refl)

-- ---- the set of a context
pub set_of-none : (xs : List Claim) (ctx : ContextId) → times ctx xs ≡ 0 → set_of xs ctx ≡ None
set_of-none [] ctx h = refl
set_of-none (x ∷ xs) ctx h = by_test (is_of ctx x) (sym (times-cons ctx x xs) ∙ h) (set_of-none xs ctx)
  where
    by_test : (b : Bool) → cond b 1 0 + times ctx xs ≡ 0 → (times ctx xs ≡ 0 → set_of xs ctx ≡ None) → cond b (Some x.set) (set_of xs ctx) ≡ None
    by_test true h rest = absurd (omega arith)
    by_test false h rest = rest (omega arith)

pub times-none : (xs : List Claim) (ctx : ContextId) → set_of xs ctx ≡ None → times ctx xs ≡ 0
times-none [] ctx h = refl
times-none (x ∷ xs) ctx h = times-cons ctx x xs ∙ by_test (is_of ctx x) h (times-none xs ctx)
  where
    by_test : (b : Bool) → cond b (Some x.set) (set_of xs ctx) ≡ None → (set_of xs ctx ≡ None → times ctx xs ≡ 0) → cond b 1 0 + times ctx xs ≡ 0
    by_test true h rest = absurd (let e : Some x.set ≡ None = h in cc)
    by_test false h rest = let e = rest h in omega arith

-- a list after equal fronts
set_of-front : (xs ys zs : List Claim) (ctx : ContextId) → set_of ys ctx ≡ set_of zs ctx → set_of (xs ++ ys) ctx ≡ set_of (xs ++ zs) ctx
set_of-front [] ys zs ctx h = h
set_of-front (x ∷ xs) ys zs ctx h = ap (λ (o : Option LockSet). cond (is_of ctx x) (Some x.set) o) (set_of-front xs ys zs ctx h)

set_of-other : (x : Claim) (ys : List Claim) (ctx : ContextId) → ctx.0 ≢ x.ctx.0 → set_of (x ∷ ys) ctx ≡ set_of ys ctx
set_of-other x ys ctx ne = ap (λ (b : Bool). cond b (Some x.set) (set_of ys ctx)) (ne_eqb x.ctx.0 ctx.0 (λ e. ne (sym e)))

pub set_of-out : (xs ys : List Claim) (x : Claim) (ctx : ContextId) → ctx.0 ≢ x.ctx.0 → set_of (xs ++ ys) ctx ≡ set_of (xs ++ x ∷ ys) ctx
set_of-out xs ys x ctx ne = set_of-front xs ys (x ∷ ys) ctx (sym (set_of-other x ys ctx ne))

pub set_of-push_other : (xs : List Claim) (x : Claim) (ctx : ContextId) → ctx.0 ≢ x.ctx.0 → set_of (xs ++ x ∷ []) ctx ≡ set_of xs ctx
set_of-push_other xs x ctx ne = sym (set_of-out xs [] x ctx ne) ∙ ap (λ (l : List Claim). set_of l ctx) (append-nil xs)

pub set_of-push : (xs : List Claim) (x : Claim) → times x.ctx xs ≡ 0 → set_of (xs ++ x ∷ []) x.ctx ≡ Some x.set
set_of-push [] x h = ap (λ (b : Bool). cond b (Some x.set) None) (eq-eqb x.ctx.0 x.ctx.0 refl)
set_of-push (y ∷ xs) x h = by_test (is_of x.ctx y) (sym (times-cons x.ctx y xs) ∙ h) (set_of-push xs x)
  where
    by_test : (b : Bool) → cond b 1 0 + times x.ctx xs ≡ 0 → (times x.ctx xs ≡ 0 → set_of (xs ++ x ∷ []) x.ctx ≡ Some x.set) → cond b (Some y.set) (set_of (xs ++ x ∷ []) x.ctx) ≡ Some x.set
    by_test true h rest = absurd (omega arith)
    by_test false h rest = rest (omega arith)

-- ---- each context once
pub AreOnce-fewer : (xs ys : List Claim) → ((ctx : ContextId) → times ctx ys ≤ times ctx xs) → AreOnce xs → AreOnce ys
AreOnce-fewer xs ys fewer all = record {
  once = λ ctx. (let a = fewer ctx in let b = all.once ctx in omega arith);
  within = λ ctx some. all.within ctx (let a = fewer ctx in omega arith);
}

pub same_context : (a b : ContextId) → a.0 ≡ b.0 → a ≡ b
same_context a b e = let record_of : ℕ → ContextId = λ n. record { 0 = n } in ap record_of e

pub AreOnce-push : (xs : List Claim) (x : Claim) → AreOnce xs → x.ctx.0 < 16 → times x.ctx xs ≡ 0 → AreOnce (xs ++ x ∷ [])
AreOnce-push xs x all below absent = record {
  once = λ ctx. (let e = grown ctx in let o = all.once ctx in by_once ctx (cases_Bool (is_of ctx x)) o e);
  within = λ ctx some. by_within ctx (cases_Bool (is_of ctx x)) (grown ctx) some;
} where
  grown : (ctx : ContextId) → times ctx (xs ++ x ∷ []) ≡ times ctx xs + (cond (is_of ctx x) 1 0 + 0)
  grown ctx = times-append ctx xs (x ∷ []) ∙ ap (λ (n : ℕ). times ctx xs + n) (times-cons ctx x [])

  none_of : (ctx : ContextId) → is_of ctx x ≡ true → times ctx xs ≡ 0
  none_of ctx own = ap (λ (c : ContextId). times c xs) (same_context ctx x.ctx (sym (eqb-true x.ctx.0 ctx.0 own))) ∙ absent

  by_once : (ctx : ContextId) → (is_of ctx x ≡ true) ⊎ (is_of ctx x ≡ false) → times ctx xs ≤ 1 → times ctx (xs ++ x ∷ []) ≡ times ctx xs + (cond (is_of ctx x) 1 0 + 0) → times ctx (xs ++ x ∷ []) ≤ 1
  by_once ctx (inl own) o e = let z = none_of ctx own in let f = one_if-true (is_of ctx x) own in omega arith
  by_once ctx (inr other) o e = let f = one_if-false (is_of ctx x) other in omega arith

  by_within : (ctx : ContextId) → (is_of ctx x ≡ true) ⊎ (is_of ctx x ≡ false) → times ctx (xs ++ x ∷ []) ≡ times ctx xs + (cond (is_of ctx x) 1 0 + 0) → 0 < times ctx (xs ++ x ∷ []) → ctx.0 < 16
  by_within ctx (inl own) e some = let f : x.ctx.0 ≡ ctx.0 = eqb-true x.ctx.0 ctx.0 own in omega arith
  by_within ctx (inr other) e some = let f = one_if-false (is_of ctx x) other in all.within ctx (omega arith)

-- ---- at most 16 claims
numbers : List Claim → List ℕ
numbers xs = map (λ (c : Claim). c.ctx.0) xs

others_apart : (n : ℕ) (xs : List Claim) → times record { 0 = n } xs ≡ 0 → AllByRecursion (λ y. eqb n y ≡ false) (numbers xs)
unfolding numbers
others_apart n [] none = tt
others_apart n (x ∷ xs) none =
    let e : cond (eqb x.ctx.0 n) 1 0 + times record { 0 = n } xs ≡ 0 = sym (times-cons record { 0 = n } x xs) ∙ none in
    (apart (cases_eq n x.ctx.0) e, others_apart n xs (omega arith))
  where
    apart : (n ≡ x.ctx.0) ⊎ (n ≡ x.ctx.0 → ⊥) → cond (eqb x.ctx.0 n) 1 0 + times record { 0 = n } xs ≡ 0 → eqb n x.ctx.0 ≡ false
    apart (inl same) e = absurd (let f = one_if-true (eqb x.ctx.0 n) (eq-eqb x.ctx.0 n (sym same)) in omega arith)
    apart (inr ne) e = ne_eqb n x.ctx.0 ne

pub AreOnce-tail : (x : Claim) (xs : List Claim) → AreOnce (x ∷ xs) → AreOnce xs
AreOnce-tail x xs = AreOnce-fewer (x ∷ xs) xs (λ ctx. let e = times-cons ctx x xs in omega arith)

IsDistinct-numbers : (xs : List Claim) → AreOnce xs → IsDistinct eqb (numbers xs)
unfolding IsDistinct numbers
IsDistinct-numbers [] all = tt
IsDistinct-numbers (x ∷ xs) all =
    let e = times-own x xs in
    let o = all.once x.ctx in
    (others_apart x.ctx.0 xs (omega arith), IsDistinct-numbers xs (AreOnce-tail x xs all))

below-numbers : (xs : List Claim) → AreOnce xs → (q : ℕ) → list_any (eqb q) (numbers xs) ≡ true → q < 16
unfolding numbers
below-numbers [] all q found = absurd (let e : false ≡ true = found in cc)
below-numbers (x ∷ xs) all q found = elim (or_cases (eqb q x.ctx.0) (list_any (eqb q) (numbers xs)) found) [
  | inl here ↦ (let e = eqb-true q x.ctx.0 here in let o = times-own x xs in let w = all.within x.ctx (omega arith) in omega arith)
  | inr later ↦ below-numbers xs (AreOnce-tail x xs all) q later
]

pub length-once : (xs : List Claim) → AreOnce xs → length xs ≤ 16
unfolding numbers
length-once xs all =
    let n = length-le_from_distinct_below (numbers xs) 16 (IsDistinct-numbers xs all) (below-numbers xs all) in
    let e = length-map xs (λ (c : Claim). c.ctx.0) in
    omega arith
