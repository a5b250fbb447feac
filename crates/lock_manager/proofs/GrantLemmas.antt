-- What a caller can draw from the clauses: claims by context, and two starts directly one after another.
use Rattle.std.proofs.Common.{◌≡◌, ◌⊎◌, ℕ, zero, suc, ◌<◌, ◌≤◌, Bool, true, false, cond, List, [], ◌∷◌, ◌++◌, Some, None, length, get_or, ◌∙◌, sym, ap, subst, refl, inl, inr, arith}
use Rattle.std.specs.List.{Contains}
use Rattle.std.proofs.lemmas.List.Elements.{Contains-append_left, Contains-append_right}
use Rattle.std.proofs.lemmas.Bool.{cases_Bool, cases_eq, cases_lt, eq-eqb, eqb-true}
use Rattle.mate_num.specs.declared.id.ContextId.{ContextId}
use Rattle.mate_num.specs.declared.lock_set.LockSet.{LockSet}
use Rattle.lock_manager.specs.declared.claim.Claim.{Claim}
use Rattle.lock_manager.specs.Claims.{Claims, is_of, set_of, AreOnce, IsClaimHeldBack, Grants}
use Rattle.lock_manager.proofs.ClaimLemmas.{one_if-true, times, times-cons, set_of-none, AreOnce-tail, same_context}

-- ---- claims by context
-- the context's claim is in the list
pub Contains-set_of : (xs : List Claim) (ctx : ContextId) (set : LockSet) → set_of xs ctx ≡ Some set → Contains xs record { ctx = ctx; set = set }
Contains-set_of [] ctx set h = absurd (let e : None ≡ Some set = h in cc)
Contains-set_of (x ∷ xs) ctx set h = by_test (is_of ctx x) refl h (Contains-set_of xs ctx set)
  where
    by_test : (b : Bool) → is_of ctx x ≡ b → cond b (Some x.set) (set_of xs ctx) ≡ Some set → (set_of xs ctx ≡ Some set → Contains xs record { ctx = ctx; set = set }) → Contains (x ∷ xs) record { ctx = ctx; set = set }
    by_test true own h rest =
        let e : x.ctx ≡ ctx = same_context x.ctx ctx (eqb-true x.ctx.0 ctx.0 own) in
        let f : x.set ≡ set = (let g : Some x.set ≡ Some set = h in cc) in
        let claim_of : ContextId → LockSet → Claim = λ c s. record { ctx = c; set = s } in
        (0, omega arith, ap (λ (c : ContextId). claim_of c x.set) e ∙ ap (λ (s : LockSet). claim_of ctx s) f)
    by_test false other h rest = let k = rest h in (suc k.0, (let below = k.1 in omega arith), k.2)

claimed : (xs : List Claim) (k : ℕ) (c : Claim) → AreOnce xs → k < length xs → get_or xs k c ≡ c → set_of xs c.ctx ≡ Some c.set
claimed [] k c once below is = absurd (omega arith)
claimed (x ∷ xs) zero c once below is =
    let own : is_of c.ctx x ≡ true = eq-eqb x.ctx.0 c.ctx.0 (ap (λ (y : Claim). y.ctx.0) is) in
    ap (λ (b : Bool). cond b (Some x.set) (set_of xs c.ctx)) own ∙ ap (λ (y : Claim). Some y.set) is
claimed (x ∷ xs) (suc k) c once below is = by_test (cases_Bool (is_of c.ctx x)) (claimed xs k c (AreOnce-tail x xs once) (omega arith) is)
  where
    by_test : (is_of c.ctx x ≡ true) ⊎ (is_of c.ctx x ≡ false) → set_of xs c.ctx ≡ Some c.set → cond (is_of c.ctx x) (Some x.set) (set_of xs c.ctx) ≡ Some c.set
    by_test (inl own) there = absurd (twice (cases_eq (times c.ctx xs) 0))
      where
        twice : (times c.ctx xs ≡ 0) ⊎ (times c.ctx xs ≡ 0 → ⊥) → ⊥
        twice (inl none) = let e : None ≡ Some c.set = sym (set_of-none xs c.ctx none) ∙ there in cc
        twice (inr some) = let n = times-cons c.ctx x xs in let m = one_if-true (is_of c.ctx x) own in let o = once.once c.ctx in omega arith
    by_test (inr other) there = ap (λ (b : Bool). cond b (Some x.set) (set_of xs c.ctx)) other ∙ there

-- a claim of the list is its context's
pub set_of-Contains : (xs : List Claim) (c : Claim) → AreOnce xs → Contains xs c → set_of xs c.ctx ≡ Some c.set
set_of-Contains xs c once among = claimed xs among.0 c once among.1 among.2

-- ---- two starts directly one after another
no_way_back : (old mid new : Claims) (first second : ContextId) (a : Grants old mid first) (b : Grants mid new second) (rest : List Claim) → a.earlier ≡ b.earlier ++ b.claim ∷ rest → ⊥
no_way_back old mid new first second a b rest e = held (a.held.each b.earlier b.claim rest e)
  where
    held : IsClaimHeldBack old.started b.earlier b.claim → ⊥
    held h = by_place h.ahead
      where
        by_place : Contains old.started h.by ⊎ Contains b.earlier h.by → ⊥
        by_place (inl started) =
            let P : List Claim → Type 0 = λ l. Contains l h.by in
            (b.free.of_started h.by (subst P (sym a.started) (Contains-append_left old.started (a.claim ∷ []) h.by started))).apart h.conflict.resource h.conflict.at
        by_place (inr earlier) = (b.free.of_earlier h.by earlier).apart h.conflict.resource h.conflict.at

front_of : (xs ys zs ws : List Claim) (c : Claim) → xs ++ ys ≡ zs ++ c ∷ ws → length zs < length xs → (rest : List Claim) × (xs ≡ zs ++ c ∷ rest)
front_of [] ys zs ws c e short = absurd (omega arith)
front_of (x ∷ xs) ys [] ws c e short = (xs, (let f : x ≡ c = cc in ap (λ (y : Claim). y ∷ xs) f))
front_of (x ∷ xs) ys (z ∷ zs) ws c e short =
    let f : x ≡ z = cc in
    let g : xs ++ ys ≡ zs ++ c ∷ ws = cc in
    let r = front_of xs ys zs ws c g (omega arith) in
    (r.0, ap (λ (y : Claim). y ∷ xs) f ∙ ap (λ (l : List Claim). z ∷ l) r.1)

back_of : (xs ys zs ws : List Claim) (c : Claim) → xs ++ ys ≡ zs ++ c ∷ ws → length xs ≤ length zs → Contains ys c
back_of [] ys zs ws c e long = let P : List Claim → Type 0 = λ l. Contains l c in subst P (sym e) (Contains-append_right zs (c ∷ ws) c (0, omega arith, refl))
back_of (x ∷ xs) ys [] ws c e long = absurd (omega arith)
back_of (x ∷ xs) ys (z ∷ zs) ws c e long = let g : xs ++ ys ≡ zs ++ c ∷ ws = cc in back_of xs ys zs ws c g (omega arith)

-- the second one stood behind the first
pub Grants-in_turn : (old mid new : Claims) (first second : ContextId) (a : Grants old mid first) (b : Grants mid new second) → Contains a.later b.claim
Grants-in_turn old mid new first second a b =
    let e : a.earlier ++ a.later ≡ b.earlier ++ b.claim ∷ b.later = sym a.waiting ∙ b.was in
    elim (cases_lt (length b.earlier) (length a.earlier)) [
      | inl before ↦ (let r = front_of a.earlier a.later b.earlier b.later b.claim e before in absurd (no_way_back old mid new first second a b r.0 r.1))
      | inr behind ↦ back_of a.earlier a.later b.earlier b.later b.claim e behind
    ]
