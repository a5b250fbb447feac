-- What claims in short lists come to.
use Rattle.std.proofs.Common.{◌≡◌, ◌≢◌, Bool, true, false, ◌||◌, ◌&&◌, List, [], ◌∷◌, ◌++◌, Option, Some, None, length, length-append, refl, sym, ◌∙◌, ap, subst, drop, arith}
use Rattle.std.specs.Prelude.{MatchOption, IfSome, Contains}
use Rattle.std.specs.List.{list_any}
use Rattle.std.proofs.lemmas.Bool.{eq-eqb}
use Rattle.std.proofs.lemmas.Option.{same_Some}
use Rattle.mate_num.specs.Uses.{IsCompatible}
use Rattle.mate_num.specs.Locks.{lock_uses}
use Rattle.mate_num.specs.declared.id.ContextId.{ContextId}
use Rattle.mate_num.specs.declared.lock_set.LockSet.{LockSet}
use Rattle.mate_num.specs.declared.resource.Resource.TheVariants.{Shared}
use Rattle.lock_manager.specs.Claims.{Claims, set_of, blocked_of, against, Grants, GrantsNone}
use Rattle.lock_manager.specs.Conflict.{resources, conflicts_at, conflict}
use Rattle.lock_manager.specs.declared.claim.Claim.{Claim}

either_way : (writes reads : Bool) → writes ≡ true → ((writes && (reads || writes)) || (writes && (reads || writes))) ≡ true
either_way true true h = refl
either_way true false h = refl
either_way false reads h = cc

-- a set that writes the first variable conflicts with itself
pub conflict-self : (s : LockSet) → (lock_uses s).writes (Shared (record { 0 = 0 })) ≡ true → conflict s s ≡ true
unfolding conflict
conflict-self s writes =
    ap (λ (first : Bool). first || list_any (conflicts_at (lock_uses s) (lock_uses s)) (drop 1 resources))
    (either_way ((lock_uses s).writes (Shared (record { 0 = 0 }))) ((lock_uses s).reads (Shared (record { 0 = 0 }))) writes)

pub one_ahead : (s t : LockSet) → conflict s t ≡ true → against s (record { ctx = record { 0 = 3 }; set = t } ∷ []) ≡ 1
one_ahead s t h = rw h refl

pub apart : (r : Option ContextId) (old new : Claims) → MatchOption r (GrantsNone old new) (Grants old new)
    → IfSome r (λ ctx. (set : LockSet) (other : Claim) → set_of new.started ctx ≡ Some set → Contains old.started other → IsCompatible (lock_uses set) (lock_uses other.set))
apart None old new none = tt
apart (Some ctx) old new grants = λ set other holds in_.
    subst (λ (s : LockSet). IsCompatible (lock_uses s) (lock_uses other.set)) (same_Some grants.claim.set set (sym grants.moves.holds ∙ holds)) (grants.free.of_started other in_)

-- the claims but the first, where a claim of its context is taken out
pub second_left : (first second claim : Claim) (front back : List Claim) (gone : ContextId) → first ∷ second ∷ [] ≡ front ++ claim ∷ back → claim.ctx ≡ gone → second.ctx.0 ≢ gone.0
    → front ++ back ≡ second ∷ []
second_left first second claim [] back gone was own other = sym (ap (λ (cs : List Claim). drop 1 cs) was)
second_left first second claim (x ∷ []) back gone was own other =
    absurd (other (ap (λ (cs : List Claim). (first_of cs).ctx.0) (ap (λ (cs : List Claim). drop 1 cs) was) ∙ ap (λ (c : ContextId). c.0) own)) where
      first_of : List Claim → Claim
      first_of [] = claim
      first_of (c ∷ cs) = c
second_left first second claim (x ∷ y ∷ rest) back gone was own other =
    let long = ap length was in
    let more = length-append rest (claim ∷ back) in absurd (omega (arith, long, more))

pub blocked_behind : (second third : Claim) (waiter : ContextId) → third.ctx.0 ≡ waiter.0 → conflict third.set second.set ≡ true → blocked_of (second ∷ []) (third ∷ []) waiter ≡ Some 1
blocked_behind second third waiter is h = rw (eq-eqb third.ctx.0 waiter.0 is, h) refl
