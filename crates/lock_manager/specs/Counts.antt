-- The number that is kept with each waiter.
use Rattle.std.specs.Prelude.{◌≡◌, ℕ, Option, option_map, find, List, [], ◌∷◌, ◌++◌, ◌-◌, map, if◌then◌else◌}
use Rattle.mate_num.specs.Lists.{Along}
use Rattle.mate_num.specs.declared.id.ContextId.{ContextId}
use Rattle.mate_num.specs.declared.lock_set.LockSet.{LockSet}
use Rattle.lock_manager.specs.declared.claim.Claim.{Claim}
use Rattle.lock_manager.specs.declared.claim.Waiter.{Waiter}
use Rattle.lock_manager.specs.Conflict.{conflict}
use Rattle.lock_manager.specs.Claims.{is_of, against, AreOnce}

-- the waiters' claims
abbrev pub claims_of : List Waiter → List Claim
claims_of waiters = map (λ w. w.claim) waiters

-- each number is how many claims ahead conflict with the waiter's: those given, and the earlier waiters'
abbrev pub AreCounts : List Claim → List Waiter → Type 0
AreCounts = Along (λ ahead w. w.blocked ≡ against w.claim.set ahead) (λ ahead w. ahead ++ w.claim ∷ [])

-- the waiter when a claim on the set has gone from those ahead of it
abbrev pub lowered : LockSet → Waiter → Waiter
lowered set w = record w { blocked = w.blocked - (if conflict w.claim.set set then 1 else 0) }

-- each context is there once, and each number is right
pub record AreLocks (waiters : List Waiter) (started : List Claim) : Type 0 where
  pub once : AreOnce (started ++ claims_of waiters)
  pub counts : AreCounts started waiters

-- the number that is kept with the waiter
abbrev pub waiting_number : List Waiter → ContextId → Option ℕ
waiting_number waiters ctx = option_map (λ w. w.blocked) (find (λ w. is_of ctx w.claim) waiters)
