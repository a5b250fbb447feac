-- The lock sets that contexts wait for or hold, and the rule by which a waiter is started.
use Rattle.std.specs.Prelude.{◌≡◌, ◌≢◌, ◌≤◌, ◌<◌, ◌⊎◌, ℕ, List, [], ◌∷◌, ◌++◌, Bool, ◌==◌, Option, None, Some, if◌then◌else◌, count_by, Contains}
use Rattle.mate_num.specs.declared.bounds.TheConstants.{CONTEXTS_MAX}
use Rattle.mate_num.specs.declared.id.ContextId.{ContextId}
use Rattle.mate_num.specs.declared.lock_set.LockSet.{LockSet}
use Rattle.mate_num.specs.Uses.{Conflicts, IsCompatible}
use Rattle.mate_num.specs.Locks.{lock_uses}
use Rattle.lock_manager.specs.declared.claim.Claim.{Claim}
use Rattle.lock_manager.specs.Conflict.{conflict}

-- the waiters' claims in the order in which they came, and those of the started contexts
pub record Claims : Type 0 where
  pub waiting : List Claim
  pub started : List Claim

-- no context waits, and none is started
abbrev pub no_claims : Claims
no_claims = record { waiting = []; started = [] }

-- the claim is the context's
abbrev pub is_of : ContextId → Claim → Bool
is_of ctx c = c.ctx.0 == ctx.0

-- the set that the context claims
abbrev pub set_of : List Claim → ContextId → Option LockSet
set_of [] ctx = None
set_of (c ∷ cs) ctx = if is_of ctx c then Some c.set else set_of cs ctx

-- how many of the claims conflict with the set
abbrev pub against : LockSet → List Claim → ℕ
against set claims = count_by (λ c. conflict set c.set) claims

-- how many started claims and earlier waiters' claims conflict with that of the context, which waits
abbrev pub blocked_of : List Claim → List Claim → ContextId → Option ℕ
blocked_of ahead [] ctx = None
blocked_of ahead (c ∷ cs) ctx = if is_of ctx c then Some (against c.set ahead) else blocked_of (ahead ++ c ∷ []) cs ctx

-- the contexts are below `CONTEXTS_MAX`, and each has one claim at most
pub record AreOnce (claims : List Claim) : Type 0 where
  pub once : (ctx : ContextId) → count_by (is_of ctx) claims ≤ 1
  pub within : (ctx : ContextId) → 0 < count_by (is_of ctx) claims → ctx.0 < CONTEXTS_MAX

-- a claim of a started context or of an earlier waiter conflicts with c
pub record IsClaimHeldBack (started earlier : List Claim) (c : Claim) : Type 0 where
  pub by : Claim
  pub ahead : Contains started by ⊎ Contains earlier by
  pub conflict : Conflicts (lock_uses c.set) (lock_uses by.set)

-- no claim of a started context or of an earlier waiter conflicts with c
pub record IsFree (started earlier : List Claim) (c : Claim) : Type 0 where
  pub of_started : (a : Claim) → Contains started a → IsCompatible (lock_uses c.set) (lock_uses a.set)
  pub of_earlier : (a : Claim) → Contains earlier a → IsCompatible (lock_uses c.set) (lock_uses a.set)

-- each waiter is held back
pub record AreClaimsHeldBack (started waiting : List Claim) : Type 0 where
  pub each : (earlier : List Claim) (c : Claim) (later : List Claim) → waiting ≡ earlier ++ c ∷ later → IsClaimHeldBack started earlier c

-- the claims of the context in two lists, and that all other contexts have the claims that they had
pub record MovesClaims (old new : Claims) (ctx : ContextId) (waiting started : Option LockSet) : Type 0 where
  pub waits : set_of new.waiting ctx ≡ waiting
  pub holds : set_of new.started ctx ≡ started
  pub others_wait : (c : ContextId) → c.0 ≢ ctx.0 → set_of new.waiting c ≡ set_of old.waiting c
  pub others_hold : (c : ContextId) → c.0 ≢ ctx.0 → set_of new.started c ≡ set_of old.started c

-- the context waits, after all others
pub record Enqueues (old new : Claims) (ctx : ContextId) (set : LockSet) : Type 0 where
  pub waiting : new.waiting ≡ old.waiting ++ record { ctx = ctx; set = set } ∷ []
  pub started : new.started ≡ old.started
  pub moves : MovesClaims old new ctx (Some set) None

-- the context is started: it is the first waiter that nothing holds back
pub record Grants (old new : Claims) (ctx : ContextId) : Type 0 where
  pub earlier : List Claim
  pub claim : Claim
  pub later : List Claim
  pub own : claim.ctx ≡ ctx
  pub was : old.waiting ≡ earlier ++ claim ∷ later
  pub waiting : new.waiting ≡ earlier ++ later
  pub started : new.started ≡ old.started ++ claim ∷ []
  pub free : IsFree old.started earlier claim
  pub held : AreClaimsHeldBack old.started earlier
  pub moves : MovesClaims old new ctx None (Some claim.set)

-- no waiter can be started, and nothing changes
pub record GrantsNone (old new : Claims) : Type 0 where
  pub held : AreClaimsHeldBack old.started old.waiting
  pub same : new ≡ old

-- the context is no longer started
pub record Releases (old new : Claims) (ctx : ContextId) : Type 0 where
  pub front : List Claim
  pub claim : Claim
  pub back : List Claim
  pub own : claim.ctx ≡ ctx
  pub was : old.started ≡ front ++ claim ∷ back
  pub started : new.started ≡ front ++ back
  pub waiting : new.waiting ≡ old.waiting
  pub moves : MovesClaims old new ctx None None
