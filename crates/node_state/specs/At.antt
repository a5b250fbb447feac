-- What is at a context: its invocation, its locks, whether it is ready, and the call that it waits with.
use Rattle.std.specs.Prelude.{◌≡◌, ◌≢◌, ◌<◌, ℕ, [], ◌∷◌, ◌++◌, Bool, true, false, List, Option, Some, None, IsSome, length, slice_index_or}
use Rattle.mate_num.specs.declared.bounds.TheConstants.{CONTEXTS_MAX}
use Rattle.mate_num.specs.declared.id.ContextId.{ContextId}
use Rattle.mate_num.specs.declared.lock_set.LockSet.{LockSet}
use Rattle.lock_manager.specs.Claims.{set_of, no_claims, Grants, Releases}
use Rattle.context_sched.specs.Ready.{holds, without}
use Rattle.split_phase.specs.Calls.{Asked, call_at}
use Rattle.node_state.specs.declared.seat.Seat.{Seat}
use Rattle.node_state.specs.declared.contexts.Contexts.{Contexts}

pub record At : Type 0 where
  pub seat : Option Seat
  pub waits : Option LockSet
  pub holds : Option LockSet
  pub ready : Bool
  pub call : Option Asked

abbrev pub seat_at : List (Option Seat) → ContextId → Option Seat
seat_at seats c = slice_index_or seats c.0 None

abbrev pub at : Contexts → ContextId → At
at s c = record {
  seat = seat_at s.seats c;
  waits = set_of s.locks.waiting c;
  holds = set_of s.locks.started c;
  ready = holds s.ring c;
  call = call_at s.pending c;
}

-- no invocation is there
abbrev pub idle : At
idle = record { seat = None; waits = None; holds = None; ready = false; call = None }

-- an invocation is there that is queued for these locks, is ready, or waits for the answer to a call
abbrev pub queued : Seat → LockSet → At
queued s set = record { seat = Some s; waits = Some set; holds = None; ready = false; call = None }

abbrev pub ready : Seat → LockSet → At
ready s set = record { seat = Some s; waits = None; holds = Some set; ready = true; call = None }

abbrev pub waiting : Seat → LockSet → Asked → At
waiting s set call = record { seat = Some s; waits = None; holds = Some set; ready = false; call = Some call }

-- this is at the context, and what was at the others; there are as many seats
pub record Becomes (old new : Contexts) (c : ContextId) (a : At) : Type 0 where
  pub here : at new c ≡ a
  pub others : (k : ContextId) → k.0 ≢ c.0 → at new k ≡ at old k
  pub seats : length new.seats ≡ length old.seats

-- the invocation of this number has the context
pub record IsPlaced (a : At) (n : ℕ) : Type 0 where
  pub seat : Seat
  pub is : a.seat ≡ Some seat
  pub number : seat.inv ≡ n

-- all contexts are idle
pub record AreIdle (s : Contexts) : Type 0 where
  pub each : (c : ContextId) → at s c ≡ idle
  pub locks : s.locks ≡ no_claims
  pub ring : s.ring ≡ []

-- an invocation that waits for locks is none of the ready ones
pub record CanStart (s : Contexts) : Type 0 where
  pub absent : (c : ContextId) (set : LockSet) → (at s c).waits ≡ Some set → (at s c).ready ≡ false

-- the context gets the locks that it waits for, and is ready
pub record StartsContext (old new : Contexts) (c : ContextId) : Type 0 where
  pub set : LockSet
  pub waited : (at old c).waits ≡ Some set
  pub becomes : Becomes old new c (record (at old c) { waits = None; holds = Some set; ready = true })
  pub grants : Grants old.locks new.locks c
  pub ring : new.ring ≡ old.ring ++ c ∷ []

-- the context waits with the call, and is not ready
pub record Asks (old new : Contexts) (c : ContextId) (call : Asked) : Type 0 where
  pub becomes : Becomes old new c (record (at old c) { ready = false; call = Some call })
  pub locks : new.locks ≡ old.locks
  pub ring : new.ring ≡ without old.ring c

-- the context gives back its locks, and has no invocation
pub record Ends (old new : Contexts) (c : ContextId) : Type 0 where
  pub becomes : Becomes old new c (record (at old c) { seat = None; holds = None; ready = false; waits = None })
  pub releases : Releases old.locks new.locks c
  pub ring : new.ring ≡ without old.ring c

-- the ready context goes last, and all else stays
pub record GivesWay (old new : Contexts) (c : ContextId) : Type 0 where
  pub each : (k : ContextId) → at new k ≡ at old k
  pub seats : new.seats ≡ old.seats
  pub locks : new.locks ≡ old.locks
  pub ring : new.ring ≡ without old.ring c ++ c ∷ []

-- the context waits for the answer to a call
pub record IsAsking (s : Contexts) (c : ContextId) : Type 0 where
  pub small : c.0 < CONTEXTS_MAX
  pub asks : IsSome (at s c).call

-- no invocation does
pub record IsNoneAsking (s : Contexts) : Type 0 where
  pub none : (c : ContextId) (seat : Seat) → (at s c).seat ≡ Some seat → (at s c).call ≡ None
