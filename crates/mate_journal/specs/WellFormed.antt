-- Well-formed journals: how the entries of an invocation follow one another.
use Rattle.std.specs.Prelude.{ℤ, ◌≡◌, ◌≤◌, ℕ, suc, List, [], ◌∷◌, IsTrue, IsSome}
use Rattle.arrayvec.specs.ArrayVec.{ArrayVec}
use Rattle.mate_num.specs.Lists.{Along}
use Rattle.mate_num.specs.declared.call.End.{End}
use Rattle.mate_num.specs.declared.call.End.TheVariants as end
use Rattle.mate_num.specs.declared.call.Stamp.{Stamp}
use Rattle.mate_num.specs.declared.id.ContextId.{ContextId}
use Rattle.mate_num.specs.declared.id.FunId.{FunId}
use Rattle.mate_journal.specs.Machine.{Machine, IsContextOf}
use Rattle.mate_journal.specs.Journal.{JournalEntry, Posted, Started, Asked, Answered, Ended, TimedEntry, Queued, Ready, Waiting, is_live, NodeState, AtEachEntry}

-- no live invocation has the context
abbrev pub IsIdle : NodeState → ContextId → Type 0
IsIdle r c = (n : ℕ) → IsTrue (is_live (r.invocations n).phase) → (r.invocations n).context ≡ c → ⊥

-- a live invocation has the context
pub record IsBusy (r : NodeState) (c : ContextId) : Type 0 where
  pub invocation : ℕ
  pub live : IsTrue (is_live (r.invocations invocation).phase)
  pub context : (r.invocations invocation).context ≡ c

-- the invocation waits for the answer to a call
pub record IsWaiting (r : NodeState) (n : ℕ) : Type 0 where
  pub fun : FunId
  pub args : ArrayVec ℤ
  pub waits : (r.invocations n).phase ≡ Waiting fun args

-- an end that closes an invocation: it halted or faulted
abbrev pub Closes : End → Type 0
Closes (end.Wants fun args) = ⊥
Closes _ = Unit {0}

-- Posts are numbered from 1, go to a handler for which something is installed, and take a context of it that no
-- live invocation has. A queued invocation starts once; a started one asks, is answered, and so on in turn; it
-- ends while it isn't waiting. After its end, or its era's, nothing more is recorded of an invocation.
abbrev pub MayFollow : Machine → NodeState → JournalEntry → Type 0
MayFollow m r (Posted n h c payload) = (n ≡ suc r.posts) × IsSome (r.installed h) × IsContextOf m h c × IsIdle r c
MayFollow m r (Started n) = (r.invocations n).phase ≡ Queued
MayFollow m r (Asked n f args) = (r.invocations n).phase ≡ Ready
MayFollow m r (Answered n value) = IsWaiting r n
MayFollow m r (Ended n how) = ((r.invocations n).phase ≡ Ready) × Closes how
MayFollow m r _ = Unit {0}

-- neither the number nor the time of the event falls, and one event has one time
pub record NotBefore (old new : Stamp) : Type 0 where
  pub event : old.event ≤ new.event
  pub time : old.time ≤ new.time
  pub same : old.event ≡ new.event → old.time ≡ new.time

-- stamps never fall along events that follow one of this stamp
abbrev pub IsInTime : Stamp → List TimedEntry → Type 0
IsInTime = Along (λ last e. NotBefore last e.stamp) (λ last e. e.stamp)

-- stamps never fall along the journal, whatever its first one is
abbrev pub StampsRise : List TimedEntry → Type 0
StampsRise [] = Unit {0}
StampsRise (e ∷ es) = IsInTime e.stamp es

pub record IsWellFormed (m : Machine) (r : NodeState) (es : List TimedEntry) : Type 0 where
  pub in_time : StampsRise es
  pub follow : AtEachEntry (MayFollow m) m r es
