-- Starts: what is kept while they follow one another, and what holds where none can follow.
use Rattle.std.specs.Prelude.{◌≡◌, ◌≢◌, ℕ, ◌+◌, ◌<◌, ◌≤◌, ◌⊎◌, List, [], ◌∷◌, ◌++◌, All, length}
use Rattle.mate_num.specs.declared.call.Stamp.{Stamp}
use Rattle.lock_manager.specs.Claims.{AreOnce}
use Rattle.mate_journal.specs.Log.{Log}
use Rattle.mate_journal.specs.Machine.{Machine}
use Rattle.mate_journal.specs.Journal.{JournalEntry, Started, Queued, journal_of, NodeState, first_state, next_state}
use Rattle.mate_journal.specs.Grants.{IsHeldBack, AllHeldBack}
use Rattle.mate_journal.specs.Grants.{IsStart}
use Rattle.journal_laws.specs.Growth.{GrantsBefore, last_start}
use Rattle.vm_shape.specs.declared.description.Description.{Description}
use Rattle.node_state.specs.declared.parts.Parts.{Parts}
use Rattle.node_state.specs.Meaning.{machine_in}
use Rattle.node_state.specs.Keeps.{reading, Keeps, Grows}
use Rattle.node_state.specs.Queue.{IsQueue}
use Rattle.node_state.specs.Totals.{starts_left, owes, falls}
use Rattle.mate_journal.specs.Pace.{Pace, paced_all}
use Rattle.node_state.specs.Pace.{IsPace}

-- each queued invocation comes after the last start, or is held back
abbrev pub IsPastLast : Machine → NodeState → ℕ → Type 0
IsPastLast m r last = (k : ℕ) → (r.invocations k).phase ≡ Queued → (last < k) ⊎ IsHeldBack m r k

-- the number that a journal of the log started last, 0 if its last entry is no start
abbrev pub last_started : Log → ℕ
last_started l = last_start 0 (journal_of l)

-- what a node keeps also inside its calls
pub record KeepsOrder (d : Description) (s : Parts) : Type 0 where
  pub keeps : Keeps d s
  pub queue : IsQueue s.contexts
  pub grants : GrantsBefore (machine_in d) (first_state (machine_in d)) 0 (journal_of s.log.all)

-- starts may follow
pub record IsStarting (d : Description) (s : Parts) : Type 0 where
  pub order : KeepsOrder d s
  pub past : IsPastLast (machine_in d) (reading d s.log.all) (last_started s.log.all)

-- no start can follow: what a node keeps between its calls
pub record Rests (d : Description) (s : Parts) : Type 0 where
  pub order : KeepsOrder d s
  pub held : AllHeldBack (machine_in d) (reading d s.log.all)

-- each queued invocation but n is held back
abbrev pub AllButHeld : Machine → NodeState → ℕ → Type 0
AllButHeld m r n = (k : ℕ) → k ≢ n → (r.invocations k).phase ≡ Queued → IsHeldBack m r k

-- there is room for a start, if one can follow
abbrev pub HasRoomToStart : Description → Parts → Type 0
HasRoomToStart d s = AreOnce (s.contexts.locks.started ++ s.contexts.locks.waiting) → (n : ℕ)
    → ((reading d s.log.all).invocations n).phase ≡ Queued → (IsHeldBack (machine_in d) (reading d s.log.all) n → ⊥) → 1 ≤ s.log.all.spare

-- one invocation may start, and there is room for it
pub record IsRoomForOne (d : Description) (s : Parts) : Type 0 where
  pub invocation : ℕ
  pub others : AllButHeld (machine_in d) (reading d s.log.all) invocation
  pub spare : 1 ≤ s.log.all.spare

-- there is room for all starts that can follow
abbrev pub IsRoomForAll : Description → Parts → Type 0
IsRoomForAll d s = (starts_left s.contexts ≤ s.log.all.spare) ⊎ IsRoomForOne d s

-- one starts
pub record StartsNext (d : Description) (old new : Parts) (at : Stamp) : Type 0 where
  pub invocation : ℕ
  pub was : ((reading d old.log.all).invocations invocation).phase ≡ Queued
  pub free : IsHeldBack (machine_in d) (reading d old.log.all) invocation → ⊥
  pub starting : IsStarting d new
  pub heard_is : reading d new.log.all ≡ next_state (machine_in d) (reading d old.log.all) (Started invocation)
  pub grows : Grows old.log.all new.log.all at (Started invocation ∷ [])
  pub owed : owes new.contexts + 1 ≡ owes old.contexts
  pub left_is : starts_left new.contexts + 1 ≡ starts_left old.contexts
  pub falls_by : (bound : ℕ) → falls bound new.contexts < falls bound old.contexts
  pub pace : (p : Pace) → IsPace (reading d old.log.all) old.contexts p
      → IsPace (reading d new.log.all) new.contexts (paced_all p (Started invocation ∷ []))
  pub heap : new.heap ≡ old.heap
  pub handlers : new.handlers ≡ old.handlers
  pub posts : new.posts ≡ old.posts

-- none can
pub record StartsNone (d : Description) (old new : Parts) : Type 0 where
  pub same : new ≡ old
  pub held : AllHeldBack (machine_in d) (reading d old.log.all)

-- if all but one were held back, that one may have started, and now all are
abbrev pub AtMost : Description → Parts → List JournalEntry → ℕ → Type 0
AtMost d s told n =
    ((told ≡ []) × AllButHeld (machine_in d) (reading d s.log.all) n)
    ⊎ ((told ≡ Started n ∷ []) × AllHeldBack (machine_in d) (reading d s.log.all))

-- some start, one after another
pub record StartsSome (d : Description) (old new : Parts) (at : Stamp) : Type 0 where
  pub told : List JournalEntry
  pub starts : All IsStart told
  pub grows : Grows old.log.all new.log.all at told
  pub starting : IsStarting d new
  pub owed : owes new.contexts + length told ≡ owes old.contexts
  pub left_is : starts_left new.contexts + length told ≡ starts_left old.contexts
  pub falls_by : (bound : ℕ) → falls bound new.contexts ≤ falls bound old.contexts
  pub pace : (p : Pace) → IsPace (reading d old.log.all) old.contexts p → IsPace (reading d new.log.all) new.contexts (paced_all p told)
  pub at_most : (n : ℕ) → AllButHeld (machine_in d) (reading d old.log.all) n → AtMost d new told n
  pub heap : new.heap ≡ old.heap
  pub handlers : new.handlers ≡ old.handlers
  pub posts : new.posts ≡ old.posts

-- all start that can
pub record StartsAll (d : Description) (old new : Parts) (at : Stamp) : Type 0 where
  pub some : StartsSome d old new at
  pub held : AllHeldBack (machine_in d) (reading d new.log.all)
