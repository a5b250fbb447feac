-- What a post answers, and which context it takes.
use Rattle.std.specs.Prelude.{◌≡◌, ◌<◌, ℕ, ℤ, suc, List, [], ◌∷◌, None, Some, IsSome}
use Rattle.arrayvec.specs.ArrayVec.{ArrayVec}
use Rattle.mate_num.specs.declared.bounds.TheConstants.{CONTEXTS_MAX}
use Rattle.mate_num.specs.declared.id.ContextId.{ContextId}
use Rattle.mate_num.specs.declared.id.HandlerId.{HandlerId}
use Rattle.mate_journal.specs.Machine.{Machine, IsContextOf}
use Rattle.mate_journal.specs.Journal.{JournalEntry, Posted as PostedEntry, NodeState}
use Rattle.mate_journal.specs.NodeScript.{DropsNoCode, DropsAllBusy, IsFirstIdle, Posts}
use Rattle.mate_num.specs.declared.call.Stamp.{Stamp}
use Rattle.mate_num.specs.declared.lock_set.LockSet.{LockSet}
use Rattle.vm_shape.specs.declared.description.Description.{Description}
use Rattle.node_state.specs.declared.handlers.Held.{Held}
use Rattle.node_state.specs.Programs.{held_at}
use Rattle.node_state.specs.declared.parts.Parts.{Parts}
use Rattle.node_state.specs.Meaning.{machine_in}
use Rattle.node_state.specs.Keeps.{reading, Grows}
use Rattle.mate_journal.specs.Pace.{Pace}
use Rattle.node_state.specs.Pace.{IsPace}
use Rattle.node_state.specs.Starting.{Rests, IsStarting, AllButHeld}
use Rattle.node_state.specs.declared.contexts.Contexts.{Contexts}
use Rattle.node_state.specs.At.{at}
use Rattle.node_calls.specs.declared.posting.PostAnswer.{PostAnswer}
use Rattle.node_calls.specs.declared.posting.PostAnswer.TheVariants.{Posted, NoCode, AllBusy}

-- the answer says which of the three the entries are, and which number the invocation has
abbrev pub PostGives : Machine → NodeState → HandlerId → ArrayVec ℤ → PostAnswer → List JournalEntry → Type 0
PostGives m r h payload (Posted inv) told = (inv ≡ suc r.posts) × Posts m r h payload told
PostGives m r h payload NoCode told = DropsNoCode r h told
PostGives m r h payload AllBusy told = DropsAllBusy m r h told

-- no invocation has the context, and one has each lower context of the handler
pub record IsFirstFree (m : Machine) (contexts : Contexts) (h : HandlerId) (c : ContextId) : Type 0 where
  pub context : IsContextOf m h c
  pub small : c.0 < CONTEXTS_MAX
  pub free : (at contexts c).seat ≡ None
  pub lower : (k : ContextId) → IsContextOf m h k → k.0 < c.0 → IsSome (at contexts k).seat

-- an invocation has each context of the handler
abbrev pub HasNoneFree : Machine → Contexts → HandlerId → Type 0
HasNoneFree m contexts h = (k : ContextId) → IsContextOf m h k → IsSome (at contexts k).seat

-- the context of the handler can take an invocation that is to have these locks
pub record CanQueue (d : Description) (s : Parts) (h : HandlerId) (c : ContextId) (locks : LockSet) : Type 0 where
  pub rests : Rests d s
  pub x : Held
  pub is_held : held_at s.handlers.programs h ≡ Some x
  pub locks_are : x.locks ≡ locks
  pub first : IsFirstFree (machine_in d) s.contexts h c

-- the invocation of this number is in the handler's first idle context, and all others that wait are held back
pub record IsQueued (d : Description) (old new : Parts) (at_stamp : Stamp) (h : HandlerId) (payload : ArrayVec ℤ) (n : ℕ) : Type 0 where
  pub number : n ≡ suc (reading d old.log.all).posts
  pub context : ContextId
  pub code : IsSome ((reading d old.log.all).installed h)
  pub first_idle : IsFirstIdle (machine_in d) (reading d old.log.all) h context
  pub grows : Grows old.log.all new.log.all at_stamp (PostedEntry n h context payload ∷ [])
  pub starting : IsStarting d new
  pub others : AllButHeld (machine_in d) (reading d new.log.all) n
  pub pace : (p : Pace) → IsPace (reading d old.log.all) old.contexts p → IsPace (reading d new.log.all) new.contexts p
