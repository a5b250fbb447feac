-- What a call of a node leaves: the entries that it made, and a node that rests again.
use Rattle.std.specs.Prelude.{◌≡◌, ℕ, List, [], ◌∷◌, length}
use Rattle.mate_num.specs.Store.{zero_store}
use Rattle.mate_num.specs.declared.call.Stamp.{Stamp}
use Rattle.mate_num.specs.declared.id.ContextId.{ContextId}
use Rattle.mate_journal.specs.Journal.{JournalEntry, Seen, NodeState}
use Rattle.mate_journal.specs.WellFormed.{IsWaiting}
use Rattle.node_state.specs.At.{AreIdle}
use Rattle.vm_shape.specs.declared.description.Description.{Description}
use Rattle.node_state.specs.declared.parts.Parts.{Parts}
use Rattle.node_state.specs.Keeps.{reading, TellsMore}
use Rattle.mate_journal.specs.Pace.{Pace, paced_all}
use Rattle.mate_journal.specs.Turns.{ShowsReady}
use Rattle.node_state.specs.Meaning.{machine_in}
use Rattle.node_state.specs.Pace.{IsPace}
use Rattle.node_state.specs.Starting.{Rests}

-- The entries meet the rule, the node rests again, and its pace is the one that they make.
pub record RestsAgain (d : Description) (old new : Parts) (at : Stamp) (Rule : List JournalEntry → Type 0) : Type 0 where
  pub adds : TellsMore old.log.all new.log.all at Rule
  pub rests : Rests d new
  pub pace : (p : Pace) → IsPace (reading d old.log.all) old.contexts p
      → IsPace (reading d new.log.all) new.contexts (paced_all p adds.told)

-- the rule, at each pace that the node may have
abbrev pub AtPace : Description → Parts → (Pace → List JournalEntry → Type 0) → List JournalEntry → Type 0
AtPace d s Rule told = (p : Pace) → IsPace (reading d s.log.all) s.contexts p → Rule p told

-- no invocation in the context waits for an answer
abbrev pub NobodyWaits : NodeState → ContextId → Type 0
NobodyWaits r c = (n : ℕ) → IsWaiting r n → (r.invocations n).context ≡ c → ⊥

-- the store is recorded, and nothing else changes
pub record TellsStore (d : Description) (old new : Parts) (at : Stamp) : Type 0 where
  pub again : RestsAgain d old new at (λ told. told ≡ Seen old.heap ∷ [])
  pub shown : (p : Pace) → IsPace (reading d old.log.all) old.contexts p
      → ShowsReady (machine_in d) (reading d old.log.all) p old.heap
  pub same : new ≡ record old { log = new.log }

-- all contexts are idle, and the store is as at first
pub record IsCleared (d : Description) (old new : Parts) : Type 0 where
  pub idle : AreIdle new.contexts
  pub zero : new.heap ≡ zero_store (length d.shared.items) (length d.buffers.items)
  pub seats : length new.contexts.seats ≡ length old.contexts.seats
  pub same : new ≡ record old { contexts = new.contexts; heap = new.heap }
