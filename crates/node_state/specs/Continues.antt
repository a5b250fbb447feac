-- What one more entry of a node's log asks of the parts that come with it.
use Rattle.std.specs.Prelude.{All, ◌≡◌, ◌+◌, ◌≤◌, false, length}
use Rattle.mate_num.specs.declared.call.Stamp.{Stamp}
use Rattle.mate_journal.specs.declared.entry.Entry.{Entry}
use Rattle.mate_journal.specs.Log.{Log}
use Rattle.mate_journal.specs.Journal.{JournalEntry, journal_entry, journal_of, NodeState, next_state}
use Rattle.journal_laws.specs.Growth.{IsPushed, last_is_seen}
use Rattle.mate_journal.specs.Entries.{IsEntryInRange}
use Rattle.mate_journal.specs.Tidy.{IsStoreOf, NumbersInOrder, HasFullImages}
use Rattle.mate_journal.specs.Serial.{EndsAsRun}
use Rattle.mate_journal.specs.Stores.{ShowsStore, IsSeenBefore}
use Rattle.mate_journal.specs.WellFormed.{MayFollow}
use Rattle.exec_unit.specs.Step.{HasLengths}
use Rattle.vm_shape.specs.declared.description.Description.{Description}
use Rattle.vm_shape.specs.Shapes.{shape_of}
use Rattle.vm_shape.specs.Whole.{context_count}
use Rattle.node_state.specs.declared.parts.Parts.{Parts}
use Rattle.node_state.specs.Meaning.{machine_in}
use Rattle.node_state.specs.Programs.{held_at}
use Rattle.node_state.specs.Fits.{AreInstalled, ContextsMatch}
use Rattle.node_state.specs.Agrees.{Agrees}
use Rattle.node_state.specs.Keeps.{reading, IsTimely}

-- the log records the same as before; it may have an image or a store that no entry names yet
pub record IsPrepared (old before : Log) : Type 0 where
  pub journal : journal_of before ≡ journal_of old
  pub entries : before.entries ≡ old.entries

-- the entry's ids are in range, and the log with it goes on numbering its images and stores in order
pub record AddsTidily (d : Description) (old : Log) (e : Entry) (new : Log) : Type 0 where
  pub in_range : IsEntryInRange d e
  pub numbered : NumbersInOrder old → NumbersInOrder new
  pub lengths : All (IsStoreOf d) old.stores → All (IsStoreOf d) new.stores
  pub full : HasFullImages old → HasFullImages new

-- the parts agree with the state after the entry
pub record AgreesAfter (d : Description) (r : NodeState) (new : Parts) : Type 0 where
  pub posts : r.posts ≡ new.posts
  pub places : length new.handlers.programs ≡ length d.handlers.items
  pub installed : AreInstalled d r.installed (held_at new.handlers.programs)
  pub fits : ContextsMatch (held_at new.handlers.programs) r new.contexts
  pub seats : context_count d ≤ length new.contexts.seats
  pub lengths : HasLengths (shape_of d) new.heap
  pub agrees : Agrees d r new.contexts new.heap

-- the entry may follow
pub record Continues (d : Description) (old new : Parts) (before : Log) (at : Stamp) (e : Entry) (told : JournalEntry) : Type 0 where
  pub prepared : IsPrepared old.log.all before
  pub pushed : IsPushed before record { stamp = at; entry = e } new.log.all
  pub tells : journal_entry before e ≡ told
  pub tidily : AddsTidily d old.log.all e new.log.all
  pub timely : IsTimely at old.log.all
  pub follows : MayFollow (machine_in d) (reading d old.log.all) told
  pub ends : EndsAsRun (machine_in d) (reading d old.log.all) told
  pub shown : ShowsStore (machine_in d) (reading d old.log.all) told
  pub before_era : IsSeenBefore (last_is_seen false (journal_of old.log.all)) told
  pub numbers : new.posts ≤ length old.log.all.entries + 1
  pub after : AgreesAfter d (next_state (machine_in d) (reading d old.log.all) told) new
