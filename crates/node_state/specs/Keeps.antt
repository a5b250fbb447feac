-- What the parts of a node keep: its log is tidy; its journal is well formed, is serial and shows stores as they are, and the parts
-- agree with the state that it leads to.
use Rattle.std.specs.Prelude.{◌≡◌, ◌+◌, ◌≤◌, List, length, map, ◌++◌}
use Rattle.mate_num.specs.declared.call.Stamp.{Stamp}
use Rattle.mate_journal.specs.Log.{Log}
use Rattle.mate_journal.specs.Journal.{JournalEntry, TimedEntry, journal_of, NodeState, first_state, state_after_all}
use Rattle.mate_journal.specs.Tidy.{IsTidyLog, HasFullImages}
use Rattle.journal_laws.specs.Growth.{FollowsLast}
use Rattle.mate_journal.specs.WellFormed.{IsWellFormed}
use Rattle.mate_journal.specs.Serial.{IsSerial}
use Rattle.mate_journal.specs.Stores.{ShowsStores}
use Rattle.exec_unit.specs.Step.{HasLengths}
use Rattle.vm_shape.specs.declared.description.Description.{Description}
use Rattle.vm_shape.specs.Shapes.{shape_of}
use Rattle.vm_shape.specs.Whole.{context_count}
use Rattle.node_state.specs.declared.parts.Parts.{Parts}
use Rattle.node_state.specs.Meaning.{machine_in}
use Rattle.node_state.specs.Programs.{held_at}
use Rattle.node_state.specs.Fits.{AreInstalled, ContextsMatch}
use Rattle.node_state.specs.Agrees.{Agrees}

-- the state of a node that its log leads to
unfoldable pub reading : Description → Log → NodeState
reading d l = state_after_all (machine_in d) (first_state (machine_in d)) (journal_of l)

pub record Keeps (d : Description) (s : Parts) : Type 0 where
  pub tidy : IsTidyLog d s.log.all
  pub full : HasFullImages s.log.all
  pub numbers : s.posts ≤ length s.log.all.entries
  pub well_formed : IsWellFormed (machine_in d) (first_state (machine_in d)) (journal_of s.log.all)
  pub posts : (reading d s.log.all).posts ≡ s.posts
  pub places : length s.handlers.programs ≡ length d.handlers.items
  pub installed : AreInstalled d (reading d s.log.all).installed (held_at s.handlers.programs)
  pub fits : ContextsMatch (held_at s.handlers.programs) (reading d s.log.all) s.contexts
  pub seats : context_count d ≤ length s.contexts.seats
  pub lengths : HasLengths (shape_of d) s.heap
  pub agrees : Agrees d (reading d s.log.all) s.contexts s.heap
  pub serial : IsSerial (machine_in d) (first_state (machine_in d)) (journal_of s.log.all)
  pub shows : ShowsStores (machine_in d) (first_state (machine_in d)) (journal_of s.log.all)

-- an entry of this stamp may come next
pub record IsTimely (at : Stamp) (l : Log) : Type 0 where
  pub after_last : FollowsLast (journal_of l) at

-- an event of this stamp
abbrev pub event_at : Stamp → JournalEntry → TimedEntry
event_at at told = record { stamp = at; told = told }

-- the log records this more, with this stamp
pub record Grows (old new : Log) (at : Stamp) (told : List JournalEntry) : Type 0 where
  pub journal : journal_of new ≡ journal_of old ++ map (event_at at) told
  pub count : length new.entries ≡ length old.entries + length told
  pub spare : old.spare ≤ new.spare + length told
  pub timely : IsTimely at new

-- the log records more that meets the rule
pub record TellsMore (old new : Log) (at : Stamp) (Rule : List JournalEntry → Type 0) : Type 0 where
  pub told : List JournalEntry
  pub grows : Grows old new at told
  pub made : Rule told
