-- What a journal is tried against, and how far it was read.
use Rattle.std.specs.Prelude.{◌≡◌, ◌≤◌, ℕ, true, List, length, map, drop, Option, Some, IfSome, IsSomeAnd, slice_index_or, slice_set}
use Rattle.mate_num.specs.declared.bounds.TheConstants.{HANDLERS_MAX}
use Rattle.mate_num.specs.declared.id.HandlerId.{HandlerId}
use Rattle.mate_journal.specs.Journal.{JournalEntry, TimedEntry, journal_of, journal_entry}
use Rattle.mate_journal.specs.Machine.{Machine, HeldProgram}
use Rattle.mate_journal.specs.Tidy.{IsTidyLog}
use Rattle.mate_journal.specs.declared.entry.Entry.TheVariants as entry
use Rattle.mate_journal.specs.declared.entry.Stamped.{Stamped}
use Rattle.journal_laws.specs.Growth.{event_of}
use Rattle.node_programs.specs.Right.{AreRightPrograms}
use Rattle.node_programs.specs.Sources.{held_as}
use Rattle.audit_rules.specs.Roll.{LiveAreInstalled, nobody}
use Rattle.audit_rules.specs.Following.{entries_follow, follow_one_another}
use Rattle.audit_rules.specs.Laws.{machine_by}
use Rattle.audit_rules.specs.Tests.{images_right}
use Rattle.audit_rules.specs.Views.{seat_in, roll_in}
use Rattle.audit_rules.specs.declared.seat.Seat.{Seat}
use Rattle.vm_shape.specs.declared.description.Description.{Description}
use Rattle.audit_programs.specs.Ready.{IsReadyAs, installed_programs, ready_at}
use Rattle.audit_programs.specs.declared.ready.ReadyProgram.{ReadyProgram}
use Rattle.audit_programs.specs.declared.ready_roll.ReadyRoll.{ReadyRoll}
use Rattle.audit_programs.specs.declared.trial.Trial.{Trial}

-- the machine, with what the programs mean
abbrev pub machine_for : Trial → Machine
machine_for t = machine_by t.desc.now t.programs.now

-- the events from a place in the log on
abbrev pub events_from : Trial → ℕ → List TimedEntry
events_from t place = map (event_of t.log.now) (drop place t.log.now.entries)

-- an entry in place of none
abbrev pub no_entry : Stamped
no_entry = record { stamp = record { event = 0; time = 0 }; entry = entry.Reset }

-- what the entry at a place records
abbrev pub told_at : Trial → ℕ → JournalEntry
told_at t place = journal_entry t.log.now (slice_index_or t.log.now.entries place no_entry).entry

-- the log is tidy and the programs are right; the journal keeps the laws before: its entries follow one another, and what is installed is
-- one of the programs
pub record IsTried (t : Trial) : Type 0 where
  pub few : length t.desc.now.handlers.items ≤ HANDLERS_MAX
  pub tidy : IsTidyLog t.desc.now t.log.now
  pub programs : AreRightPrograms t.desc.now t.programs.now
  pub follow : entries_follow (machine_for t) (journal_of t.log.now) ≡ true
  pub images : images_right t.programs.now nobody (journal_of t.log.now) ≡ true

-- each program that is installed is ready
abbrev pub AreReady : Description → (HandlerId → Option HeldProgram) → List (Option ReadyProgram) → Type 0
AreReady d installed programs = (h : HandlerId) (p : HeldProgram) → installed h ≡ Some p → IsSomeAnd (ready_at programs h) (IsReadyAs d p)

-- each program that was made ready is so for itself, whatever journal of the machine it was made for
abbrev pub StayReady : Description → List (Option ReadyProgram) → Type 0
StayReady d programs = (h : HandlerId) → IfSome (ready_at programs h) (λ r. IsReadyAs d (held_as r.program.now) r)

-- there is a place for each handler, and what was made ready is kept
pub record HasKept (d : Description) (x : ReadyRoll) : Type 0 where
  pub places : length (installed_programs x.ready) ≡ HANDLERS_MAX
  pub kept : StayReady d (installed_programs x.ready)

-- one more held program was made ready
pub record MakesReady (d : Description) (p : HeldProgram) (before after : List (Option ReadyProgram)) : Type 0 where
  pub made : ReadyProgram
  pub ready : IsReadyAs d p made
  pub own : IsReadyAs d (held_as made.program.now) made
  pub after_is : after ≡ slice_set before p.handler.0 (Some made)

-- the roll is that of the entries before a place, with the program of each handler made ready
pub record HasReadUpTo (t : Trial) (place : ℕ) (x : ReadyRoll) : Type 0 where
  pub follow : follow_one_another (machine_for t) (roll_in t.log.now.images x.roll) (events_from t place) ≡ true
  pub images : images_right t.programs.now (roll_in t.log.now.images x.roll) (events_from t place) ≡ true
  pub installed : LiveAreInstalled (roll_in t.log.now.images x.roll)
  pub kept : HasKept t.desc.now x
  pub ready : AreReady t.desc.now (roll_in t.log.now.images x.roll).installed (installed_programs x.ready)

-- the program of a live invocation is ready
abbrev pub IsSeatReady : Trial → ReadyRoll → Seat → Type 0
IsSeatReady t x s = IsSomeAnd (ready_at (installed_programs x.ready) s.handler)
    (IsReadyAs t.desc.now (seat_in t.log.now.images s).invocation.program)
