-- The pieces that a report's text is written in while a run goes on.
use Rattle.std.specs.Prelude.{◌≡◌, ◌≤◌, ◌<◌, ℕ, List, [], ◌++◌, length, drop, slice_set, slice_index_or, All, ◌⊎◌, ⊤}
use Rattle.mate_journal.specs.Log.{Log, GoesOn}
use Rattle.mate_journal.specs.declared.air.Aired.{Aired}
use Rattle.mate_journal.specs.declared.entry.Entry.{Entry}
use Rattle.mate_journal.specs.declared.entry.Entry.TheVariants as entry
use Rattle.mate_journal.specs.declared.entry.Stamped.{Stamped}
use Rattle.mate_journal.specs.declared.report.Report.{Report}

-- the image or store that an entry names is in the log
abbrev pub IsNamed : Log → Entry → Type 0
IsNamed l (entry.Install h version image) = image < length l.images
IsNamed l (entry.Seen store) = store < length l.stores
IsNamed l _ = ⊤

-- each entry of a log is of an event before one
abbrev pub IsBefore : ℕ → Log → Type 0
IsBefore event l = All (λ (e : Stamped). e.stamp.event < event) l.entries

-- `new` is `old` and one more piece of one event: what happened on the air, and the entries of a node's log from a
-- position on. No record of `old` is of a later event, no entry of a later node is of this one, and what happened on
-- the air comes before the entries.
pub record AddsPiece (old new : Report) (aired : List Aired) (log : Log) (from node : ℕ) : Type 0 where
  pub event : ℕ
  pub before : Log
  pub within : node < length old.nodes
  pub is : slice_index_or old.nodes node before ≡ before
  pub goes_on : GoesOn before log
  pub position : from ≡ length before.entries
  pub named : All (λ (e : Stamped). IsNamed before e.entry) before.entries
  pub nodes : new.nodes ≡ slice_set old.nodes node log
  pub air : new.air ≡ old.air ++ aired
  pub of_event : All (λ (e : Stamped). e.stamp.event ≡ event) (drop from log.entries)
  pub air_of_event : All (λ (a : Aired). a.stamp.event ≡ event) aired
  pub up_to : All (λ (l : Log). All (λ (e : Stamped). e.stamp.event ≤ event) l.entries) old.nodes
  pub air_up_to : All (λ (a : Aired). a.stamp.event ≤ event) old.air
  pub later_nodes : (k : ℕ) (d : Log) → node < k → k < length old.nodes → IsBefore event (slice_index_or old.nodes k d)
  pub air_first : (aired ≡ []) ⊎ All (IsBefore event) old.nodes
