-- The report of a world.
use Rattle.std.specs.Prelude.{◌≡◌, ℕ, ◌<◌, List, length, slice_get, IsSomeAnd}
use Rattle.mate_journal.specs.Log.{Log}
use Rattle.mate_journal.specs.Journal.{journal_of, first_state}
use Rattle.mate_journal.specs.Journal.{TimedEntry as Entered}
use Rattle.mate_journal.specs.WellFormed.{IsWellFormed}
use Rattle.mate_journal.specs.Serial.{IsSerial}
use Rattle.mate_journal.specs.Stores.{ShowsStores}
use Rattle.mate_journal.specs.Grants.{GrantsInOrder}
use Rattle.mate_journal.specs.Devices.{AsksDevicesInOrder}
use Rattle.mate_journal.specs.NodeScript.{RunEnd}
use Rattle.mate_journal.specs.NodeReport.{is_whole}
use Rattle.mate_journal.specs.Tidy.{IsTidyLog, HasFullImages}
use Rattle.mate_journal.specs.declared.report.Report.{Report}
use Rattle.world_rules.specs.World.{World}
use Rattle.world_rules.specs.State.{Moment, state}
use Rattle.world_rules.specs.Run.{HaveCome, IsAtEnd, airs, IsJournalOf}

-- A node's journal is right by itself: it is well formed; its invocations, run whole and one at a time in the order of
-- their ends, give what it records; it shows stores as they are; an invocation waits to start only for conflicting ones; and
-- in each era the calls to a device are in order.
pub record IsRightJournal (w : World) (es : List Entered) : Type 0 where
  pub well_formed : IsWellFormed w.machine (first_state w.machine) es
  pub serial : IsSerial w.machine (first_state w.machine) es
  pub stores : ShowsStores w.machine (first_state w.machine) es
  pub grants : GrantsInOrder w.machine (first_state w.machine) 0 es
  pub devices : AsksDevicesInOrder w.machine.device_of es

-- a node's log records its journal in this run, which is right, and is tidy
pub record IsLogOf (w : World) (how : RunEnd) (ms : List Moment) (k : ℕ) (l : Log) : Type 0 where
  pub journal : IsJournalOf w how ms k (journal_of l)
  pub right : IsRightJournal w (journal_of l)
  pub tidy : IsTidyLog w.description l
  pub images : HasFullImages l

-- The report is of a run of the world that ends so: of events, each of a cause that was due, with what it made. It records
-- each node's log and what happened on the air, whether the run is whole, and how many events came.
pub record IsWorldReport (w : World) (how : RunEnd) (r : Report) : Type 0 where
  pub moments : List Moment
  pub come : HaveCome w moments
  pub at_end : IsAtEnd w how (state w moments)
  pub air : r.air ≡ airs w moments
  pub nodes : length r.nodes ≡ w.nodes
  pub logs : (k : ℕ) → k < w.nodes → IsSomeAnd (slice_get r.nodes k) (IsLogOf w how moments k)
  pub whole : r.whole ≡ is_whole how
  pub events : r.events ≡ length moments
