-- The run of a node script: what its journal owes.
use Rattle.std.specs.Prelude.{List}
use Rattle.mate_journal.specs.Log.{Log}
use Rattle.mate_journal.specs.Machine.{Machine}
use Rattle.mate_journal.specs.Journal.{journal_of, first_state}
use Rattle.mate_journal.specs.WellFormed.{IsWellFormed}
use Rattle.mate_journal.specs.Serial.{IsSerial}
use Rattle.mate_journal.specs.Stores.{ShowsStores}
use Rattle.mate_journal.specs.Grants.{GrantsInOrder}
use Rattle.mate_journal.specs.Devices.{AsksDevicesInOrder}
use Rattle.mate_journal.specs.NodeScript.{Step, RunEnd, IsRunOf}

-- The journal of the log is well formed; its invocations, run whole and one at a time in the order of their ends, give
-- what it records; it shows stores as they are; an invocation waits to start only for conflicting ones; in each
-- era the calls to a device are in order; and its events are those of the steps, in turns.
pub record IsNodeRun (m : Machine) (how : RunEnd) (steps : List Step) (l : Log) : Type 0 where
  pub well_formed : IsWellFormed m (first_state m) (journal_of l)
  pub serial : IsSerial m (first_state m) (journal_of l)
  pub stores : ShowsStores m (first_state m) (journal_of l)
  pub grants : GrantsInOrder m (first_state m) 0 (journal_of l)
  pub devices : AsksDevicesInOrder m.device_of (journal_of l)
  pub events : IsRunOf m how steps (journal_of l)
