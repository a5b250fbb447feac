-- What each node's log keeps.
use Rattle.mate_journal.specs.Log.{Log}
use Rattle.mate_journal.specs.Machine.{Machine}
use Rattle.mate_journal.specs.Journal.{journal_of, first_state}
use Rattle.mate_journal.specs.WellFormed.{IsWellFormed}
use Rattle.mate_journal.specs.Serial.{IsSerial}
use Rattle.mate_journal.specs.Stores.{ShowsStores}
use Rattle.mate_journal.specs.Grants.{GrantsInOrder}
use Rattle.mate_journal.specs.Devices.{AsksDevicesInOrder}
use Rattle.mate_journal.specs.Tidy.{IsTidyLog, HasFullImages}
use Rattle.vm_shape.specs.declared.description.Description.{Description}
use Rattle.journal_laws.specs.Apart.{EndAsPosted}
use Rattle.journal_laws.specs.Progress.{IsNeverStuck}

-- The log is tidy. Its journal is well formed. Its invocations, run whole and one at a time in the order of their ends,
-- give what it records, and it shows stores as they are. An invocation waits to start only for conflicting ones, so that
-- wherever no start follows some invocation is ready, waits for the outside, or none is live; conflicting ones end in the
-- order of their posts; and in each era the calls to a device are in order.
pub record KeepsJournal (d : Description) (m : Machine) (l : Log) : Type 0 where
  pub well_formed : IsWellFormed m (first_state m) (journal_of l)
  pub serial : IsSerial m (first_state m) (journal_of l)
  pub stores : ShowsStores m (first_state m) (journal_of l)
  pub grants : GrantsInOrder m (first_state m) 0 (journal_of l)
  pub never_stuck : IsNeverStuck m (first_state m) (journal_of l)
  pub devices : AsksDevicesInOrder m.device_of (journal_of l)
  pub tidy : IsTidyLog d l
  pub full : HasFullImages l
  pub ends_as_posted : EndAsPosted m (first_state m) (journal_of l)
