-- What is recorded of a world's run.
use Rattle.std.specs.Prelude.{◌≡◌, ◌≤◌, ◌<◌, ◌+◌, ◌++◌, ℕ, Bool, true, false, List, length, drop, slice_get, slice_set, Some, None, Option, ⊤}
use Rattle.std.specs.List.{AllZip}
use Rattle.mate_journal.specs.Log.{Log, IsSameLog, GoesOn}
use Rattle.mate_journal.specs.OpenLog.{gone_of}
use Rattle.mate_journal.specs.Tidy.{NumbersInOrder}
use Rattle.mate_journal.specs.declared.air.Aired.{Aired}
use Rattle.mate_journal.specs.declared.report.TheConstants.{ENTRIES_MAX}
use Rattle.world_runs.specs.Records.{HasLog, IsSameRecord}
use Rattle.world_runs.specs.declared.record.Record.{Record}
use Rattle.world_state.specs.declared.mote.Mote.{Mote}
use Rattle.world_state.specs.Reporting.{mote_logs}
use Rattle.world_state.specs.declared.simulation.Simulation.{Simulation}

-- the record has these logs, but for their room, and this air
pub record IsRecordOf (r : Record) (told : List Log) (aired : List Aired) : Type 0 where
  pub logs : AllZip IsSameLog r.logs.items told
  pub air : r.air ≡ aired
  pub places : length r.places ≡ length told

-- it has all but what this node and the radio have at hand
pub record IsRecordBefore (r : Record) (s : Simulation) (node : ℕ) : Type 0 where
  pub mote : Mote
  pub front : Log
  pub found : slice_get s.motes.items node ≡ Some mote
  pub gone : mote.node.gone ≡ gone_of front
  pub goes_on : GoesOn front mote.node.log
  pub logs : AllZip IsSameLog r.logs.items (slice_set (mote_logs s.motes.items) node front)
  pub air : s.radio.air ≡ r.air ++ drop s.radio.gone s.radio.air
  pub places : length r.places ≡ length s.motes.items

-- the node has no more at hand than a store that was seen, after this log of the record
pub record HasStoreBehind (own : Log) (m : Mote) : Type 0 where
  pub front : Log
  pub same : IsSameLog own front
  pub gone : m.node.gone ≡ gone_of front
  pub goes_on : GoesOn front m.node.log
  pub numbered : NumbersInOrder m.node.log
  pub few : length m.node.log.entries < ENTRIES_MAX
  pub small : length goes_on.entries + length goes_on.images + length goes_on.stores ≤ 2

-- so it is of each node
pub record HaveStoresBehind (r : Record) (motes : List Mote) : Type 0 where
  pub count : length r.logs.items ≡ length motes
  pub places : length r.places ≡ length motes
  pub each : (k : ℕ) (own : Log) (m : Mote) → HasLog r k own → slice_get motes k ≡ Some m → HasStoreBehind own m

-- ---- with a record that is kept, or without one

abbrev pub IsRecorded : Option Record → Simulation → Type 0
IsRecorded None s = ⊤
IsRecorded (Some r) s = IsRecordOf r (mote_logs s.motes.items) s.radio.air

abbrev pub IsRecordedBefore : Option Record → Simulation → ℕ → Type 0
IsRecordedBefore None s node = ⊤
IsRecordedBefore (Some r) s node = IsRecordBefore r s node

abbrev pub AreStoresBefore : Option Record → List Mote → Type 0
AreStoresBefore None motes = ⊤
AreStoresBefore (Some r) motes = HaveStoresBehind r motes

-- the nodes' logs are recorded, beside the air that was
abbrev pub AreStoresRecorded : Option Record → Option Record → List Mote → Type 0
AreStoresRecorded None None motes = ⊤
AreStoresRecorded None (Some s) motes = ⊥
AreStoresRecorded (Some r) None motes = ⊥
AreStoresRecorded (Some r) (Some s) motes = IsRecordOf s (mote_logs motes) r.air

-- it stays as it was, but for its room
abbrev pub StaysRecorded : Option Record → Option Record → Type 0
StaysRecorded None None = ⊤
StaysRecorded None (Some r) = ⊥
StaysRecorded (Some r) None = ⊥
StaysRecorded (Some r) (Some s) = IsSameRecord r s

abbrev pub has_record : Option Record → Bool
has_record None = false
has_record (Some r) = true
