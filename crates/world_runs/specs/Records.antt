-- What is kept of a run apart from its nodes.
use Rattle.std.specs.Prelude.{◌≡◌, ◌≢◌, ◌≤◌, ◌<◌, ◌+◌, ◌^◌, ℕ, List, [], ◌++◌, length, slice_get, slice_set, Some, All}
use Rattle.std.specs.List.{AllZip}
use Rattle.mate_journal.specs.Log.{Log, IsSameLog, IsEmpty}
use Rattle.mate_journal.specs.OpenLog.{NumberFits, joined}
use Rattle.mate_journal.specs.declared.air.Aired.{Aired}
use Rattle.mate_journal.specs.declared.entry.Stamped.{Stamped}
use Rattle.world_runs.specs.declared.record.Record.{Record}

-- the node's log in the record
abbrev pub HasLog : Record → ℕ → Log → Type 0
HasLog r node l = slice_get r.logs.items node ≡ Some l

-- nothing happened on this number of nodes
pub record IsEmptyRecord (nodes : ℕ) (r : Record) : Type 0 where
  pub count : length r.logs.items ≡ nodes
  pub empty : All IsEmpty r.logs.items
  pub air : r.air ≡ []
  pub places : length r.places ≡ nodes

-- the same logs, but for their room, and the same air
pub record IsSameRecord (old new : Record) : Type 0 where
  pub logs : AllZip IsSameLog new.logs.items old.logs.items
  pub air : new.air ≡ old.air
  pub places : length new.places ≡ length old.places

-- the second log fits after the first
pub record FitsBehind (own told : Log) : Type 0 where
  pub images : length own.images + length told.images < 4000000000
  pub stores : length own.stores + length told.stores < 4000000000
  pub names : All (λ (s : Stamped). NumberFits (length own.images) (length own.stores) s.entry) told.entries

-- this may be recorded after what the node recorded
pub record MayAdd (r : Record) (node : ℕ) (told : Log) : Type 0 where
  pub fits : (own : Log) → HasLog r node own → FitsBehind own told
  pub short : length told.entries + length told.images + length told.stores < 2 ^ 63

-- the node recorded this after what it recorded, and that happened on the air
pub record HasAdded (old new : Record) (node : ℕ) (told : Log) (aired : List Aired) : Type 0 where
  pub logs : (own : Log) → HasLog old node own → AllZip IsSameLog new.logs.items (slice_set old.logs.items node (joined own told))
  pub air : new.air ≡ old.air ++ aired
  pub places : length new.places ≡ length old.places

-- each log has at least this much room
abbrev pub HaveRoom : ℕ → Record → Type 0
HaveRoom room r = All (λ (l : Log). room ≤ l.spare) r.logs.items

-- the node's log has room for this
abbrev pub HasRoomFor : Record → ℕ → Log → Type 0
HasRoomFor r node told = (own : Log) → HasLog r node own → length told.entries + length told.images + length told.stores ≤ own.spare

-- the logs of the other nodes are as they were, with their room
abbrev pub OthersStay : Record → Record → ℕ → Type 0
OthersStay old new node = (k : ℕ) → k ≢ node → slice_get new.logs.items k ≡ slice_get old.logs.items k
