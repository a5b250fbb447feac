-- Logs that grow, and records of the air: what is after a place in them is in the ranges of its types.
use Rattle.std.specs.Prelude.{◌≡◌, ◌≤◌, ℕ, List, length, drop, All}
use Rattle.mate_journal.specs.Log.{Log}
use Rattle.mate_journal.specs.OpenLog.{Gone}
use Rattle.mate_journal.specs.Ranges.{HasStampedRanges, HasImageRanges, HasStoreRanges, HasLogRanges}
use Rattle.journal_laws.specs.declared.growth.LogSize.{LogSize}

pub record IsSizeOf (s : LogSize) (l : Log) : Type 0 where
  pub entries : s.entries ≡ length l.entries
  pub images : s.images ≡ length l.images
  pub stores : s.stores ≡ length l.stores

-- what the log has beyond this size is in the ranges of its types
pub record IsInRangeFrom (s : LogSize) (l : Log) : Type 0 where
  pub entries : All HasStampedRanges (drop s.entries l.entries)
  pub images : All HasImageRanges (drop s.images l.images)
  pub stores : All HasStoreRanges (drop s.stores l.stores)

-- the log is in the ranges of its types, and no more of it is gone than it has
pub record IsInRange (l : Log) (gone : Gone) : Type 0 where
  pub ranges : HasLogRanges l
  pub entries : gone.entries ≤ length l.entries
  pub images : gone.images ≤ length l.images
  pub stores : gone.stores ≤ length l.stores
