-- The numbers of a report are in the ranges of their types: every report's are.
use Rattle.std.specs.Prelude.{◌<◌, ◌≤◌, ◌^◌, ℕ, ℤ, List, length, All, FitsSigned, ⊤}
use Rattle.std.specs.Int.{w16}
use Rattle.arrayvec.specs.ArrayVec.{ArrayVec}
use Rattle.mate_num.specs.declared.bounds.TheConstants.{IMAGE_MAX, PACKET_MAX}
use Rattle.mate_num.specs.declared.call.Stamp.{Stamp}
use Rattle.mate_num.specs.declared.store.Store.{Store}
use Rattle.mate_journal.specs.Entries.{AreValues, HasEntryRanges}
use Rattle.mate_journal.specs.Log.{Log}
use Rattle.mate_journal.specs.declared.air.Air.{Air}
use Rattle.mate_journal.specs.declared.air.Air.TheVariants as air
use Rattle.mate_journal.specs.declared.air.Aired.{Aired}
use Rattle.mate_journal.specs.declared.entry.Stamped.{Stamped}
use Rattle.mate_journal.specs.declared.report.Report.{Report}

abbrev pub IsByteList : List ℕ → Type 0
IsByteList bytes = All (λ b. b < 256) bytes

pub record HasStampRange (at : Stamp) : Type 0 where
  pub event : at.event < 2 ^ 64
  pub time : at.time < 2 ^ 32

abbrev pub HasAirRanges : Air → Type 0
HasAirRanges (air.Interval length) = length < 2 ^ 32
HasAirRanges air.Keep = ⊤
HasAirRanges (air.Sent n bytes) = (n < 2 ^ 32) × (length bytes.items ≤ PACKET_MAX) × IsByteList bytes.items
HasAirRanges (air.Lost n to) = n < 2 ^ 32
HasAirRanges (air.Got n from) = n < 2 ^ 32
HasAirRanges (air.Noise bytes) = (length bytes.items ≤ PACKET_MAX) × IsByteList bytes.items

abbrev pub HasImageRanges : ArrayVec ℕ → Type 0
HasImageRanges image = (length image.items ≤ IMAGE_MAX) × IsByteList image.items

abbrev pub HasStoreRanges : Store → Type 0
HasStoreRanges s = All (λ v. FitsSigned w16 v) s.shared.items × All (λ (b : ArrayVec ℤ). AreValues b.items) s.buffers.items

pub record HasStampedRanges (e : Stamped) : Type 0 where
  pub stamp : HasStampRange e.stamp
  pub entry : HasEntryRanges e.entry

pub record HasAiredRanges (a : Aired) : Type 0 where
  pub stamp : HasStampRange a.stamp
  pub air : HasAirRanges a.air

pub record HasLogRanges (l : Log) : Type 0 where
  pub entries : All HasStampedRanges l.entries
  pub images : All HasImageRanges l.images
  pub stores : All HasStoreRanges l.stores

pub record HasReportRanges (r : Report) : Type 0 where
  pub nodes : All HasLogRanges r.nodes
  pub air : All HasAiredRanges r.air
  pub events : r.events < 2 ^ 64
