-- What is counted of a log and of the air.
use Rattle.std.specs.Prelude.{◌≡◌, ◌≤◌, ◌<◌, ◌+◌, ◌==◌, ℕ, if◌then◌else◌, List, [], ◌∷◌, length, max, fold, filter_map}
use Rattle.std.specs.Prelude.{count_by, slice_index_or, Option, None, Some, ⊤}
use Rattle.mate_journal.specs.Log.{Log}
use Rattle.mate_journal.specs.declared.air.Air.{Air}
use Rattle.mate_journal.specs.declared.air.Aired.{Aired}
use Rattle.mate_journal.specs.declared.entry.Entry.{Entry}
use Rattle.mate_journal.specs.declared.entry.Entry.TheVariants as entry
use Rattle.mate_journal.specs.declared.entry.Stamped.{Stamped}
use Rattle.report_writer.specs.Brief.{is_entry, is_air, air_of, installed, one_if}
use Rattle.report_writer.specs.declared.kinds.EntryKind.{EntryKind}
use Rattle.report_writer.specs.declared.kinds.EntryKind.TheVariants as entry_kind
use Rattle.report_writer.specs.declared.kinds.AirKind.{AirKind}
use Rattle.report_writer.specs.declared.kinds.AirKind.TheVariants as air_kind
use Rattle.report_writer.specs.declared.tally.EntryCounts.{EntryCounts}
use Rattle.report_writer.specs.declared.tally.Versions.{Versions}
use Rattle.report_writer.specs.declared.tally.Installed.{Installed}
use Rattle.report_writer.specs.declared.tally.LogTally.{LogTally}
use Rattle.report_writer.specs.declared.tally.AirTally.{AirTally}

-- how many of a kind there are
abbrev pub entries_counted : EntryKind → EntryCounts → ℕ
entries_counted entry_kind.Post c = c.posts
entries_counted entry_kind.Drop c = c.drops
entries_counted entry_kind.Halt c = c.halts
entries_counted entry_kind.Fault c = c.faults
entries_counted entry_kind.Install c = c.installs

abbrev pub air_counted : AirKind → AirTally → ℕ
air_counted air_kind.Sent t = t.sent
air_counted air_kind.Got t = t.got
air_counted air_kind.Lost t = t.lost

-- the versions that entries install for a handler, in order
abbrev pub versions_counted : ℕ → List Stamped → List ℕ
versions_counted h es = filter_map (λ e. installed h e.entry) es

-- the greatest of these and the last one; 0 for none
abbrev pub versions_of : ℕ → List Stamped → Versions
versions_of h es = record {
  newest = fold max 0 (versions_counted h es);
  last = fold (λ before version. version) 0 (versions_counted h es);
}

abbrev pub versions_none : Versions
versions_none = record { newest = 0; last = 0 }

-- the versions of a handler
abbrev pub versions_at : ℕ → List Versions → Versions
versions_at h vs = slice_index_or vs h versions_none

-- what an entry installs
abbrev pub install_told : Entry → Option Installed
install_told (entry.Install h version image) = Some (record { handler = h; version = version })
install_told _ = None

-- the versions with one more
abbrev pub with_version : Versions → ℕ → Versions
with_version v version = record { newest = max v.newest version; last = version }

abbrev pub with_version_if : Option ℕ → Versions → Versions
with_version_if None v = v
with_version_if (Some version) v = with_version v version

-- no count is above n
abbrev pub CountsUpTo : ℕ → EntryCounts → Type 0
CountsUpTo n c = (k : EntryKind) → entries_counted k c ≤ n

pub record IsUpTo (n : ℕ) (t : LogTally) : Type 0 where
  pub entries : t.entries ≤ n
  pub counts : CountsUpTo n t.counts

pub record IsAirTallyUpTo (n : ℕ) (t : AirTally) : Type 0 where
  pub records : t.records ≤ n
  pub counts : (k : AirKind) → air_counted k t ≤ n

-- what was counted of these entries, on a machine with this number of handlers
pub record IsLogTally (handlers : ℕ) (t : LogTally) (es : List Stamped) : Type 0 where
  pub size : length t.versions.items ≡ handlers
  pub entries : t.entries ≡ length es
  pub counts : (k : EntryKind) → entries_counted k t.counts ≡ count_by (λ e. is_entry k e.entry) es
  pub versions : (h : ℕ) → h < handlers → versions_at h t.versions.items ≡ versions_of h es

-- what was counted of each log
abbrev pub AreLogTallies : ℕ → List LogTally → List Log → Type 0
AreLogTallies n [] [] = ⊤
AreLogTallies n [] (l ∷ ls) = ⊥
AreLogTallies n (t ∷ ts) [] = ⊥
AreLogTallies n (t ∷ ts) (l ∷ ls) = IsLogTally n t l.entries × AreLogTallies n ts ls

-- what was counted of these records
pub record IsAirTally (t : AirTally) (aired : List Aired) : Type 0 where
  pub records : t.records ≡ length aired
  pub counts : (k : AirKind) → air_counted k t ≡ air_of k aired

-- ---- on the way

-- a version more of a handler, if there is this handler
pub record InstallsVersion (old new : List Versions) (g version : ℕ) : Type 0 where
  pub size : length new ≡ length old
  pub versions : (h : ℕ) → h < length old → versions_at h new ≡ (if g == h then with_version (versions_at h old) version
      else versions_at h old)

-- what an entry installs is noted
pub record Notes (old new : List Versions) (e : Entry) : Type 0 where
  pub size : length new ≡ length old
  pub versions : (h : ℕ) → h < length old → versions_at h new ≡ with_version_if (installed h e) (versions_at h old)

-- an entry more
pub record AddsEntry (old new : LogTally) (e : Entry) : Type 0 where
  pub entries : new.entries ≡ old.entries + 1
  pub counts : (k : EntryKind) → entries_counted k new.counts ≡ entries_counted k old.counts + one_if (is_entry k e)
  pub notes : Notes old.versions.items new.versions.items e

-- a record of the air more
pub record AddsAir (old new : AirTally) (a : Air) : Type 0 where
  pub records : new.records ≡ old.records + 1
  pub counts : (k : AirKind) → air_counted k new ≡ air_counted k old + one_if (is_air k a)
