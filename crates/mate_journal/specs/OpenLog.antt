-- A log whose front may be forgotten: the whole of it, how much is gone, and the part that is kept.
use Rattle.std.specs.Prelude.{◌≡◌, ◌≤◌, ◌<◌, ◌+◌, ℕ, [], ◌++◌, length, map, drop, ⊤}
use Rattle.mate_journal.specs.Log.{Log, IsEmpty}
use Rattle.mate_journal.specs.declared.entry.Entry.{Entry}
use Rattle.mate_journal.specs.declared.entry.Entry.TheVariants as entry
use Rattle.mate_journal.specs.declared.entry.Stamped.{Stamped}

-- how many entries, images and stores are gone, from the front
pub record Gone : Type 0 where
  pub entries : ℕ
  pub images : ℕ
  pub stores : ℕ

abbrev pub nothing_gone : Gone
nothing_gone = record { entries = 0; images = 0; stores = 0 }

-- the whole log, with the room that is left, and how much of it is gone
pub record OpenView : Type 0 where
  pub all : Log
  pub gone : Gone

-- the entry names neither an image nor a store
abbrev pub NamesNothing : Entry → Type 0
NamesNothing (entry.Install h version image) = ⊥
NamesNothing (entry.Seen store) = ⊥
NamesNothing _ = ⊤

-- the entry, if these numbers of images and stores are before its own
abbrev pub entry_behind : ℕ → ℕ → Entry → Entry
entry_behind images stores (entry.Install h version image) = entry.Install h version (images + image)
entry_behind images stores (entry.Seen store) = entry.Seen (stores + store)
entry_behind images stores e = e

-- after these numbers of images and stores, what the entry names has a number of 32 bits
abbrev pub NumberFits : ℕ → ℕ → Entry → Type 0
NumberFits images stores (entry.Install h version image) = images + image < 4294967296
NumberFits images stores (entry.Seen store) = stores + store < 4294967296
NumberFits images stores _ = ⊤

abbrev pub stamped_behind : ℕ → ℕ → Stamped → Stamped
stamped_behind images stores s = record { stamp = s.stamp; entry = entry_behind images stores s.entry }

-- what is kept beside entries is kept with one that names it: without entries, nothing is
pub record IsKeptWithEntries (kept : Log) : Type 0 where
  pub empty : kept.entries ≡ [] → IsEmpty kept

-- the log of nothing
abbrev pub nothing : Log
nothing = record { entries = []; images = []; stores = []; spare = 0 }

-- one log after another, with the room of the second
abbrev pub joined : Log → Log → Log
joined past kept = record {
  entries = past.entries ++ map (stamped_behind (length past.images) (length past.stores)) kept.entries;
  images = past.images ++ kept.images;
  stores = past.stores ++ kept.stores;
  spare = kept.spare;
}

-- how much a log has
abbrev pub gone_of : Log → Gone
gone_of l = record { entries = length l.entries; images = length l.images; stores = length l.stores }

-- the log is the part that isn't gone, its images and stores numbered anew
pub record IsKept (v : OpenView) (kept : Log) : Type 0 where
  pub within : v.gone.entries ≤ length v.all.entries
  pub entries : drop v.gone.entries v.all.entries ≡ map (stamped_behind v.gone.images v.gone.stores) kept.entries
  pub images : drop v.gone.images v.all.images ≡ kept.images
  pub stores : drop v.gone.stores v.all.stores ≡ kept.stores
