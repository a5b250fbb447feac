-- A journal as it grows: its last entry, and the rules of its entries apart from what holds at its end.
use Rattle.std.specs.Prelude.{◌≡◌, ◌<◌, ℕ, Bool, List, [], ◌∷◌, ◌++◌, length}
use Rattle.std.specs.List.{fold}
use Rattle.arrayvec.specs.ArrayVec.{ArrayVec}
use Rattle.mate_num.specs.Lists.{Each}
use Rattle.mate_num.specs.declared.call.Stamp.{Stamp}
use Rattle.mate_num.specs.declared.store.Store.{Store}
use Rattle.mate_journal.specs.Log.{Log}
use Rattle.mate_journal.specs.Machine.{Machine}
use Rattle.mate_journal.specs.Journal.{TimedEntry, journal_entry, NodeState, next_state}
use Rattle.mate_journal.specs.Pace.{Pace}
use Rattle.mate_journal.specs.WellFormed.{NotBefore}
use Rattle.mate_journal.specs.Grants.{IsGranted, started_number}
use Rattle.mate_journal.specs.Stores.{is_seen}
use Rattle.mate_journal.specs.declared.entry.Entry.{Entry}
use Rattle.mate_journal.specs.declared.entry.Entry.TheVariants as entry
use Rattle.mate_journal.specs.declared.entry.Stamped.{Stamped}

-- ---- the log

-- what an entry of a log records, with its stamp
abbrev pub event_of : Log → Stamped → TimedEntry
event_of l s = record { stamp = s.stamp; told = journal_entry l s.entry }

-- the image or the store that an entry names is one of this number
abbrev pub IsNamedBelow : ℕ → ℕ → Entry → Type 0
IsNamedBelow images stores (entry.Install h version image) = image < images
IsNamedBelow images stores (entry.Seen store) = store < stores
IsNamedBelow images stores _ = Unit {0}

abbrev pub AreNamedBelow : ℕ → ℕ → List Stamped → Type 0
AreNamedBelow images stores = Each (λ s. IsNamedBelow images stores s.entry)

-- each image and store that an entry names is in the log
pub record NamesInLog (l : Log) : Type 0 where
  pub named : AreNamedBelow (length l.images) (length l.stores) l.entries

-- the log with one more entry
pub record IsPushed (l : Log) (s : Stamped) (after : Log) : Type 0 where
  pub entries : after.entries ≡ l.entries ++ s ∷ []
  pub images : after.images ≡ l.images
  pub stores : after.stores ≡ l.stores

-- the log with one more image
pub record AddsImage (l : Log) (image : ArrayVec ℕ) (after : Log) : Type 0 where
  pub entries : after.entries ≡ l.entries
  pub images : after.images ≡ l.images ++ image ∷ []
  pub stores : after.stores ≡ l.stores

-- the log with one more store
pub record AddsStore (l : Log) (store : Store) (after : Log) : Type 0 where
  pub entries : after.entries ≡ l.entries
  pub images : after.images ≡ l.images
  pub stores : after.stores ≡ l.stores ++ store ∷ []

-- ---- the last entry

-- the stamp of the last event, `before` if there is none
abbrev pub last_stamp : Stamp → List TimedEntry → Stamp
last_stamp = fold (λ last e. e.stamp)

-- the stamp may come after the journal's last event: any may, if it has none
abbrev pub FollowsLast : List TimedEntry → Stamp → Type 0
FollowsLast [] at = Unit {0}
FollowsLast (e ∷ es) at = NotBefore (last_stamp e.stamp es) at

-- the number of the invocation that the last event starts, 0 if it starts none, `before` if there is no event
abbrev pub last_start : ℕ → List TimedEntry → ℕ
last_start = fold (λ last e. started_number e.told)

-- the last event shows a store, `before` if there is no event
abbrev pub last_is_seen : Bool → List TimedEntry → Bool
last_is_seen = fold (λ just_seen e. is_seen e.told)

-- ---- the rules of the entries, without what holds at the end

-- the grant rule before each entry
abbrev pub GrantsBefore : Machine → NodeState → ℕ → List TimedEntry → Type 0
GrantsBefore m r last [] = Unit {0}
GrantsBefore m r last (e ∷ es) = IsGranted m r last e.told × GrantsBefore m (next_state m r e.told) (started_number e.told) es

-- ---- the run of a script so far

-- nothing follows, and the pace is this one
abbrev pub EndsWithPace : Pace → ℕ → ℕ → NodeState → Pace → List TimedEntry → Type 0
EndsWithPace q records n r p es = (es ≡ []) × (p ≡ q)
