-- Tidy logs: what a text takes for granted of a node's log.
use Rattle.std.specs.Prelude.{◌≡◌, ◌≤◌, ◌<◌, ℕ, zero, suc, List, [], ◌∷◌, ◌++◌, length, All, Option, Some, None, flat_map, option_to_list}
use Rattle.arrayvec.specs.ArrayVec.{ArrayVec}
use Rattle.mate_num.specs.Lists.{Along}
use Rattle.mate_num.specs.declared.store.Store.{Store}
use Rattle.vm_shape.specs.declared.description.Description.{Description}
use Rattle.mate_journal.specs.Entries.{IsEntryInRange}
use Rattle.mate_journal.specs.Log.{Log}
use Rattle.mate_journal.specs.declared.entry.Entry.{Entry}
use Rattle.mate_journal.specs.declared.entry.Entry.TheVariants as entry
use Rattle.mate_journal.specs.declared.entry.Stamped.{Stamped}

-- the image that an entry names, if any
abbrev pub image_named : Entry → Option ℕ
image_named (entry.Install h version image) = Some image
image_named _ = None

-- the store that an entry names, if any
abbrev pub store_named : Entry → Option ℕ
store_named (entry.Seen store) = Some store
store_named _ = None

-- what the entries name, in order
abbrev pub names_in : (Entry → Option ℕ) → List Stamped → List ℕ
names_in named es = flat_map (λ e. option_to_list (named e.entry)) es

-- the numbers below n, in order
abbrev pub below : ℕ → List ℕ
below zero = []
below (suc n) = below n ++ n ∷ []

-- each variable and each buffer of the description
pub record IsStoreOf (d : Description) (s : Store) : Type 0 where
  pub shared : length s.shared.items ≡ length d.shared.items
  pub buffers : length s.buffers.items ≡ length d.buffers.items

-- event numbers don't fall along a list, and none is below `low`; `event` gives an item's
abbrev pub EventsRise : {A : Type 0} → (A → ℕ) → ℕ → List A → Type 0
EventsRise event = Along (λ low x. low ≤ event x) (λ low x. event x)

-- the event of an entry
abbrev pub entry_event : Stamped → ℕ
entry_event e = e.stamp.event

-- the k-th install has image k and the k-th store seen is store k, counted from 0, and there is no further image or store
pub record NumbersInOrder (l : Log) : Type 0 where
  pub images : names_in image_named l.entries ≡ below (length l.images)
  pub stores : names_in store_named l.entries ≡ below (length l.stores)

-- One node's log: ids are in range, images and stores are numbered in order, stores have the description's lengths, and
-- event numbers don't fall.
pub record IsTidyLog (d : Description) (l : Log) : Type 0 where
  pub in_range : All (λ (e : Stamped). IsEntryInRange d e.entry) l.entries
  pub numbered : NumbersInOrder l
  pub lengths : All (IsStoreOf d) l.stores
  pub ordered : EventsRise entry_event 0 l.entries

-- no image of the log is empty
pub record HasFullImages (l : Log) : Type 0 where
  pub full : All (λ (image : ArrayVec ℕ). 0 < length image.items) l.images
