-- What a contract sees of a node's log: its three lists, and the room that is left in each without memory.
use Rattle.std.specs.Prelude.{◌≡◌, ℕ, List, [], ◌++◌}
use Rattle.arrayvec.specs.ArrayVec.{ArrayVec}
use Rattle.mate_num.specs.declared.store.Store.{Store}
use Rattle.mate_journal.specs.declared.entry.Stamped.{Stamped}

pub record Log : Type 0 where
  pub entries : List Stamped
  pub images : List (ArrayVec ℕ)
  pub stores : List Store
  pub spare : ℕ

-- the three lists are the same
pub record IsSameLog (a b : Log) : Type 0 where
  pub entries : a.entries ≡ b.entries
  pub images : a.images ≡ b.images
  pub stores : a.stores ≡ b.stores

-- nothing happened yet
pub record IsEmpty (l : Log) : Type 0 where
  pub entries : l.entries ≡ []
  pub images : l.images ≡ []
  pub stores : l.stores ≡ []

-- a log goes on: more entries, images and stores are after those that it had
pub record GoesOn (old new : Log) : Type 0 where
  pub entries : List Stamped
  pub images : List (ArrayVec ℕ)
  pub stores : List Store
  pub entries_are : new.entries ≡ old.entries ++ entries
  pub images_are : new.images ≡ old.images ++ images
  pub stores_are : new.stores ≡ old.stores ++ stores
