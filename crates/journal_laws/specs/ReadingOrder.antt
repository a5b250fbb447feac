-- Calls to a device in the order in which invocations are read.
use Rattle.std.specs.Prelude.{◌≡◌, ◌≢◌, ◌<◌, ℕ, List, ◌++◌}
use Rattle.mate_num.specs.declared.id.DeviceId.{DeviceId}
use Rattle.mate_journal.specs.Journal.{TimedEntry}
use Rattle.mate_journal.specs.Positions.{EndsAt, AreOfOneEra}
use Rattle.mate_journal.specs.Devices.{DeviceOf, AsksAt}

-- The invocations of an era are read in the order of their ends, and after them those that never end in it:
-- j is read before k if j ends, and k doesn't end before that.
pub record IsReadBefore (era : List TimedEntry) (j k : ℕ) : Type 0 where
  pub place : ℕ
  pub ends : EndsAt era j place
  pub later : (p : ℕ) → EndsAt era k p → place < p

-- the invocation never ends in the era
abbrev pub NeverEnds : List TimedEntry → ℕ → Type 0
NeverEnds era n = (p : ℕ) → EndsAt era n p → ⊥

-- In this reading the calls to the device have rising positions: each of an invocation that is read before another
-- is before each of the other. Of those that never end, one at most calls the device. (The calls of one
-- invocation are read in the order in which they are recorded.)
pub record AsksInOrder (device_of : DeviceOf) (d : DeviceId) (era : List TimedEntry) : Type 0 where
  pub rising : (j k p q : ℕ) → j ≢ k → IsReadBefore era j k → AsksAt device_of d era j p → AsksAt device_of d era k q → p < q
  pub one_open : (j k p q : ℕ) → NeverEnds era j → NeverEnds era k → AsksAt device_of d era j p → AsksAt device_of d era k q → j ≡ k

-- in each era of a journal, and in each part of one, the calls to each device are in the order of that reading
abbrev pub ReadsDevicesInOrder : DeviceOf → List TimedEntry → Type 0
ReadsDevicesInOrder device_of es =
    (front era back : List TimedEntry) (d : DeviceId) → es ≡ front ++ (era ++ back) → AreOfOneEra era → AsksInOrder device_of d era
