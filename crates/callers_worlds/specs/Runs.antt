-- What a run's end shows.
use Rattle.std.specs.Prelude.{◌≡◌, ℕ, suc, ◌≤◌, ◌<◌, List, [], ◌∷◌, ◌++◌, length, slice_get, IsSomeAnd}
use Rattle.mate_num.specs.declared.store.Store.{Store}
use Rattle.mate_journal.specs.Log.{Log}
use Rattle.mate_journal.specs.Journal.{TimedEntry, Seen, journal_of}
use Rattle.mate_journal.specs.declared.report.Report.{Report}
use Rattle.world_rules.specs.Run.{HaveCome, journal}
use Rattle.world_rules.specs.State.{Moment, state}
use Rattle.world_rules.specs.World.{World}

-- `events` events came, with 1,000,000 records or more
pub record IsFullBehind (w : World) (events : ℕ) : Type 0 where
  pub moments : List Moment
  pub come : HaveCome w moments
  pub count : events ≡ length moments
  pub full : 1000000 ≤ (state w moments).records

-- `events` events came, the last one with fewer than 1,000,000 records before it
pub record CameWithRoom (w : World) (events : ℕ) : Type 0 where
  pub moments : List Moment
  pub come : HaveCome w moments
  pub count : events ≡ length moments
  pub room : (m : Moment) (before : List Moment) → moments ≡ m ∷ before → (state w before).records < 1000000

-- the log's last entry shows a store, under this number and at this time
pub record EndsSeen (event time : ℕ) (l : Log) : Type 0 where
  pub before : List TimedEntry
  pub store : Store
  pub is : journal_of l ≡ before ++ record { stamp = record { event = event; time = time }; told = Seen store } ∷ []

-- these events came, and each node's journal has those of the node, in order, and then its store, under the next number and at this
-- time
pub record HaveOwnEvents (w : World) (time : ℕ) (r : Report) : Type 0 where
  pub moments : List Moment
  pub come : HaveCome w moments
  pub count : r.events ≡ length moments
  pub own : (k : ℕ) → k < w.nodes → IsSomeAnd (slice_get r.nodes k) (λ l. (store : Store) × (journal_of l ≡ journal w k moments
      ++ record { stamp = record { event = suc (length moments); time = time }; told = Seen store } ∷ []))
