-- The text of a world's report, event by event.
use Rattle.std.specs.Prelude.{◌≡◌, ℕ, suc, ◌<◌, List, [], ◌∷◌, ◌++◌, ◌-◌, length, drop, slice_set, slice_index_or, flat_map, All, false}
use Rattle.mate_journal.specs.Log.{Log}
use Rattle.mate_journal.specs.Journal.{journal_of}
use Rattle.mate_journal.specs.Journal.{TimedEntry as Entered}
use Rattle.mate_journal.specs.Tidy.{NumbersInOrder, below}
use Rattle.mate_journal.specs.declared.air.Aired.{Aired}
use Rattle.mate_journal.specs.declared.report.Report.{Report}
use Rattle.report_writer.specs.Text.{lines, event_lines, event_piece}
use Rattle.vm_shape.specs.declared.description.Description.{Description}
use Rattle.world_rules.specs.World.{World}
use Rattle.world_rules.specs.Effect.{event_node}
use Rattle.world_rules.specs.State.{Moment}
use Rattle.world_rules.specs.Run.{airs, journal}

-- the report of these logs and of this air, so far
abbrev pub so_far : List Log → List Aired → Report
so_far logs air = record { nodes = logs; air = air; events = 0; whole = false }

-- each log records its node's journal of these events
abbrev pub TellJournals : World → List Moment → List Log → Type 0
TellJournals w ms logs = (k : ℕ) (l : Log) → k < length logs → journal_of (slice_index_or logs k l) ≡ journal w k ms

-- an event's lines more, after those of all events before it
pub record AddsLines (old new : Report) (event : ℕ) (aired : List Aired) (log : Log) (from node : ℕ) : Type 0 where
  pub lines_are : (d : Description) → lines d new ≡ lines d old ++ event_piece d aired log from node
  pub before : (d : Description) → lines d old ≡ flat_map (event_lines d new) (below event)

-- before any event the first intervals are on the air, and nothing is recorded
abbrev pub StartsWithIntervals : World → Type 0
StartsWithIntervals w = (d : Description) (logs : List Log) (first : Log) → All (λ (l : Log). l.entries ≡ []) logs → 0 < length logs
    → slice_index_or logs 0 first ≡ first
    → lines d (so_far logs (airs w [])) ≡ event_piece d (airs w []) first 0 0

-- an event's lines are what it records on the air, and what its node records
abbrev pub EventsAddTheirLines : World → Type 0
EventsAddTheirLines w = (ms : List Moment) (m : Moment) (logs : List Log) (k : ℕ) (old new : Log) → TellJournals w ms logs
    → k < length logs → slice_index_or logs k old ≡ old
    → event_node w m.cause ≡ k → NumbersInOrder old → NumbersInOrder new → journal_of new ≡ journal w k (m ∷ ms)
    → AddsLines (so_far logs (airs w ms)) (so_far (slice_set logs k new) (airs w (m ∷ ms))) (suc (length ms))
    (drop (length (airs w ms)) (airs w (m ∷ ms))) new (length old.entries) k

-- at a whole run's end each node records one thing more, under the next number: its store
pub record ShowTheirStores (w : World) (ms : List Moment) (olds news : List Log) : Type 0 where
  pub count : length news ≡ length olds
  pub old : TellJournals w ms olds
  pub shown : (k : ℕ) (l : Log) → k < length olds → (e : Entered) × (journal_of (slice_index_or news k l) ≡ journal w k ms ++ e ∷ [])
      × (e.stamp.event ≡ suc (length ms))
  pub old_numbered : All NumbersInOrder olds
  pub new_numbered : All NumbersInOrder news

-- the lines of the last entry of each of these logs, of the nodes from `node` on
abbrev pub store_lines : Description → ℕ → List Log → List ℕ
store_lines d node [] = []
store_lines d node (l ∷ ls) = event_piece d [] l (length l.entries - 1) node ++ store_lines d (suc node) ls

-- these are then the last lines, after those of all events
abbrev pub StoresAddTheirLines : World → Type 0
StoresAddTheirLines w = (ms : List Moment) (olds news : List Log) → ShowTheirStores w ms olds news → (d : Description)
    → (lines d (so_far news (airs w ms)) ≡ lines d (so_far olds (airs w ms)) ++ store_lines d 0 news)
    × (lines d (so_far olds (airs w ms)) ≡ flat_map (event_lines d (so_far news (airs w ms))) (below (suc (length ms))))

-- ---- all lines are those of the events up to the last one

abbrev pub AllLinesStand : World → Type 0
AllLinesStand w = (ms : List Moment) (logs : List Log) → TellJournals w ms logs → (d : Description)
    → lines d (so_far logs (airs w ms)) ≡ flat_map (event_lines d (so_far logs (airs w ms))) (below (length ms))
    ++ event_lines d (so_far logs (airs w ms)) (length ms)
