-- How far a report was written: a position in each of its lists.
use Rattle.std.specs.Prelude.{◌≤◌, ◌<◌, ◌==◌, ℕ, List, length, take, drop, filter, slice_index_or, All, Option, None, Some, min}
use Rattle.mate_journal.specs.Log.{Log}
use Rattle.mate_journal.specs.Tidy.{EventsRise, entry_event}
use Rattle.mate_journal.specs.declared.air.Aired.{Aired}
use Rattle.mate_journal.specs.declared.report.Report.{Report}

-- the event of what happened on the air
abbrev pub air_event : Aired → ℕ
air_event a = a.stamp.event

-- the items of one event
abbrev pub at_event : {A : Type 0} → (A → ℕ) → ℕ → List A → List A
at_event ev event xs = filter (λ x. ev x == event) xs

-- event numbers fall along no list of a report
pub record IsOrdered (r : Report) : Type 0 where
  pub air : EventsRise air_event 0 r.air
  pub logs : All (λ (l : Log). EventsRise entry_event 0 l.entries) r.nodes

-- no item from position n on is of an event before `event`
abbrev pub IsLeftFrom : {A : Type 0} → (A → ℕ) → ℕ → List A → ℕ → Type 0
IsLeftFrom ev event xs n = All (λ x. event ≤ ev x) (drop n xs)

-- position n divides a list: exactly the items before it are of events before `event`
pub record IsCut {A : Type 0} (ev : A → ℕ) (event : ℕ) (xs : List A) (n : ℕ) : Type 0 where
  pub within : n ≤ length xs
  pub before : All (λ x. ev x < event) (take n xs)
  pub after : IsLeftFrom ev event xs n

-- the same of each log with its position
abbrev pub AreCuts : ℕ → List Log → List ℕ → Type 0
AreCuts event logs cursors =
    (k : ℕ) (d : Log) → k < length logs → IsCut entry_event event (slice_index_or logs k d).entries (slice_index_or cursors k 0)

-- no record that is left is of an event before `event`
pub record AreLeftFrom (r : Report) (air : ℕ) (cursors : List ℕ) (event : ℕ) : Type 0 where
  pub on_air : IsLeftFrom air_event event r.air air
  pub in_logs : (k : ℕ) (d : Log) → k < length r.nodes
      → IsLeftFrom entry_event event (slice_index_or r.nodes k d).entries (slice_index_or cursors k 0)

-- the greatest number that is a bound; None if each number is one
abbrev pub IsGreatest : Option ℕ → (ℕ → Type 0) → Type 0
IsGreatest None IsBound = (n : ℕ) → IsBound n
IsGreatest (Some m) IsBound = IsBound m × ((n : ℕ) → IsBound n → n ≤ m)

-- the lesser of two numbers, if there are two
abbrev pub lesser : Option ℕ → Option ℕ → Option ℕ
lesser None b = b
lesser (Some m) None = Some m
lesser (Some m) (Some n) = Some (min m n)
