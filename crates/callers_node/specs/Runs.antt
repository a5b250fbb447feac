-- A step of a script's run, and the run's end.
use Rattle.std.specs.Prelude.{◌≡◌, ◌<◌, ◌+◌, ℕ, List, [], ◌∷◌, ◌++◌, map, length}
use Rattle.mate_num.specs.declared.store.Store.{Store}
use Rattle.mate_journal.specs.Journal.{JournalEntry, TimedEntry, Seen, NodeState, journal_of, first_state, state_after_all}
use Rattle.mate_journal.specs.Log.{Log}
use Rattle.mate_journal.specs.Machine.{Machine}
use Rattle.mate_journal.specs.NodeScript.{Step, Makes, made_at}
use Rattle.mate_journal.specs.Pace.{Pace}
use Rattle.mate_journal.specs.declared.report.Report.{Report}

-- behind these steps, of which the first is this event and has so many entries before it, the step is the next event: it begins with
-- fewer than 1,000,000 entries before it, and records what the step makes
pub record IsStepIn (m : Machine) (records n : ℕ) (first : NodeState) (before : List Step) (step : Step)
    (es : List TimedEntry) : Type 0 where
  pub front : List TimedEntry
  pub told : List JournalEntry
  pub rest : List TimedEntry
  pub are : es ≡ front ++ (map (made_at (n + length before)) told ++ rest)
  pub room : records + length front < 1000000
  pub state : NodeState
  pub state_is : state ≡ state_after_all m first front
  pub pace : Pace
  pub then : Pace
  pub makes : Makes m state pace step told then

-- so the step stands in the report of a run
pub record MakesThere (m : Machine) (before : List Step) (step : Step) (r : Report) : Type 0 where
  pub log : Log
  pub is_log : r.nodes ≡ log ∷ []
  pub stands : IsStepIn m 0 1 (first_state m) before step (journal_of log)

-- the log's last entry shows a store, under this number and at time 0
pub record IsSeenLast (event : ℕ) (l : Log) : Type 0 where
  pub before : List TimedEntry
  pub store : Store
  pub is : journal_of l ≡ before ++ made_at event (Seen store) ∷ []
