-- The rules' state of a node, and what its journal records.
use Rattle.std.specs.Prelude.{◌≡◌, ℕ, List}
use Rattle.mate_journal.specs.Journal.{first_state, state_after_all}
use Rattle.world_rules.specs.World.{World}
use Rattle.world_rules.specs.State.{Moment, state}
use Rattle.world_rules.specs.Run.{journal}

-- each node's state by the rules is the one that its journal leads to
abbrev pub ReadsJournals : World → Type 0
ReadsJournals w = (k : ℕ) (ms : List Moment) → ((state w ms).nodes k).reading
    ≡ state_after_all w.machine (first_state w.machine) (journal w k ms)
