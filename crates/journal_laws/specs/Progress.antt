-- Progress: between two entries, where no start follows, the invocations of a node are never all held back.
use Rattle.std.specs.Prelude.{◌≡◌, ℕ, IsTrue, List, ◌⊎◌}
use Rattle.mate_journal.specs.Machine.{Machine}
use Rattle.mate_journal.specs.Journal.{TimedEntry, Ready, is_live, NodeState, state_after_all, AtEachEntry}
use Rattle.mate_journal.specs.WellFormed.{IsWaiting}
use Rattle.mate_journal.specs.Grants.{IsStart}

-- some invocation is ready
pub record IsSomeReady (r : NodeState) : Type 0 where
  pub invocation : ℕ
  pub ready : (r.invocations invocation).phase ≡ Ready

-- some invocation waits for the outside
pub record IsSomeWaiting (r : NodeState) : Type 0 where
  pub invocation : ℕ
  pub waits : IsWaiting r invocation

-- none is live
abbrev pub IsNoneLive : NodeState → Type 0
IsNoneLive r = (n : ℕ) → IsTrue (is_live (r.invocations n).phase) → ⊥

-- some invocation is ready, or one waits for the outside, or none is live
abbrev pub GoesForward : NodeState → Type 0
GoesForward r = IsSomeReady r ⊎ IsSomeWaiting r ⊎ IsNoneLive r

-- so it is before each entry that is no start, and at the end
pub record IsNeverStuck (m : Machine) (r : NodeState) (es : List TimedEntry) : Type 0 where
  pub between : AtEachEntry (λ s told. (IsStart told → ⊥) → GoesForward s) m r es
  pub last : GoesForward (state_after_all m r es)
