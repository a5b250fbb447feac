-- What follows from the grant rule: conflicting invocations don't run side by side, and end in the order of their posts.
use Rattle.std.specs.Prelude.{◌≡◌, ◌≢◌, ◌<◌, ℕ, IsTrue, List}
use Rattle.mate_journal.specs.Machine.{Machine}
use Rattle.mate_journal.specs.Journal.{TimedEntry, Unposted, is_started, NodeState, state_after_all}
use Rattle.mate_journal.specs.Grants.{IsAhead, AreConflicting}
use Rattle.mate_journal.specs.Positions.{EndsAt}

-- two started live invocations don't conflict
abbrev pub AreApart : Machine → NodeState → Type 0
AreApart m r = (j k : ℕ) → j ≢ k → IsTrue (is_started (r.invocations j).phase) → IsTrue (is_started (r.invocations k).phase)
    → AreConflicting m r j k → ⊥

-- no more were posted than their number says, and nothing that is ahead of a started live invocation conflicts with it
pub record IsOrderly (m : Machine) (r : NodeState) : Type 0 where
  pub numbered : (n : ℕ) → r.posts < n → (r.invocations n).phase ≡ Unposted
  pub unhindered : (n k : ℕ) → n ≢ k → IsTrue (is_started (r.invocations n).phase) → IsAhead r n k → AreConflicting m r n k → ⊥

-- of two conflicting invocations, the one that ends first was posted first
-- (what an invocation's program is stays recorded after its end, so the conflict is read at the journal's end)
abbrev pub EndAsPosted : Machine → NodeState → List TimedEntry → Type 0
EndAsPosted m r es = (j k p q : ℕ) → EndsAt es j p → EndsAt es k q → p < q → AreConflicting m (state_after_all m r es) j k → j < k
