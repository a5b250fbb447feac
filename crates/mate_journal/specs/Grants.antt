-- The grant rule: an invocation waits to start only for conflicting ones, which are started or were posted earlier.
use Rattle.std.specs.Prelude.{◌≡◌, ◌<◌, ℕ, IsTrue, List, [], ◌∷◌, ◌⊎◌, ⊤, MatchOption, IsSomeAnd, unwrap_or}
use Rattle.mate_num.specs.Uses.{Conflicts}
use Rattle.mate_journal.specs.Machine.{Machine}
use Rattle.mate_journal.specs.Journal.{JournalEntry, started_by, TimedEntry, Queued, is_started, NodeState, next_state}

-- k comes before the queued invocation n: it is started and live, or it was posted earlier and is queued
abbrev pub IsAhead : NodeState → ℕ → ℕ → Type 0
IsAhead r n k = IsTrue (is_started (r.invocations k).phase) ⊎ ((k < n) × ((r.invocations k).phase ≡ Queued))

-- the programs of two invocations conflict: one writes a resource that the other uses
abbrev pub AreConflicting : Machine → NodeState → ℕ → ℕ → Type 0
AreConflicting m r n k = Conflicts (m.meaning.uses (r.invocations n).program) (m.meaning.uses (r.invocations k).program)

-- some invocation ahead of n conflicts with it
pub record IsHeldBack (m : Machine) (r : NodeState) (n : ℕ) : Type 0 where
  pub by : ℕ
  pub ahead : IsAhead r n by
  pub conflict : AreConflicting m r n by

-- each queued invocation is held back
abbrev pub AllHeldBack : Machine → NodeState → Type 0
AllHeldBack m r = (n : ℕ) → (r.invocations n).phase ≡ Queued → IsHeldBack m r n

-- nothing ahead of n conflicts with it
abbrev pub MayStart : Machine → NodeState → ℕ → Type 0
MayStart m r n = (k : ℕ) → IsAhead r n k → AreConflicting m r n k → ⊥

-- before an entry: a start is of an invocation that nothing holds back, with a greater number than a start directly
-- before it (`last`, 0 for none); before any other entry all queued invocations are held back
abbrev pub IsGranted : Machine → NodeState → ℕ → JournalEntry → Type 0
IsGranted m r last told = MatchOption (started_by told) (AllHeldBack m r) (λ n. MayStart m r n × (last < n))

-- an entry that starts an invocation
abbrev pub IsStart : JournalEntry → Type 0
IsStart told = IsSomeAnd (started_by told) (λ n. ⊤)

-- the number of the invocation that an entry starts, 0 for none
abbrev pub started_number : JournalEntry → ℕ
started_number told = unwrap_or (started_by told) 0

-- the rule along a journal; `last` is the number of the invocation that the entry before it started, 0 for none
abbrev pub GrantsInOrder : Machine → NodeState → ℕ → List TimedEntry → Type 0
GrantsInOrder m r last [] = AllHeldBack m r
GrantsInOrder m r last (e ∷ es) = IsGranted m r last e.told × GrantsInOrder m (next_state m r e.told) (started_number e.told) es
