-- The rules of a journal along its entries, without their stamps.
use Rattle.std.proofs.Common.{ℕ, List, [], ◌∷◌, ◌++◌}
use Rattle.std.specs.Prelude.{⊤}
use Rattle.std.specs.List.{fold}
use Rattle.mate_journal.specs.Machine.{Machine}
use Rattle.mate_journal.specs.Journal.{JournalEntry, Started, TimedEntry, NodeState, next_state, state_after_entries, untimed, AtEachEntry}
use Rattle.mate_journal.specs.WellFormed.{MayFollow}
use Rattle.mate_journal.specs.Stores.{ShowsStore}
use Rattle.mate_journal.specs.Grants.{AllHeldBack, IsGranted, IsStart, started_number, GrantsInOrder}

-- each entry follows, shows the store, and is granted; `last` is the number of the start before the first one, 0 for none
abbrev pub KeepsRules : Machine → NodeState → ℕ → List JournalEntry → Type 0
KeepsRules m r last [] = AllHeldBack m r
KeepsRules m r last (t ∷ ts) = MayFollow m r t × ShowsStore m r t × IsGranted m r last t × KeepsRules m (next_state m r t) (started_number t) ts

pub keeps-events : (m : Machine) (r : NodeState) (last : ℕ) (es : List TimedEntry) → AtEachEntry (MayFollow m) m r es → AtEachEntry (ShowsStore m) m r es → GrantsInOrder m r last es
    → KeepsRules m r last (untimed es)
keeps-events m r last [] follow shown granted = granted
keeps-events m r last (e ∷ es) follow shown granted = (follow.0, shown.0, granted.0, keeps-events m (next_state m r e.told) (started_number e.told) es follow.1 shown.1 granted.1)

-- the number of the start that was told last
abbrev pub start_after : ℕ → List JournalEntry → ℕ
start_after = fold (λ last t. started_number t)

pub keeps-back : (m : Machine) (r : NodeState) (last : ℕ) (xs ys : List JournalEntry) → KeepsRules m r last (xs ++ ys) → KeepsRules m (state_after_entries m r xs) (start_after last xs) ys
keeps-back m r last [] ys keeps = keeps
keeps-back m r last (x ∷ xs) ys keeps = keeps-back m (next_state m r x) (started_number x) xs ys keeps.3

-- what is told begins with no start
abbrev pub BeginsOtherwise : List JournalEntry → Type 0
BeginsOtherwise [] = ⊤
BeginsOtherwise (t ∷ ts) = IsStart t → ⊥

-- before it each queued invocation is held back
pub held-here : (m : Machine) (r : NodeState) (last : ℕ) (ts : List JournalEntry) → KeepsRules m r last ts → BeginsOtherwise ts → AllHeldBack m r
held-here m r last [] keeps other = keeps
held-here m r last (Started n ∷ ts) keeps other = absurd (other tt)
held-here m r last (_ ∷ ts) keeps other = keeps.2
