-- What a call of a node records, and what an invocation does next.
use Rattle.std.specs.Prelude.{◌≡◌, ◌⊎◌, ℕ, ◌+◌, ◌<◌, ℤ, List, [], ◌∷◌, ◌++◌, All}
use Rattle.mate_num.specs.declared.id.ContextId.{ContextId}
use Rattle.mate_num.specs.declared.id.HandlerId.{HandlerId}
use Rattle.mate_num.specs.declared.store.Store.{Store}
use Rattle.mate_journal.specs.Grants.{IsStart}
use Rattle.mate_journal.specs.Journal.{JournalEntry, Posted, Dropped, Answered, Installed, Seen, NodeState, answers_of}
use Rattle.mate_journal.specs.Machine.{Machine, HeldProgram}
use Rattle.mate_journal.specs.Pace.{Pace}
use Rattle.mate_journal.specs.Turns.{entry_at, mark_of}

-- the entry of the next mark of an invocation that gets this value as the answer to its call
abbrev pub entry_by_answer : Machine → NodeState → ℕ → ℤ → JournalEntry
entry_by_answer m r n value =
    let i = r.invocations n in
    entry_at n (m.meaning.run i.program r.serial i.payload (answers_of i ++ value ∷ []) m.turns).end

-- the answer is recorded of the invocation that waits in the context, and then nothing, or its next mark as the answer gives it
pub record GoesByAnswer (m : Machine) (r : NodeState) (c : ContextId) (value : ℤ) (told : List JournalEntry) : Type 0 where
  pub invocation : ℕ
  pub context : (r.invocations invocation).context ≡ c
  pub next : List JournalEntry
  pub is : told ≡ Answered invocation value ∷ next
  pub by : (next ≡ []) ⊎ ((starts : List JournalEntry) × All IsStart starts × (next ≡ entry_by_answer m r invocation value ∷ starts))

-- the store is shown, the program is installed, and the rest meets the rule
pub record InstallsThis (x : HeldProgram) (Rest : List JournalEntry → Type 0) (told : List JournalEntry) : Type 0 where
  pub store : Store
  pub rest : List JournalEntry
  pub is : told ≡ Seen store ∷ Installed x ∷ rest
  pub then : Rest rest

-- an event for the handler: it becomes an invocation, or is dropped
abbrev pub IsEventFor : HandlerId → JournalEntry → Type 0
IsEventFor h (Posted n handler context payload) = handler ≡ h
IsEventFor h (Dropped handler cause) = handler ≡ h
IsEventFor h _ = ⊥

-- the first entry is an event for the handler
pub record BeginsWithEvent (h : HandlerId) (told : List JournalEntry) : Type 0 where
  pub first : JournalEntry
  pub more : List JournalEntry
  pub is : told ≡ first ∷ more
  pub event : IsEventFor h first

-- the invocation in the context executes n instructions, if its next mark is farther, and nothing is recorded
pub record ExecutesAll (m : Machine) (r : NodeState) (c : ContextId) (n ran : ℕ) (p : Pace) (told : List JournalEntry)
    (q : Pace) : Type 0 where
  pub invocation : ℕ
  pub context : (r.invocations invocation).context ≡ c
  pub all : p.counts invocation + n < mark_of m r invocation
      → (ran ≡ n) × (told ≡ []) × (q.counts invocation ≡ p.counts invocation + n)

-- the entry is the first
pub record TellsFirst (first : JournalEntry) (told : List JournalEntry) : Type 0 where
  pub more : List JournalEntry
  pub is : told ≡ first ∷ more
