-- Which invocations wait for the answers to their calls, and how long they do.
use Rattle.std.specs.Prelude.{◌≡◌, ℕ, ◌*◌, ◌<◌, ◌≤◌, ◌==◌, Bool, false, List, [], ◌∷◌, length, Option, Some, None}
use Rattle.mate_num.specs.Lists.{Along, Each}
use Rattle.mate_num.specs.declared.bounds.TheConstants.{CONTEXTS_MAX}
use Rattle.mate_num.specs.declared.id.ContextId.{ContextId}
use Rattle.mate_num.specs.declared.id.FunId.{FunId}
use Rattle.mate_num.specs.declared.id.HandlerId.{HandlerId}
use Rattle.mate_journal.specs.Machine.{Machine, IsContextOf}
use Rattle.mate_journal.specs.Journal.{JournalEntry, Asked, Answered, TimedEntry, NodeState, first_state, next_state, state_after_entries, state_after_all, begins_era}
use Rattle.mate_journal.specs.Pace.{Pace}
use Rattle.mate_journal.specs.Turns.{Settles}
use Rattle.mate_journal.specs.WellFormed.{IsWaiting, MayFollow, IsWellFormed}

-- of two invocations that wait, each has a context of its own
abbrev pub WaitApart : NodeState → Type 0
WaitApart r = (a b : ℕ) → IsWaiting r a → IsWaiting r b → (r.invocations a).context ≡ (r.invocations b).context → a ≡ b

-- the invocation waits in a context of a machine
pub record WaitsWithin (r : NodeState) (n : ℕ) : Type 0 where
  pub waits : IsWaiting r n
  pub small : (r.invocations n).context.0 < CONTEXTS_MAX

-- whatever waits does so in a context of a machine
abbrev pub WaitSmall : NodeState → Type 0
WaitSmall r = (n : ℕ) → IsWaiting r n → (r.invocations n).context.0 < CONTEXTS_MAX

-- the call that an entry records, by its invocation and its function
abbrev pub asked_of : JournalEntry → Option (ℕ × FunId)
asked_of (Asked n f args) = Some (n, f)
asked_of _ = None

-- what the entries call waits for its answers
abbrev pub IsAwaitedBy : NodeState → Option (ℕ × FunId) → Type 0
IsAwaitedBy r None = Unit {0}
IsAwaitedBy r (Some a) = WaitsWithin r a.0

abbrev pub AreAwaited : NodeState → List JournalEntry → Type 0
AreAwaited r = Each (λ t. IsAwaitedBy r (asked_of t))

-- each of the entries may follow the state before it
abbrev pub AreFollowing : Machine → NodeState → List JournalEntry → Type 0
AreFollowing m = Along (MayFollow m) (next_state m)

-- the entry ends the invocation's wait: it answers it, or begins an era
abbrev pub ends_wait : ℕ → JournalEntry → Bool
ends_wait n (Answered k value) = k == n
ends_wait n t = begins_era t

abbrev pub NoneEndsWait : ℕ → List JournalEntry → Type 0
NoneEndsWait n = Each (λ t. ends_wait n t ≡ false)

-- the contexts of the machine are no more than a machine may have
abbrev pub HasFewContexts : Machine → Type 0
HasFewContexts m = (h : HandlerId) (c : ContextId) → IsContextOf m h c → c.0 < CONTEXTS_MAX

-- ---- the laws

-- in a well-formed journal those that wait do so apart
abbrev pub JournalsWaitApart : Machine → Type 0
JournalsWaitApart m = (es : List TimedEntry) → IsWellFormed m (first_state m) es → WaitApart (state_after_all m (first_state m) es)

-- and in contexts of the machine, if it has few
abbrev pub JournalsWaitSmall : Machine → Type 0
JournalsWaitSmall m = HasFewContexts m → (es : List TimedEntry) → IsWellFormed m (first_state m) es
    → WaitSmall (state_after_all m (first_state m) es)

-- after a well-formed journal an invocation that waits stays as it is until an entry ends its wait
abbrev pub WaitingGoesOn : Machine → Type 0
WaitingGoesOn m = (es : List TimedEntry) (told : List JournalEntry) (n : ℕ) → IsWellFormed m (first_state m) es →
    let r = state_after_all m (first_state m) es in
    AreFollowing m r told → IsWaiting r n → NoneEndsWait n told → (state_after_entries m r told).invocations n ≡ r.invocations n

-- an invocation that waits goes on waiting, in its context, while turns settle
abbrev pub SettlingLeavesWaiting : Machine → Type 0
SettlingLeavesWaiting m = (r : NodeState) (p : Pace) (told : List JournalEntry) (q : Pace) (n : ℕ) → Settles m r p told q
    → AreFollowing m r told → IsWaiting r n
    → IsWaiting (state_after_entries m r told) n × (((state_after_entries m r told).invocations n).context ≡ (r.invocations n).context)

-- what calls while turns settle waits at their end
abbrev pub SettlingAwaits : Machine → Type 0
SettlingAwaits m = (r : NodeState) (p : Pace) (told : List JournalEntry) (q : Pace) → Settles m r p told q → AreFollowing m r told
    → WaitSmall (state_after_entries m r told) → AreAwaited (state_after_entries m r told) told

-- after a well-formed journal, of a machine with few contexts, turns make at most two entries for each context while they settle
abbrev pub SettlingTellsFew : Machine → Type 0
SettlingTellsFew m = HasFewContexts m → (es : List TimedEntry) → IsWellFormed m (first_state m) es →
    let r = state_after_all m (first_state m) es in
    (p : Pace) (told : List JournalEntry) (q : Pace) → Settles m r p told q → AreFollowing m r told → length told ≤ 2 * CONTEXTS_MAX
