-- Events and posts of a node script: which entries each step of the script makes, and the pace after it.
use Rattle.std.specs.Prelude.{◌≡◌, ◌≢◌, ◌≤◌, ◌<◌, ℕ, suc, ◌+◌, List, [], ◌∷◌, ◌++◌, ℤ, length, map, All, IsSome, IsNone, ◌⊎◌, MatchBool}
use Rattle.mate_num.specs.Store.{payload}
use Rattle.arrayvec.specs.ArrayVec.{ArrayVec}
use Rattle.mate_num.specs.declared.id.HandlerId.{HandlerId}
use Rattle.mate_num.specs.declared.id.ContextId.{ContextId}
use Rattle.mate_num.specs.declared.store.Store.{Store}
use Rattle.mate_journal.specs.declared.report.TheConstants.{RECORDS_MAX}
use Rattle.mate_journal.specs.declared.entry.DropCause.TheVariants as drop
use Rattle.mate_journal.specs.declared.entry.VoidCause.TheVariants as void
use Rattle.mate_journal.specs.Machine.{Machine, HeldProgram, IsContextOf}
use Rattle.mate_journal.specs.Journal.{JournalEntry, Posted, Dropped, Answered, Installed, Reset, Seen, Void, TimedEntry, Ready, NodeState, first_state, held, next_state, state_after_entries}
use Rattle.mate_journal.specs.WellFormed.{IsIdle, IsBusy, IsWaiting}
use Rattle.mate_journal.specs.Grants.{IsStart}
use Rattle.mate_journal.specs.Pace.{Pace, no_pace, paced_all}
use Rattle.mate_journal.specs.Turns.{ShowsReady, IsTurn, after_step, Settles}

-- a step of a node script
pub data Step : Type 0 where
  Install : (program : HeldProgram) → Step
  Post : (handler : HandlerId) (payload : ArrayVec ℤ) → Step
  StepIn : (context : ContextId) (instructions : ℕ) → Step
  Run : Step
  Answer : (context : ContextId) (value : ℤ) → Step
  Show ResetNode : Step

-- an event begins only if fewer records are before it
abbrev pub records_max : ℕ
records_max = RECORDS_MAX

-- c is the handler's lowest context that no live invocation has
pub record IsFirstIdle (m : Machine) (r : NodeState) (h : HandlerId) (c : ContextId) : Type 0 where
  pub context : IsContextOf m h c
  pub idle : IsIdle r c
  pub lowest : (k : ContextId) → IsContextOf m h k → k.0 < c.0 → IsBusy r k

-- an event for the handler that nothing is installed for
pub record DropsNoCode (r : NodeState) (h : HandlerId) (entries : List JournalEntry) : Type 0 where
  pub no_code : IsNone (r.installed h)
  pub made : entries ≡ Dropped h drop.NoCode ∷ []

-- an event for the handler while each of its contexts has a live invocation
pub record DropsAllBusy (m : Machine) (r : NodeState) (h : HandlerId) (entries : List JournalEntry) : Type 0 where
  pub code : IsSome (r.installed h)
  pub busy : (c : ContextId) → IsContextOf m h c → IsBusy r c
  pub made : entries ≡ Dropped h drop.AllBusy ∷ []

-- an event for the handler that becomes an invocation in its first idle context; starts may follow
pub record Posts (m : Machine) (r : NodeState) (h : HandlerId) (payload : ArrayVec ℤ) (entries : List JournalEntry) : Type 0 where
  pub context : ContextId
  pub starts : List JournalEntry
  pub code : IsSome (r.installed h)
  pub first_idle : IsFirstIdle m r h context
  pub are_starts : All IsStart starts
  pub made : entries ≡ Posted (suc r.posts) h context payload ∷ starts

-- what an occasion for a post makes: one Post or one Dropped
abbrev pub Occasion : Machine → NodeState → HandlerId → ArrayVec ℤ → List JournalEntry → Type 0
Occasion m r h payload entries = DropsNoCode r h entries ⊎ DropsAllBusy m r h entries ⊎ Posts m r h payload entries

-- a newer capsule is installed; a handler that runs once is then posted with an empty payload
pub record Installs (m : Machine) (r : NodeState) (p : Pace) (x : HeldProgram) (entries : List JournalEntry) : Type 0 where
  pub seen : Store
  pub rest : List JournalEntry
  pub shown : ShowsReady m r p seen
  pub newer : held r x.handler < x.version
  pub made : entries ≡ Seen seen ∷ Installed x ∷ rest
  -- a handler that runs once is posted then
  pub follows : MatchBool (m.runs_once x.handler) (Occasion m (next_state m r (Installed x)) x.handler (payload []) rest) (rest ≡ [])

-- an older one, or the same, is not
pub record IsNotNewer (r : NodeState) (x : HeldProgram) (entries : List JournalEntry) : Type 0 where
  pub older : x.version ≤ held r x.handler
  pub made : entries ≡ Void (void.NotNewer (held r x.handler)) ∷ []

-- a ready invocation is in the context
pub record IsReadyIn (r : NodeState) (c : ContextId) : Type 0 where
  pub invocation : ℕ
  pub ready : (r.invocations invocation).phase ≡ Ready
  pub context : (r.invocations invocation).context ≡ c

-- the ready invocation in the context has one turn of this number of instructions
pub record TurnsIn (m : Machine) (r : NodeState) (p : Pace) (c : ContextId) (instructions : ℕ)
    (entries : List JournalEntry) (q : Pace) : Type 0 where
  pub invocation : ℕ
  pub context : (r.invocations invocation).context ≡ c
  pub turn : IsTurn m r p instructions record { invocation = invocation; told = entries }
  pub then : q ≡ after_step m r p instructions record { invocation = invocation; told = entries }

pub record IsNotReady (r : NodeState) (c : ContextId) (entries : List JournalEntry) : Type 0 where
  pub none : IsReadyIn r c → ⊥
  pub made : entries ≡ Void void.NotReady ∷ []

-- the waiting invocation in the context is answered
pub record AnswersCall (r : NodeState) (c : ContextId) (value : ℤ) (entries : List JournalEntry) : Type 0 where
  pub invocation : ℕ
  pub waits : IsWaiting r invocation
  pub context : (r.invocations invocation).context ≡ c
  pub made : entries ≡ Answered invocation value ∷ []

pub record IsNotWaiting (r : NodeState) (c : ContextId) (entries : List JournalEntry) : Type 0 where
  pub none : (n : ℕ) → IsWaiting r n → (r.invocations n).context ≡ c → ⊥
  pub made : entries ≡ Void void.NotWaiting ∷ []

-- the store is seen, and nothing else
pub record ShowsOnce (m : Machine) (r : NodeState) (p : Pace) (entries : List JournalEntry) : Type 0 where
  pub seen : Store
  pub shown : ShowsReady m r p seen
  pub made : entries ≡ Seen seen ∷ []

pub record Resets (m : Machine) (r : NodeState) (p : Pace) (entries : List JournalEntry) : Type 0 where
  pub seen : Store
  pub shown : ShowsReady m r p seen
  pub made : entries ≡ Seen seen ∷ Reset ∷ []

-- the entries that a step makes, at the state and the pace before it, and the pace after it
abbrev pub Makes : Machine → NodeState → Pace → Step → List JournalEntry → Pace → Type 0
Makes m r p (Install x) told q = (Installs m r p x told ⊎ IsNotNewer r x told) × (q ≡ paced_all p told)
Makes m r p (Post h payload) told q = Occasion m r h payload told × (q ≡ paced_all p told)
Makes m r p (StepIn c n) told q = TurnsIn m r p c n told q ⊎ (IsNotReady r c told × (q ≡ paced_all p told))
Makes m r p Run told q = Settles m r p told q
Makes m r p (Answer c value) told q = (AnswersCall r c value told ⊎ IsNotWaiting r c told) × (q ≡ paced_all p told)
Makes m r p Show told q = ShowsOnce m r p told × (q ≡ paced_all p told)
Makes m r p ResetNode told q = Resets m r p told × (q ≡ paced_all p told)

-- an entry of this event, at time 0
abbrev pub made_at : ℕ → JournalEntry → TimedEntry
made_at n told = record { stamp = record { event = n; time = 0 }; told = told }

-- These steps made the first of these entries, one event each, and `Ends` holds of what follows: of how many entries are before
-- it, of the number of its event, of the state and the pace, and of its entries. `records` entries were before the first step,
-- which is event n. An event begins only if fewer than 1,000,000 entries are before it.
abbrev pub HaveMade : (ℕ → ℕ → NodeState → Pace → List TimedEntry → Type 0)
    → Machine → ℕ → ℕ → NodeState → Pace → List Step → List TimedEntry → Type 0
HaveMade Ends m records n r p [] es = Ends records n r p es
HaveMade Ends m records n r p (step ∷ steps) es =
    (records < records_max)
    × (told : List JournalEntry) × (rest : List TimedEntry) × (then : Pace)
    × (es ≡ map (made_at n) told ++ rest)
    × Makes m r p step told then × HaveMade Ends m (records + length told) (suc n) (state_after_entries m r told) then steps rest

-- how a run ends: it is whole, its log is full, or it was cut from outside after a step
pub data RunEnd : Type 0 where
  Whole Full Cut : RunEnd

-- the last entries, if these steps are left before event n: a whole run has none left, and ends with the store seen
-- under the next number; a full one stops before a step, if 1,000,000 entries or more are before it
abbrev pub EndsRun : Machine → RunEnd → List Step → ℕ → ℕ → NodeState → Pace → List TimedEntry → Type 0
EndsRun m Whole left records n r p es = (left ≡ []) × (told : List JournalEntry) × ShowsOnce m r p told × (es ≡ map (made_at n) told)
EndsRun m Full left records n r p es = (left ≢ []) × (records_max ≤ records) × (es ≡ [])
EndsRun m Cut left records n r p es = es ≡ []

-- the k-th step is event k, at time 0: the steps that were done made their entries, and then the run ends
pub record IsRunOf (m : Machine) (how : RunEnd) (steps : List Step) (es : List TimedEntry) : Type 0 where
  pub done : List Step
  pub left : List Step
  pub steps_are : steps ≡ done ++ left
  pub made : HaveMade (EndsRun m how left) m 0 1 (first_state m) no_pace done es
