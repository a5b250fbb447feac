-- A node's journal, and the state that it leads to at each place in it.
use Rattle.std.specs.Prelude.{ℕ, ◌==◌, Bool, true, false, List, [], ◌∷◌, ◌++◌, map, ℤ, Option, Some, None, unwrap_or, slice_index_or, if◌then◌else◌}
use Rattle.std.specs.List.{fold}
use Rattle.std.specs.Option.{option_map_or}
use Rattle.arrayvec.specs.ArrayVec.{ArrayVec}
use Rattle.mate_num.specs.Lists.{Along}
use Rattle.mate_num.specs.declared.call.Call.{Call}
use Rattle.mate_num.specs.declared.call.End.{End}
use Rattle.mate_num.specs.declared.call.End.TheVariants as end
use Rattle.mate_num.specs.declared.call.Stamp.{Stamp}
use Rattle.mate_num.specs.declared.id.HandlerId.{HandlerId}
use Rattle.mate_num.specs.declared.id.ContextId.{ContextId}
use Rattle.mate_num.specs.declared.id.FunId.{FunId}
use Rattle.mate_num.specs.declared.store.Store.{Store}
use Rattle.mate_journal.specs.Log.{Log}
use Rattle.mate_journal.specs.Machine.{Machine, HeldProgram}
use Rattle.mate_num.specs.declared.outcome.Outcome.{Outcome}
use Rattle.mate_journal.specs.declared.entry.DropCause.{DropCause}
use Rattle.mate_journal.specs.declared.entry.VoidCause.{VoidCause}
use Rattle.mate_journal.specs.declared.entry.Entry.{Entry}
use Rattle.mate_journal.specs.declared.entry.Entry.TheVariants as entry

-- an entry, with the image or the store that it names
pub data JournalEntry : Type 0 where
  Posted : (n : ℕ) (handler : HandlerId) (context : ContextId) (payload : ArrayVec ℤ) → JournalEntry
  Dropped : (handler : HandlerId) (cause : DropCause) → JournalEntry
  Started : (n : ℕ) → JournalEntry
  Asked : (n : ℕ) (fun : FunId) (args : ArrayVec ℤ) → JournalEntry
  Answered : (n : ℕ) (value : ℤ) → JournalEntry
  Ended : (n : ℕ) (how : End) → JournalEntry
  Installed : (program : HeldProgram) → JournalEntry
  Reset : JournalEntry
  Seen : (store : Store) → JournalEntry
  Void : (cause : VoidCause) → JournalEntry

-- the invocation that an entry starts, if any
abbrev pub started_by : JournalEntry → Option ℕ
started_by (Started n) = Some n
started_by _ = None

-- the store that an entry shows, if any
abbrev pub store_seen : JournalEntry → Option Store
store_seen (Seen store) = Some store
store_seen _ = None

-- the entry begins an era
abbrev pub begins_era : JournalEntry → Bool
begins_era (Installed p) = true
begins_era Reset = true
begins_era _ = false

-- an entry with its stamp
pub record TimedEntry : Type 0 where
  pub stamp : Stamp
  pub told : JournalEntry

-- the entries of a list, without their stamps
abbrev pub untimed : List TimedEntry → List JournalEntry
untimed es = map (λ e. e.told) es

abbrev pub no_image : ArrayVec ℕ
no_image = record { items = [] }

abbrev pub no_store : Store
no_store = record { shared = record { items = [] }; buffers = record { items = [] } }

abbrev pub journal_entry : Log → Entry → JournalEntry
journal_entry l (entry.Post n h c payload) = Posted n h c payload
journal_entry l (entry.Dropped h cause) = Dropped h cause
journal_entry l (entry.Start n) = Started n
journal_entry l (entry.Ask n f args) = Asked n f args
journal_entry l (entry.Answer n value) = Answered n value
journal_entry l (entry.Halt n) = Ended n end.Halt
journal_entry l (entry.Fault n kind) = Ended n (end.Fault kind)
journal_entry l (entry.Install h version image) =
    Installed (record { handler = h; version = version; image = slice_index_or l.images image no_image })
journal_entry l entry.Reset = Reset
journal_entry l (entry.Seen store) = Seen (slice_index_or l.stores store no_store)
journal_entry l (entry.Void cause) = Void cause

-- the journal of a log
abbrev pub journal_of : Log → List TimedEntry
journal_of l = map (λ e. record { stamp = e.stamp; told = journal_entry l e.entry }) l.entries

-- the phase of an invocation: not yet posted, queued for its locks, ready to run, waiting for an answer, or over
pub data Phase : Type 0 where
  Unposted Queued Ready : Phase
  Waiting : (fun : FunId) (args : ArrayVec ℤ) → Phase
  Over : Phase

-- posted, and not over
abbrev pub is_live : Phase → Bool
is_live Unposted = false
is_live Over = false
is_live _ = true

-- live, and its locks were granted
abbrev pub is_started : Phase → Bool
is_started Ready = true
is_started (Waiting f args) = true
is_started _ = false

pub record Invocation : Type 0 where
  pub handler : HandlerId
  pub context : ContextId
  pub program : HeldProgram
  pub payload : ArrayVec ℤ
  pub calls : List Call
  pub phase : Phase

-- the state that a journal leads to: the serial store, the number of invocations that were posted, what is installed
-- for each handler, and each invocation by its number
pub record NodeState : Type 0 where
  pub serial : Store
  pub posts : ℕ
  pub installed : HandlerId → Option HeldProgram
  pub invocations : ℕ → Invocation

abbrev pub no_program : HeldProgram
no_program = record { handler = record { 0 = 0 }; version = 0; image = no_image }

-- an invocation as it is posted
abbrev pub new_invocation : HandlerId → ContextId → HeldProgram → ArrayVec ℤ → Invocation
new_invocation h c program payload = record { handler = h; context = c; program = program; payload = payload; calls = []; phase = Queued }

-- an invocation that was not posted yet
abbrev unposted : Invocation
unposted = record (new_invocation (record { 0 = 0 }) (record { 0 = 0 }) no_program (record { items = [] })) { phase = Unposted }

-- the state before any entry
abbrev pub first_state : Machine → NodeState
first_state m = record { serial = m.zero_store; posts = 0; installed = λ _. None; invocations = λ _. unposted }

-- the version that the node holds of a handler, 0 for none
abbrev pub held : NodeState → HandlerId → ℕ
held r h = option_map_or (λ p. p.version) (r.installed h) 0

-- f, with one value changed
abbrev pub changed : {A : Type 0} → (ℕ → A) → ℕ → A → ℕ → A
changed f n value k = if k == n then value else f k

-- the same invocation in another phase
abbrev pub in_phase : Phase → Invocation → Invocation
in_phase phase i = record i { phase = phase }

-- the answers that an invocation got
abbrev pub answers_of : Invocation → List ℤ
answers_of i = map (λ (call : Call). call.result) i.calls

-- what an invocation's program gives on the serial store, with the answers that it got
abbrev pub on_serial : {A : Type 0} → (HeldProgram → Store → ArrayVec ℤ → List ℤ → ℕ → A) → Machine → NodeState → ℕ → A
on_serial f m r n = let i = r.invocations n in f i.program r.serial i.payload (answers_of i) m.turns

-- the whole run of an invocation
abbrev pub whole_run : Machine → NodeState → ℕ → Outcome
whole_run m = on_serial m.meaning.run m

-- the calls of an invocation, with the one that it waits in and its answer
abbrev answered : Phase → ℤ → List Call → List Call
answered (Waiting f args) value calls = calls ++ record { fun = f; args = args; result = value } ∷ []
answered _ value calls = calls

-- an invocation after an era's end: a live one is cut
abbrev pub cut_at_era : Invocation → Invocation
cut_at_era i = in_phase (if is_live i.phase then Over else i.phase) i

-- the state at an era's beginning: the store is zero, and what was live is cut
abbrev pub new_era : Machine → NodeState → NodeState
new_era m r = record r { serial = m.zero_store; invocations = λ n. cut_at_era (r.invocations n) }

-- the state after one more entry
abbrev pub next_state : Machine → NodeState → JournalEntry → NodeState
next_state m r (Posted n h c payload) =
    let i = new_invocation h c (unwrap_or (r.installed h) no_program) payload in
    record r { posts = n; invocations = changed r.invocations n i }
next_state m r (Started n) = record r { invocations = changed r.invocations n (in_phase Ready (r.invocations n)) }
next_state m r (Asked n f args) = record r { invocations = changed r.invocations n (in_phase (Waiting f args) (r.invocations n)) }
next_state m r (Answered n value) =
    let i = r.invocations n in
    record r { invocations = changed r.invocations n (record i { calls = answered i.phase value i.calls; phase = Ready }) }
next_state m r (Ended n how) =
    record r { serial = (whole_run m r n).store; invocations = changed r.invocations n (in_phase Over (r.invocations n)) }
next_state m r (Installed p) = record (new_era m r) { installed = λ h. if h.0 == p.handler.0 then Some p else r.installed h }
next_state m r Reset = new_era m r
next_state m r _ = r

-- the state after a list of entries with their stamps
abbrev pub state_after_all : Machine → NodeState → List TimedEntry → NodeState
state_after_all m = fold (λ r e. next_state m r e.told)

-- the state after a list of entries
abbrev pub state_after_entries : Machine → NodeState → List JournalEntry → NodeState
state_after_entries m = fold (next_state m)

-- a rule for each entry, at the state before it
abbrev pub AtEachEntry : (NodeState → JournalEntry → Type 0) → Machine → NodeState → List TimedEntry → Type 0
AtEachEntry Rule m = Along (λ r e. Rule r e.told) (λ r e. next_state m r e.told)

-- a fact at each place of the journal, and at its end
abbrev pub AtEachPlace : (NodeState → Type 0) → Machine → NodeState → List TimedEntry → Type 0
AtEachPlace Fact m r [] = Fact r
AtEachPlace Fact m r (e ∷ es) = Fact r × AtEachPlace Fact m (next_state m r e.told) es
