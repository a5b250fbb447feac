-- Two sums over the contexts of a node: the entries that its invocations may still give, and what bounds their turns.
use Rattle.std.specs.Prelude.{ℕ, zero, suc, ◌+◌, ◌-◌, Bool, true, false, Option, None, Some}
use Rattle.mate_num.specs.declared.bounds.TheConstants.{CONTEXTS_MAX}
use Rattle.mate_num.specs.declared.id.ContextId.{ContextId}
use Rattle.mate_num.specs.declared.lock_set.LockSet.{LockSet}
use Rattle.node_state.specs.declared.seat.Seat.{Seat}
use Rattle.node_state.specs.declared.contexts.Contexts.{Contexts}
use Rattle.node_state.specs.At.{At, at}

-- f 0 + .. + f (n - 1)
unfoldable pub total : (ℕ → ℕ) → ℕ → ℕ
total f zero = 0
total f (suc n) = total f n + f n

abbrev pub context : ℕ → ContextId
context n = record { 0 = n }

abbrev pub if_waits : Option LockSet → ℕ → ℕ
if_waits None n = 0
if_waits (Some set) n = n

abbrev pub if_ready : Bool → ℕ → ℕ
if_ready false n = 0
if_ready true n = n

abbrev pub seat_count : Option Seat → ℕ
seat_count None = 0
seat_count (Some s) = s.count

-- the entries until it waits for an answer or is over: of a queued one the start and one more, of a ready one that one
abbrev pub owed : At → ℕ
owed a = if_waits a.waits 2 + if_ready a.ready 1

-- the starts that it may still give
abbrev pub may_start : At → ℕ
may_start a = if_waits a.waits 1

-- what falls with each start and each turn, if no invocation executes more instructions than the bound
abbrev pub left : ℕ → At → ℕ
left bound a = if_waits a.waits (bound + 2) + if_ready a.ready (bound + 1 - seat_count a.seat)

-- over all contexts
abbrev pub over_all : (At → ℕ) → Contexts → ℕ
over_all weight s = total (λ c. weight (at s (context c))) CONTEXTS_MAX

abbrev pub starts_left : Contexts → ℕ
starts_left s = over_all may_start s

abbrev pub owes : Contexts → ℕ
owes s = over_all owed s

abbrev pub falls : ℕ → Contexts → ℕ
falls bound s = over_all (left bound) s
