-- The heap of a node against the serial store: each started invocation runs as if it were alone.
use Rattle.std.specs.Prelude.{◌≡◌, ◌≢◌, ℕ, true, false, [], Some}
use Rattle.mate_num.specs.Uses.{Uses, uses, IsCompatible}
use Rattle.mate_num.specs.declared.call.End.TheVariants as end
use Rattle.mate_num.specs.declared.id.ContextId.{ContextId}
use Rattle.mate_num.specs.declared.resource.Resource.{Resource}
use Rattle.mate_num.specs.declared.store.Store.{Store}
use Rattle.mate_code.specs.Cells.{read, AreAsLong, Agree}
use Rattle.mate_code.specs.CodeUses.{uses_of}
use Rattle.mate_code.specs.Run.{Code, Status, Going, Over, Own, Run, run_after}
use Rattle.exec_unit.specs.Machine.{begun}
use Rattle.vm_shape.specs.declared.description.Description.{Description}
use Rattle.vm_shape.specs.Shapes.{shape_of}
use Rattle.mate_journal.specs.Journal.{Phase, Unposted, Queued, Ready, Waiting, Over as Gone, is_started, Invocation, NodeState, answers_of}
use Rattle.node_state.specs.declared.seat.Seat.{Seat}
use Rattle.node_state.specs.declared.contexts.Contexts.{Contexts}
use Rattle.node_state.specs.At.{at}
use Rattle.node_state.specs.Meaning.{image_code}

-- the code of an invocation, and what it uses
abbrev pub code_for : Description → Invocation → Code
code_for d i = image_code (shape_of d) i.program.image

abbrev pub uses_for : Description → Invocation → Uses
uses_for d i = uses_of (shape_of d) (code_for d i)

-- its run on a store, as if it were alone, after `count` instructions
abbrev pub own_run : Description → Invocation → ℕ → Store → Run
own_run d i count store = run_after count (shape_of d) (code_for d i) store i.payload (answers_of i) d.turns

-- whether a run goes on in this phase
abbrev pub status_in : Phase → Status
status_in Unposted = Going
status_in Queued = Going
status_in Ready = Going
status_in (Waiting f args) = Over (end.Wants f args)
status_in Gone = Going

-- what its seat has of its own, as a run has it
abbrev pub own_in : Invocation → Seat → Own
own_in i s = record { own = s.machine; left = []; calls = i.calls; count = s.count; status = status_in i.phase }

-- the seat and the heap are its run on the serial store, as far as its code can see
pub record IsOwnRun (d : Description) (i : Invocation) (s : Seat) (serial heap : Store) : Type 0 where
  pub own : (own_run d i s.count serial).own ≡ own_in i s
  pub stores : Agree (uses (uses_for d i)) (own_run d i s.count serial).store heap

-- it did nothing yet
pub record IsFresh (d : Description) (i : Invocation) (s : Seat) : Type 0 where
  pub machine : s.machine ≡ begun d.turns i.payload.items
  pub count : s.count ≡ 0
  pub calls : i.calls ≡ []

-- the state of the seat of an invocation in this phase
abbrev pub RunsOwn : Description → Phase → Invocation → Seat → Store → Store → Type 0
RunsOwn d Unposted i s serial heap = Unit {0}
RunsOwn d Queued i s serial heap = IsFresh d i s
RunsOwn d Ready i s serial heap = IsOwnRun d i s serial heap
RunsOwn d (Waiting f args) i s serial heap = IsOwnRun d i s serial heap
RunsOwn d Gone i s serial heap = Unit {0}

-- Each started invocation runs as if it were alone on the serial store. No two of them conflict. What none of them writes
-- is as in the serial store.
pub record Agrees (d : Description) (r : NodeState) (contexts : Contexts) (heap : Store) : Type 0 where
  pub as_long : AreAsLong heap r.serial
  pub each : (c : ContextId) (s : Seat) → (at contexts c).seat ≡ Some s
      → RunsOwn d (r.invocations s.inv).phase (r.invocations s.inv) s r.serial heap
  pub apart : (j k : ℕ) → j ≢ k → is_started (r.invocations j).phase ≡ true → is_started (r.invocations k).phase ≡ true
      → IsCompatible (uses_for d (r.invocations j)) (uses_for d (r.invocations k))
  pub elsewhere : (q : Resource) → ((n : ℕ) → is_started (r.invocations n).phase ≡ true → (uses_for d (r.invocations n)).writes q ≡ false)
      → read heap q ≡ read r.serial q
