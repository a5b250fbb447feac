-- The pace of a node, and what its instructions, calls and ends make of its parts.
use Rattle.std.specs.Prelude.{◌≡◌, ◌⊎◌, ℕ, ◌+◌, ◌*◌, ◌<◌, ◌≤◌, Some, List, [], ◌∷◌, min, length}
use Rattle.mate_num.specs.declared.bounds.TheConstants.{CODE_MAX}
use Rattle.mate_num.specs.declared.call.Stamp.{Stamp}
use Rattle.mate_num.specs.declared.id.ContextId.{ContextId}
use Rattle.exec_unit.specs.declared.step_end.StepEnd.{StepEnd}
use Rattle.exec_unit.specs.declared.step_end.StepEnd.TheVariants.{Next, Ask, Halt, Fault}
use Rattle.vm_shape.specs.declared.description.Description.{Description}
use Rattle.mate_journal.specs.Machine.{Machine}
use Rattle.mate_journal.specs.Journal.{JournalEntry, Ready, NodeState, whole_run, changed, next_state}
use Rattle.exec_unit.specs.declared.running.Ran.{Ran}
use Rattle.node_state.specs.declared.seat.Seat.{Seat}
use Rattle.node_state.specs.At.{at, Becomes}
use Rattle.node_state.specs.Programs.{held_at}
use Rattle.node_state.specs.Executing.{IsSameSeat, Executes}
use Rattle.node_state.specs.declared.parts.Parts.{Parts}
use Rattle.node_state.specs.Meaning.{machine_in}
use Rattle.node_state.specs.Keeps.{reading, Grows}
use Rattle.node_state.specs.Queue.{invocation_in}
use Rattle.node_state.specs.Totals.{starts_left, owes, falls}
use Rattle.node_state.specs.Pace.{IsPace}
use Rattle.node_state.specs.Starting.{KeepsOrder, Rests}
use Rattle.mate_journal.specs.Journal.{state_after_entries}
use Rattle.mate_journal.specs.Pace.{Pace, paced_all}
use Rattle.mate_journal.specs.Turns.{Turn, IsTurn, mark_of, entry_at, after_step, after_turn, AreTurns, told_in, pace_after, Settles}

-- no invocation executes more instructions
abbrev pub most : Description → ℕ
most d = (d.turns + 1) * CODE_MAX

-- the invocation in the context executed n instructions, and goes on
pub record HasGoneOn (d : Description) (old new : Parts) (c : ContextId) (n : ℕ) : Type 0 where
  pub order : KeepsOrder d new
  pub seat : Seat
  pub is : (at old.contexts c).seat ≡ Some seat
  pub now : Seat
  pub same : IsSameSeat seat now
  pub counted : now.count ≡ seat.count + n
  pub becomes : Becomes old.contexts new.contexts c (record (at old.contexts c) { seat = Some now })
  pub locks : new.contexts.locks ≡ old.contexts.locks
  pub ring : new.contexts.ring ≡ old.contexts.ring
  pub log : new.log ≡ old.log
  pub handlers : new.handlers ≡ old.handlers
  pub posts : new.posts ≡ old.posts

-- with its last instruction, one of n at most, it stops so
pub record HasStopped (d : Description) (old new : Parts) (c : ContextId) (n ran : ℕ) (how : StepEnd) : Type 0 where
  pub before : ℕ
  pub few : before < n
  pub ran_is : ran ≡ before + 1
  pub mid : Parts
  pub goes : HasGoneOn d old mid c before
  pub executes : Executes (held_at mid.handlers.programs) mid.contexts mid.heap c how new.contexts new.heap
  pub rest : new ≡ record mid { contexts = new.contexts; heap = new.heap }

-- it executes n instructions, or fewer if it stops
abbrev pub RunsTo : StepEnd → Description → Parts → Parts → ContextId → ℕ → ℕ → Type 0
RunsTo Next d old new c n ran = (ran ≡ n) × HasGoneOn d old new c n
RunsTo (Ask f args) d old new c n ran = HasStopped d old new c n ran (Ask f args)
RunsTo Halt d old new c n ran = HasStopped d old new c n ran Halt
RunsTo (Fault kind) d old new c n ran = HasStopped d old new c n ran (Fault kind)

abbrev pub RunsFor : Description → Parts → Parts → ContextId → ℕ → Ran → Type 0
RunsFor d old new c n ran = RunsTo ran.how d old new c n ran.instructions

-- the invocation in the context asked or is over, and that was recorded
pub record HasMoved (d : Description) (old new : Parts) (at_ : Stamp) (c : ContextId) (n ran : ℕ) (told : JournalEntry) : Type 0 where
  pub invocation : ℕ
  pub number : invocation_in old.contexts c ≡ invocation
  pub was : ((reading d old.log.all).invocations invocation).phase ≡ Ready
  pub order : KeepsOrder d new
  pub grows : Grows old.log.all new.log.all at_ (told ∷ [])
  pub heard_is : reading d new.log.all ≡ next_state (machine_in d) (reading d old.log.all) told
  pub told_is : told ≡ entry_at invocation (whole_run (machine_in d) (reading d old.log.all) invocation).end
  pub pace : (p : Pace) → IsPace (reading d old.log.all) old.contexts p
      → (mark_of (machine_in d) (reading d old.log.all) invocation ≤ p.counts invocation + n)
      × (p.counts invocation + ran ≡ mark_of (machine_in d) (reading d old.log.all) invocation)
      × IsPace (reading d new.log.all) new.contexts
      (paced_all (record p {
        counts = changed p.counts invocation
            (min (p.counts invocation + n) (mark_of (machine_in d) (reading d old.log.all) invocation));
      }) (told ∷ []))
  pub owed : owes new.contexts + 1 ≡ owes old.contexts
  pub left_is : starts_left new.contexts ≡ starts_left old.contexts
  pub falls_by : falls (most d) new.contexts < falls (most d) old.contexts
  pub handlers : new.handlers ≡ old.handlers
  pub posts : new.posts ≡ old.posts

-- the invocation in the context has a turn of n instructions, of which it executes `ran`: those up to its next mark, which no
-- invocation has beyond the bound
pub record TakesTurn (d : Description) (old new : Parts) (at_ : Stamp) (c : ContextId) (n ran : ℕ) : Type 0 where
  pub invocation : ℕ
  pub number : invocation_in old.contexts c ≡ invocation
  pub told : List JournalEntry
  pub rests : Rests d new
  pub grows : Grows old.log.all new.log.all at_ told
  pub turn : (p : Pace) → IsPace (reading d old.log.all) old.contexts p
      → IsTurn (machine_in d) (reading d old.log.all) p n record { invocation = invocation; told = told }
      × (p.counts invocation + ran ≡ min (p.counts invocation + n) (mark_of (machine_in d) (reading d old.log.all) invocation))
      × IsPace (reading d new.log.all) new.contexts (after_step (machine_in d) (reading d old.log.all) p n
      record { invocation = invocation; told = told })
  pub within : mark_of (machine_in d) (reading d old.log.all) invocation ≤ most d
  pub owed : owes new.contexts + length told ≤ owes old.contexts
  pub falls_by : falls (most d) new.contexts < falls (most d) old.contexts
  pub handlers : new.handlers ≡ old.handlers
  pub posts : new.posts ≡ old.posts

-- quanta in one; more than one only if a single invocation is ready
pub record AreQuanta (quantum ready n : ℕ) : Type 0 where
  pub more : ℕ
  pub are : n ≡ quantum + quantum * more
  pub lone : (more ≡ 0) ⊎ (ready ≡ 1)

-- in each of these turns the invocation's next mark is within the bound; so no invocation executes more instructions since its start
abbrev pub AreWithin : Machine → ℕ → NodeState → Pace → List Turn → Type 0
AreWithin m bound r p [] = Unit {0}
AreWithin m bound r p (t ∷ ts) = (mark_of m r t.invocation ≤ bound)
    × AreWithin m bound (state_after_entries m r t.told) (after_turn m r p t) ts

-- turns from this pace to that one, one after another
pub record AreTogether (m : Machine) (bound : ℕ) (r : NodeState) (p q : Pace) (told : List JournalEntry) : Type 0 where
  pub turns : List Turn
  pub are_turns : AreTurns m r p turns
  pub made : told ≡ told_in turns
  pub within : AreWithin m bound r p turns
  pub then : pace_after m r p turns ≡ q

-- turns from this pace on, one after another
pub record Chains (d : Description) (old new : Parts) (told : List JournalEntry) (p : Pace) : Type 0 where
  pub turns : List Turn
  pub are_turns : AreTurns (machine_in d) (reading d old.log.all) p turns
  pub made : told ≡ told_in turns
  pub within : AreWithin (machine_in d) (most d) (reading d old.log.all) p turns
  pub pace : IsPace (reading d new.log.all) new.contexts (pace_after (machine_in d) (reading d old.log.all) p turns)

-- turns follow one another until no invocation is ready, and none has its mark beyond the bound
pub record SettlesWithin (m : Machine) (bound : ℕ) (r : NodeState) (p : Pace) (told : List JournalEntry) (q : Pace) : Type 0 where
  pub settles : Settles m r p told q
  pub within : AreWithin m bound r p settles.turns

-- the parts of a node after it
pub record SettlesAll (d : Description) (old new : Parts) (at_ : Stamp) : Type 0 where
  pub told : List JournalEntry
  pub rests : Rests d new
  pub grows : Grows old.log.all new.log.all at_ told
  pub settles : (p : Pace) → IsPace (reading d old.log.all) old.contexts p
      → (q : Pace) × SettlesWithin (machine_in d) (most d) (reading d old.log.all) p told q
      × IsPace (reading d new.log.all) new.contexts q
  pub handlers : new.handlers ≡ old.handlers
  pub posts : new.posts ≡ old.posts

-- so far
pub record SettlesSome (d : Description) (old new : Parts) (at_ : Stamp) : Type 0 where
  pub told : List JournalEntry
  pub rests : Rests d new
  pub grows : Grows old.log.all new.log.all at_ told
  pub heard_is : reading d new.log.all ≡ state_after_entries (machine_in d) (reading d old.log.all) told
  pub chain : (p : Pace) → IsPace (reading d old.log.all) old.contexts p → Chains d old new told p
  pub owed : owes new.contexts + length told ≤ owes old.contexts
  pub handlers : new.handlers ≡ old.handlers
  pub posts : new.posts ≡ old.posts
