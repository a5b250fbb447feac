-- What turns tell while they settle: marks and starts, which leave those that wait.
use Rattle.std.proofs.Common.{◌≡◌, ℕ, ◌+◌, false, List, [], ◌∷◌, refl, sym, subst, inl, inr}
use Rattle.std.specs.Prelude.{All}
use Rattle.std.proofs.lemmas.Bool.{cases_lt}
use Rattle.std.proofs.lemmas.List.Elements.{recursion_from_All}
use Rattle.mate_num.specs.declared.call.End.{End}
use Rattle.mate_num.specs.declared.call.End.TheVariants as end
use Rattle.mate_num.specs.Lists.{Each}
use Rattle.mate_num.proofs.ListLemmas.{each-append, each-weaker}
use Rattle.mate_journal.specs.Machine.{Machine}
use Rattle.mate_journal.specs.Journal.{JournalEntry, Started, Asked, Ended, NodeState, next_state, state_after_entries, whole_run}
use Rattle.mate_journal.specs.WellFormed.{IsWaiting}
use Rattle.mate_journal.specs.Grants.{IsStart}
use Rattle.mate_journal.specs.Pace.{Pace}
use Rattle.mate_journal.specs.Turns.{entry_at, Turn, IsTurn, mark_of, after_turn, AreTurns, told_in, Settles}
use Rattle.journal_laws.proofs.Moves.{asked-Moves}
use Rattle.journal_laws.specs.Waiting.{WaitSmall, asked_of, IsAwaitedBy, AreAwaited, AreFollowing, ends_wait, NoneEndsWait}
use Rattle.journal_laws.proofs.Staying.{Leaves, waits-same, stays-told}

-- ---- what a turn tells

-- the entry starts an invocation, or is of a mark
abbrev pub IsOfTurn : JournalEntry → Type 0
IsOfTurn (Started n) = Unit {0}
IsOfTurn (Asked n f args) = Unit {0}
IsOfTurn (Ended n how) = Unit {0}
IsOfTurn _ = ⊥

abbrev pub AreOfTurns : List JournalEntry → Type 0
AreOfTurns = Each IsOfTurn

start-of_turn : (t : JournalEntry) → IsStart t → IsOfTurn t
start-of_turn (Started n) is = tt
start-of_turn t is = absurd is

pub starts-of_turns : (starts : List JournalEntry) → All IsStart starts → AreOfTurns starts
starts-of_turns starts all = each-weaker IsStart IsOfTurn start-of_turn starts (recursion_from_All IsStart starts all)

mark-of_turn : (n : ℕ) (e : End) → IsOfTurn (entry_at n e)
mark-of_turn n end.Halt = tt
mark-of_turn n _ = tt

pub turn-of_turns : (m : Machine) (r : NodeState) (p : Pace) (instructions : ℕ) (t : Turn) → IsTurn m r p instructions t → AreOfTurns t.told
turn-of_turns m r p instructions t turn = elim (cases_lt (p.counts t.invocation + instructions) (mark_of m r t.invocation)) [
  | inl short ↦ subst (λ (ts : List JournalEntry). AreOfTurns ts) (sym (turn.short short)) tt
  | inr reached ↦ (let a = turn.reached reached in
      subst (λ (ts : List JournalEntry). AreOfTurns ts) (sym a.told_is) (mark-of_turn t.invocation (whole_run m r t.invocation).end, starts-of_turns a.starts a.are_starts))
]

turns-of_turns : (m : Machine) (r : NodeState) (p : Pace) (ts : List Turn) → AreTurns m r p ts → AreOfTurns (told_in ts)
turns-of_turns m r p [] turns = tt
turns-of_turns m r p (t ∷ ts) turns =
    each-append IsOfTurn t.told (told_in ts) (turn-of_turns m r p m.quantum t turns.1) (turns-of_turns m (state_after_entries m r t.told) (after_turn m r p t) ts turns.2)

pub settles-of_turns : (m : Machine) (r : NodeState) (p : Pace) (told : List JournalEntry) (q : Pace) → Settles m r p told q → AreOfTurns told
settles-of_turns m r p told q settles = subst (λ (ts : List JournalEntry). AreOfTurns ts) (sym settles.made) (turns-of_turns m r p settles.turns settles.are_turns)

-- ---- who waits stays

leaves-of_turn : (n : ℕ) (t : JournalEntry) → IsOfTurn t → Leaves n t
leaves-of_turn n (Started k) of = tt
leaves-of_turn n (Asked k f args) of = tt
leaves-of_turn n (Ended k how) of = tt
leaves-of_turn n t of = absurd of

-- what turns tell ends no wait
pub none-of_turns : (n : ℕ) (told : List JournalEntry) → AreOfTurns told → NoneEndsWait n told
none-of_turns n told of = each-weaker IsOfTurn _ by told of where
  by : (t : JournalEntry) → IsOfTurn t → ends_wait n t ≡ false
  by (Started k) of = refl
  by (Asked k f args) of = refl
  by (Ended k how) of = refl
  by t of = absurd of

pub stays-settled : (m : Machine) (r : NodeState) (n : ℕ) (told : List JournalEntry) → AreOfTurns told → AreFollowing m r told → IsWaiting r n → (state_after_entries m r told).invocations n ≡ r.invocations n
stays-settled m r n told of follow waits = stays-told m r n told follow waits (each-weaker IsOfTurn (Leaves n) (leaves-of_turn n) told of)

-- ---- who calls waits at the end

pub awaited-settled : (m : Machine) (r : NodeState) (told : List JournalEntry) → AreOfTurns told → AreFollowing m r told → WaitSmall (state_after_entries m r told) → AreAwaited (state_after_entries m r told) told
awaited-settled m r [] of follow small = tt
awaited-settled m r (t ∷ told) of follow small = (by t of.0 follow.1 small, awaited-settled m (next_state m r t) told of.1 follow.1 small) where
  by : (t : JournalEntry) → IsOfTurn t → AreFollowing m (next_state m r t) told → WaitSmall (state_after_entries m (next_state m r t) told) → IsAwaitedBy (state_after_entries m (next_state m r t) told) (asked_of t)
  by (Started n) is follow small = tt
  by (Ended n how) is follow small = tt
  by (Asked n f args) is follow small =
      let s = next_state m r (Asked n f args) in
      let asks : IsWaiting s n = record { fun = f; args = args; waits = (asked-Moves m r n f args).here } in
      let waits = waits-same s (state_after_entries m s told) n (stays-settled m s n told of.1 follow asks) asks in
      record { waits = waits; small = small n waits }
  by t is follow small = absurd is
