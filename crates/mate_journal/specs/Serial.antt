-- Serial replay: the invocations, run whole and one at a time in the order of their ends, give what the journal records.
use Rattle.std.specs.Prelude.{◌≡◌, ℕ, ℤ, List, IsTrue}
use Rattle.arrayvec.specs.ArrayVec.{ArrayVec}
use Rattle.mate_num.specs.declared.call.End.TheVariants as end
use Rattle.mate_num.specs.declared.id.FunId.{FunId}
use Rattle.mate_journal.specs.Machine.{Machine}
use Rattle.mate_journal.specs.Journal.{JournalEntry, Ended, TimedEntry, Waiting, is_started, NodeState, whole_run, AtEachEntry, AtEachPlace}

-- where an invocation ends, its whole run on the serial store ends so, with the calls that were recorded.
-- (The store that the run leaves is the next serial store.)
abbrev pub EndsAsRun : Machine → NodeState → JournalEntry → Type 0
EndsAsRun m r (Ended n how) = ((whole_run m r n).end ≡ how) × ((whole_run m r n).calls ≡ (r.invocations n).calls)
EndsAsRun m r _ = Unit {0}

-- the whole run of each started live invocation gives exactly the calls that it made so far, and if it waits,
-- the run wants that call's answer
pub record RunsSoFar (m : Machine) (r : NodeState) : Type 0 where
  pub calls : (n : ℕ) → IsTrue (is_started (r.invocations n).phase) → (whole_run m r n).calls ≡ (r.invocations n).calls
  pub wants : (n : ℕ) (f : FunId) (args : ArrayVec ℤ) → (r.invocations n).phase ≡ Waiting f args → (whole_run m r n).end ≡ end.Wants f args

pub record IsSerial (m : Machine) (r : NodeState) (es : List TimedEntry) : Type 0 where
  pub ends : AtEachEntry (EndsAsRun m) m r es
  pub so_far : AtEachPlace (RunsSoFar m) m r es
