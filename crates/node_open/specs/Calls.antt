-- What the calls of a node answer.
use Rattle.std.specs.Prelude.{◌≡◌, ◌<◌, ◌≤◌, ◌+◌, ◌*◌, min, ℕ, List, Some, map, drop, Result, MatchResult, ⊤}
use Rattle.arrayvec.specs.ArrayVec.{ArrayVec}
use Rattle.mate_num.specs.declared.bounds.TheConstants.{CODE_MAX}
use Rattle.mate_num.specs.declared.id.ContextId.{ContextId}
use Rattle.mate_num.specs.declared.id.HandlerId.{HandlerId}
use Rattle.mate_num.specs.declared.call.Stamp.{Stamp}
use Rattle.mate_journal.specs.Log.{Log}
use Rattle.mate_journal.specs.Machine.{Machine, HeldProgram}
use Rattle.mate_journal.specs.Journal.{JournalEntry, Ready, Waiting, NodeState, journal_entry}
use Rattle.mate_journal.specs.declared.entry.Stamped.{Stamped}
use Rattle.mate_journal.specs.WellFormed.{IsWaiting}
use Rattle.mate_journal.specs.NodeScript.{IsReadyIn, TurnsIn}
use Rattle.mate_journal.specs.Pace.{Pace, paced_all}
use Rattle.mate_journal.specs.Turns.{mark_of}
use Rattle.journal_laws.specs.Progress.{IsNoneLive}
use Rattle.node_calls.specs.Installing.{InstallsBytes, Refuses}
use Rattle.node_calls.specs.declared.installing.InstallFault.{InstallFault}
use Rattle.node_open.specs.View.{NodeView, heard_of, Tells, IsSameNode}
use Rattle.node_open.specs.declared.standing.Asked.{Asked}
use Rattle.node_open.specs.declared.standing.Standing.{Standing}
use Rattle.node_open.specs.declared.standing.Standing.TheVariants.{Can, Outside, Idle}

-- entries that meet the rule, and change the pace one by one: no instruction is executed
abbrev pub Pacing : (Pace → List JournalEntry → Type 0) → Pace → List JournalEntry → Pace → Type 0
Pacing Rule p told q = Rule p told × (q ≡ paced_all p told)

-- the capsule that the bytes are was installed; or it is refused for this, and the node is as it was
abbrev pub InstallsOn : NodeView → NodeView → List ℕ → Stamp → Result ⊤ InstallFault → Type 0
InstallsOn old new bytes at result = MatchResult result
    (λ _. Tells old new at (Pacing (InstallsBytes old.description (heard_of old) bytes)))
    (λ fault. Refuses old.description (heard_of old) bytes fault × (new ≡ old))

-- it was installed, or is refused for this, and the node is as it was but for its room
abbrev pub TakesCapsule : NodeView → NodeView → List ℕ → Stamp → Result ⊤ InstallFault → Type 0
TakesCapsule old new bytes at result = MatchResult result
    (λ _. Tells old new at (Pacing (InstallsBytes old.description (heard_of old) bytes)))
    (λ fault. Refuses old.description (heard_of old) bytes fault × IsSameNode old new)

-- One turn of n instructions. Those are executed up to the next mark, which is within what one invocation executes at
-- most from its start to its end.
pub record HasStepped (m : Machine) (r : NodeState) (c : ContextId) (n ran : ℕ) (p : Pace) (told : List JournalEntry) (q : Pace) : Type
    0 where
  pub turn : TurnsIn m r p c n told q
  pub ran_is : p.counts turn.invocation + ran ≡ min (p.counts turn.invocation + n) (mark_of m r turn.invocation)
  pub within : mark_of m r turn.invocation ≤ (m.turns + 1) * CODE_MAX

-- an invocation in the context waits for an answer
pub record IsWaitingIn (r : NodeState) (c : ContextId) : Type 0 where
  pub invocation : ℕ
  pub waits : IsWaiting r invocation
  pub context : (r.invocations invocation).context ≡ c

abbrev pub IsNoneReady : NodeState → Type 0
IsNoneReady r = (n : ℕ) → (r.invocations n).phase ≡ Ready → ⊥

-- what can go on: a ready invocation; if none is, one that waits for the outside; and nothing exactly if none is live
abbrev pub StandsAs : NodeState → Standing → Type 0
StandsAs r (Can c) = IsReadyIn r c
StandsAs r (Outside c) = IsNoneReady r × IsWaitingIn r c
StandsAs r Idle = IsNoneLive r

-- the invocation that waits in the context, and what it asked
pub record IsAsked (r : NodeState) (c : ContextId) (a : Asked) : Type 0 where
  pub waits : (r.invocations a.inv).phase ≡ Waiting a.fun a.args
  pub context : (r.invocations a.inv).context ≡ c

-- the image is that of what is installed for the handler, under a version above 0
pub record IsImageOf (r : NodeState) (h : HandlerId) (image : ArrayVec ℕ) : Type 0 where
  pub program : HeldProgram
  pub installed : r.installed h ≡ Some program
  pub is : program.image ≡ image
  pub version : 0 < program.version

-- what entries record
abbrev pub told_by_entries : Log → List Stamped → List JournalEntry
told_by_entries l es = map (λ (e : Stamped). journal_entry l e.entry) es

-- what the entries from a position on record
abbrev pub told_from : ℕ → Log → List JournalEntry
told_from from l = told_by_entries l (drop from l.entries)

-- with the images and stores of some log the entries record what those from the position on record
pub record TellFrom (from : ℕ) (l : Log) (es : List Stamped) : Type 0 where
  pub by : Log
  pub told : told_by_entries by es ≡ told_from from l
