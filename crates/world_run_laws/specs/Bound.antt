-- The hop bound, over the lines of a world's script and the journals of its report.
use Rattle.std.specs.Prelude.{◌≡◌, ◌≢◌, ℕ, ◌+◌, ◌*◌, ◌<◌, ◌≤◌, true, List, ◌∷◌, ◌++◌, Contains, Some, slice_get, IsSomeAnd}
use Rattle.mate_num.specs.declared.id.HandlerId.{HandlerId}
use Rattle.vm_shape.specs.declared.description.Description.{Description}
use Rattle.vm_shape.specs.Limits.{longest}
use Rattle.mate_journal.specs.Log.{Log}
use Rattle.mate_journal.specs.Machine.{Machine, HeldProgram}
use Rattle.mate_journal.specs.Journal.{Installed, TimedEntry, NodeState, held, next_state, state_after_all, first_state, journal_of, AtEachPlace}
use Rattle.mate_journal.specs.NodeScript.{RunEnd}
use Rattle.mate_journal.specs.declared.air.Aired.{Aired}
use Rattle.mate_journal.specs.declared.program.Program.{Program}
use Rattle.mate_journal.specs.declared.report.Report.{Report}
use Rattle.script_steps.specs.declared.world.World.{World as Script}
use Rattle.script_steps.specs.declared.world.Planned.{Planned}
use Rattle.script_steps.specs.declared.world.What.TheVariants as what
use Rattle.script_steps.specs.World.{IfInjects}
use Rattle.world_rules.specs.Report.{IsWorldReport}
use Rattle.world_laws.specs.PacketRecords.{HasReached}
use Rattle.world_laws.specs.Hops.{IsAway}
use Rattle.world_laws.specs.Premises.{IsOpenScript}
use Rattle.node_programs.specs.WorldPrograms.{AreProgramsOfWorld}
use Rattle.world_run_laws.specs.SourceWorld.{source_world}

-- line i injects this version for the handler, on this node, at this time
pub record InjectsOn (script : Script) (i time node : ℕ) (h : HandlerId) (version : ℕ) : Type 0 where
  pub program : ℕ
  pub line : slice_get script.events i ≡ Some (record { time = time; node = node; what = what.Inject program h version })

-- no line after line i, up to a time, resets a node or injects for the handler
abbrev pub IsLeftAlone : Script → ℕ → HandlerId → ℕ → Type 0
IsLeftAlone script i h by = (j : ℕ) (l : Planned) → i < j → slice_get script.events j ≡ Some l → l.time ≤ by
    → (l.what ≢ what.Reset) × IfInjects l.what (λ g version. g ≢ h)

-- the journal installs the version by the time, and at each place from there on the node holds it or a newer one
pub record TellsInstallBy (m : Machine) (h : HandlerId) (version by : ℕ) (es : List TimedEntry) : Type 0 where
  pub front : List TimedEntry
  pub entry : TimedEntry
  pub rest : List TimedEntry
  pub split : es ≡ front ++ entry ∷ rest
  pub program : HeldProgram
  pub told : entry.told ≡ Installed program
  pub handler : program.handler ≡ h
  pub version_is : program.version ≡ version
  pub in_time : entry.stamp.time ≤ by
  pub ever : AtEachPlace (λ (r : NodeState). version ≤ held r h) m (next_state m (state_after_all m (first_state m) front) entry.told) rest

-- In a report of the world of a right script without loss or suppression let line i inject a version on node a, let b be
-- `hops` hops away, and let the line be left alone for 3 * L a hop. If the run reached that time, b's journal installs the
-- version by then, and the node holds it or a newer one ever after.
abbrev pub ReportsKeepTheBound : Type 0
ReportsKeepTheBound = (d : Description) (script : Script) (ps : List Program) (how : RunEnd) (r : Report) (i time a b hops : ℕ)
    (h : HandlerId) (version : ℕ)
    → AreProgramsOfWorld d script ps → IsOpenScript script → (of : IsWorldReport (source_world d script ps) how r)
    → InjectsOn script i time a h version → IsAway script.links a b hops
    → IsLeftAlone script i h (time + 3 * longest d.trickle * hops)
    → HasReached (source_world d script ps) how of.moments (time + 3 * longest d.trickle * hops)
    → IsSomeAnd (slice_get r.nodes b) (λ l. TellsInstallBy (source_world d script ps).machine h version
    (time + 3 * longest d.trickle * hops) (journal_of l))

-- The report shows that its run reached the time: it is whole and the time is at most the script's last, or a record on the
-- air or an entry of a journal is later.
pub data ShowsTime (script : Script) (r : Report) (t : ℕ) : Type 0 where
  whole : r.whole ≡ true → t ≤ script.until → ShowsTime script r t
  aired : (x : Aired) → Contains r.air x → t < x.stamp.time → ShowsTime script r t
  told : (k : ℕ) (l : Log) (e : TimedEntry) → slice_get r.nodes k ≡ Some l → Contains (journal_of l) e
      → t < e.stamp.time → ShowsTime script r t

abbrev pub ShownIsReached : Type 0
ShownIsReached = (d : Description) (script : Script) (ps : List Program) (how : RunEnd) (r : Report) (t : ℕ)
    → (of : IsWorldReport (source_world d script ps) how r) → ShowsTime script r t → HasReached (source_world d script ps) how of.moments t

-- The report of a right script without loss or suppression keeps the bound if it shows that its run reached the time: let line
-- i inject a version on node a, let b be `hops` hops away, and let the line be left alone for 3 * L a hop; then b's journal
-- installs the version by then, and the node holds it or a newer one ever after.
abbrev pub KeepsTheBound : Description → Script → List Program → Report → Type 0
KeepsTheBound d script ps r = IsOpenScript script → (i time a b hops : ℕ) (h : HandlerId) (version : ℕ)
    → InjectsOn script i time a h version → IsAway script.links a b hops
    → IsLeftAlone script i h (time + 3 * longest d.trickle * hops)
    → ShowsTime script r (time + 3 * longest d.trickle * hops)
    → IsSomeAnd (slice_get r.nodes b) (λ l. TellsInstallBy (source_world d script ps).machine h version
    (time + 3 * longest d.trickle * hops) (journal_of l))

abbrev pub ReportsShowTheBound : Type 0
ReportsShowTheBound = (d : Description) (script : Script) (ps : List Program) (how : RunEnd) (r : Report) → AreProgramsOfWorld d script ps
    → IsWorldReport (source_world d script ps) how r → KeepsTheBound d script ps r
