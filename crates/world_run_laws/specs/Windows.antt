-- How versions pass over the hops of a world, by what its report shows.
use Rattle.std.specs.Prelude.{◌≡◌, ◌≢◌, ℕ, ◌+◌, ◌*◌, ◌^◌, ◌<◌, ◌≤◌, false, List, ◌⊎◌, Some, slice_get, IsSomeAnd}
use Rattle.arrayvec.specs.ArrayVec.{ArrayVec}
use Rattle.mate_num.specs.Lists.{Among}
use Rattle.mate_num.specs.declared.call.Stamp.{Stamp}
use Rattle.mate_num.specs.declared.id.HandlerId.{HandlerId}
use Rattle.vm_shape.specs.declared.description.Description.{Description}
use Rattle.vm_shape.specs.Limits.{longest}
use Rattle.mate_journal.specs.Machine.{HeldProgram}
use Rattle.mate_journal.specs.Journal.{JournalEntry, Installed, Reset, journal_of}
use Rattle.mate_journal.specs.NodeScript.{RunEnd}
use Rattle.mate_journal.specs.declared.air.Air.{Air}
use Rattle.mate_journal.specs.declared.air.Air.TheVariants as air
use Rattle.mate_journal.specs.declared.program.Program.{Program}
use Rattle.mate_journal.specs.declared.report.Report.{Report}
use Rattle.packet_codec.specs.Bytes.{packet_bytes}
use Rattle.packet_codec.specs.declared.packet.Packet.{Packet}
use Rattle.packet_codec.specs.declared.packet.Packet.TheVariants.{Vector}
use Rattle.capsule_exchange.specs.Happenings.{version_in}
use Rattle.script_steps.specs.declared.world.Planned.{Planned}
use Rattle.script_steps.specs.declared.world.What.TheVariants as what
use Rattle.script_steps.specs.declared.world.World.{World as Script}
use Rattle.world_rules.specs.Report.{IsWorldReport}
use Rattle.world_laws.specs.Hops.{HasLink, IsAway}
use Rattle.world_laws.specs.Premises.{IsOpenScript}
use Rattle.node_programs.specs.WorldPrograms.{AreProgramsOfWorld}
use Rattle.world_run_laws.specs.SourceWorld.{source_world}
use Rattle.world_run_laws.specs.Bound.{InjectsOn, IsLeftAlone, ShowsTime}

-- the node's journal has this entry; it did this on the air; it sent this packet
abbrev pub HasTold : Report → ℕ → Stamp → JournalEntry → Type 0
HasTold r k at t = IsSomeAnd (slice_get r.nodes k) (λ l. Among (record { stamp = at; told = t }) (journal_of l))

abbrev pub HasAired : Report → ℕ → Stamp → Air → Type 0
HasAired r k at a = Among (record { stamp = at; node = k; air = a }) r.air

abbrev pub HasSent : Description → Report → ℕ → Stamp → ℕ → Packet → Type 0
HasSent d r k at number packet = HasAired r k at (air.Sent number (record { items = packet_bytes d.vm_id packet }))

-- after one time, and at another at the latest
abbrev pub FallsBetween : ℕ → ℕ → Stamp → Type 0
FallsBetween start by at = (start < at.time) × (at.time ≤ by)

-- by this time the node installed this version of the handler, or a newer one
pub record HasInstalled (r : Report) (k : ℕ) (h : HandlerId) (version by : ℕ) : Type 0 where
  pub at : Stamp
  pub program : HeldProgram
  pub told : HasTold r k at (Installed program)
  pub handler : program.handler ≡ h
  pub at_least : version ≤ program.version
  pub in_time : at.time ≤ by

-- the node got a packet that names this version of the handler, a number of 32 bits
pub record HearsOf (d : Description) (r : Report) (k : ℕ) (h : HandlerId) (version : ℕ) (at : Stamp) : Type 0 where
  pub number : ℕ
  pub from : ℕ
  pub got : HasAired r k at (air.Got number from)
  pub sent_at : Stamp
  pub packet : Packet
  pub sent : HasSent d r from sent_at number packet
  pub names : version_in h.0 packet ≡ version
  pub fits : version < 2 ^ 32

-- the node sent a Vector after this time, and one longest interval before the other at the latest
pub record Speaks (d : Description) (r : Report) (k start by : ℕ) : Type 0 where
  pub at : Stamp
  pub number : ℕ
  pub versions : ArrayVec ℕ
  pub sent : HasSent d r k at number (Vector versions)
  pub after : start < at.time
  pub in_time : at.time + longest d.trickle ≤ by

-- A window of the hop from a to b, after one time and up to another. In it neither is reset, a doesn't install the handler, and
-- no packet between them is lost. Whatever version b heard of up to its end, a installed that or a newer one by its start,
-- unless a reset of b by then forgot it. And a sends a Vector in time, or suppression is off and it lasts three longest intervals.
pub record ShowsWindow (d : Description) (script : Script) (r : Report) (h : HandlerId) (a b start by : ℕ) : Type 0 where
  pub there : HasLink script.links a b
  pub back : HasLink script.links b a
  pub no_reset : (k : ℕ) (at : Stamp) → (k ≡ a) ⊎ (k ≡ b) → FallsBetween start by at → HasTold r k at Reset → ⊥
  pub no_install : (at : Stamp) (p : HeldProgram) → p.handler ≡ h → FallsBetween start by at → HasTold r a at (Installed p) → ⊥
  pub no_loss : (at : Stamp) (number : ℕ) → FallsBetween start by at
      → (HasAired r a at (air.Lost number b) → ⊥) × (HasAired r b at (air.Lost number a) → ⊥)
  pub none_newer : (at : Stamp) (version : ℕ) → at.time ≤ by → HearsOf d r b h version at
      → HasInstalled r a h version start ⊎ ((again : Stamp) × FallsBetween at.time start again × HasTold r b again Reset)
  pub heard : ((script.suppress ≡ false) × (start + 3 * longest d.trickle ≤ by)) ⊎ Speaks d r a start by

-- A window of the hop from a to b that the script promises, before any run: suppression is off, the links between them lose
-- nothing, no line resets either in it, and it lasts three longest intervals. Whatever a line injects for the handler up to its
-- end, a installed that or a newer one by its start.
pub record PromisesWindow (d : Description) (script : Script) (r : Report) (h : HandlerId) (a b start by : ℕ) : Type 0 where
  pub there : (l : HasLink script.links a b) × (l.link.loss ≡ 0)
  pub back : (l : HasLink script.links b a) × (l.link.loss ≡ 0)
  pub loud : script.suppress ≡ false
  pub no_reset : (j : ℕ) (l : Planned) → slice_get script.events j ≡ Some l → (l.node ≡ a) ⊎ (l.node ≡ b) → start < l.time → l.time ≤ by
      → l.what ≢ what.Reset
  pub none_newer : (j time node version : ℕ) → InjectsOn script j time node h version → time ≤ by → HasInstalled r a h version start
  pub lasts : start + 3 * longest d.trickle ≤ by

-- A version reaches a node by a time: the node installed it, or something newer; or it reached a neighbour before, and then there
-- was a window of the hop from there, which ends at this time.
pub data PassesTo (d : Description) (script : Script) (r : Report) (h : HandlerId) (version : ℕ) : ℕ → ℕ → Type 0 where
  at_home : {k t : ℕ} → HasInstalled r k h version t → PassesTo d script r h version k t
  over_hop : {a b t start by : ℕ} → PassesTo d script r h version a t → t ≤ start
      → ShowsWindow d script r h a b start by ⊎ PromisesWindow d script r h a b start by → PassesTo d script r h version b by

-- What reaches a node, over any path of windows, the node installed by then, or something newer, if the run reached that time.
abbrev pub KeepsTheWindows : Description → Script → Report → Type 0
KeepsTheWindows d script r = (h : HandlerId) (version k t : ℕ) → PassesTo d script r h version k t → ShowsTime script r t
    → HasInstalled r k h version t

abbrev pub ReportsKeepTheWindows : Type 0
ReportsKeepTheWindows = (d : Description) (script : Script) (ps : List Program) (how : RunEnd) (r : Report) → AreProgramsOfWorld d script ps
    → IsWorldReport (source_world d script ps) how r → KeepsTheWindows d script r

-- Without suppression and loss this is the hop bound: the script promises each window of a path from the node of an injection, if
-- its line is left alone.
abbrev pub LosslessIsPromised : Type 0
LosslessIsPromised = (d : Description) (script : Script) (ps : List Program) (r : Report) (i time a b hops : ℕ) (h : HandlerId) (version : ℕ)
    → AreProgramsOfWorld d script ps → KeepsTheWindows d script r → IsOpenScript script → InjectsOn script i time a h version
    → HasInstalled r a h version time → IsAway script.links a b hops → IsLeftAlone script i h (time + 3 * longest d.trickle * hops)
    → ShowsTime script r (time + 3 * longest d.trickle * hops) → HasInstalled r b h version (time + 3 * longest d.trickle * hops)
