-- What the nodes of a world tell keeps each law.
use Rattle.std.proofs.Common.{◌≡◌, ◌<◌, ℕ, List, ◌∷◌, Option, Some, None, subst}
use Rattle.std.specs.Prelude.{IfSome, IsSomeAnd, slice_get}
use Rattle.vm_shape.specs.declared.description.Description.{Description}
use Rattle.mate_journal.specs.Journal.{TimedEntry, first_state, journal_of, AtEachEntry}
use Rattle.mate_journal.specs.Log.{Log}
use Rattle.mate_journal.specs.Machine.{HeldProgram}
use Rattle.mate_journal.specs.NodeScript.{RunEnd}
use Rattle.mate_journal.specs.declared.program.Program.{Program}
use Rattle.mate_journal.specs.declared.report.Report.{Report}
use Rattle.node_programs.specs.WorldPrograms.{AreProgramsOfWorld}
use Rattle.script_steps.specs.declared.world.World.{World as Script}
use Rattle.world_rules.specs.World.{World}
use Rattle.world_rules.specs.Effect.{Installing}
use Rattle.world_rules.specs.State.{Moment, effect_at, state}
use Rattle.world_rules.specs.Run.{HaveCome, IsJournalOf, journal}
use Rattle.world_rules.specs.Report.{IsLogOf, IsWorldReport}
use Rattle.world_laws.proofs.JournalRules.{journal-along}
use Rattle.world_run_laws.specs.SourceWorld.{source_world}
use Rattle.audit_rules.specs.Laws.{IsOneOf, InstallsProgram}
use Rattle.audit_rules.specs.Verdicts.{LogKeepsAll, IsVerdict}
use Rattle.mate_journal.specs.declared.law.Verdict.TheVariants.{Serial}
use Rattle.command_laws.proofs.Told.{none-rule, keeps-all}
use Rattle.command_laws.proofs.Programs.{event-installs}

-- ---- journals

-- what events install is one of the programs
abbrev EventsInstall : List Program → World → Type 0
EventsInstall ps w = (m : Moment) (before : List Moment) (p : HeldProgram) → HaveCome w (m ∷ before) → (effect_at w (state w before) m).deed ≡ Installing p → IsOneOf ps p

journal-right : (ps : List Program) (w : World) (how : RunEnd) (ms : List Moment) (k : ℕ) (es : List TimedEntry) → EventsInstall ps w → HaveCome w ms → IsJournalOf w how ms k es → AtEachEntry (InstallsProgram ps) w.machine (first_state w.machine) es
journal-right ps w how ms k es one come of =
    journal-along (InstallsProgram ps) (none-rule ps) w how ms k es (λ m before come p r deed newer. (one m before p come deed, newer)) come of

-- ---- the report

log-keeps : (d : Description) (script : Script) (ps : List Program) (how : RunEnd) (ms : List Moment) (k : ℕ) (l : Log) → AreProgramsOfWorld d script ps → HaveCome (source_world d script ps) ms
    → IsLogOf (source_world d script ps) how ms k l → LogKeepsAll d ps l
log-keeps d script ps how ms k l right come of =
    keeps-all d ps l of.right.well_formed (journal-right ps (source_world d script ps) how ms k (journal_of l) (event-installs d script ps right) come of.journal)
    of.right.serial of.right.stores of.right.grants of.right.devices

if-some : {A : Type 0} (P Q : A → Type 0) (o : Option A) → ((x : A) → P x → Q x) → IsSomeAnd o P → IfSome o Q
if-some P Q None each some = tt
if-some P Q (Some x) each some = each x some

pub world-serial : (d : Description) (script : Script) (ps : List Program) (how : RunEnd) (r : Report) → AreProgramsOfWorld d script ps → IsWorldReport (source_world d script ps) how r → IsVerdict d ps r Serial
world-serial d script ps how r right of k low =
    if-some (IsLogOf (source_world d script ps) how of.moments k) (LogKeepsAll d ps) (slice_get r.nodes k) (λ l is. log-keeps d script ps how of.moments k l right of.come is)
    (of.logs k (subst (λ (n : ℕ). k < n) of.nodes low))
