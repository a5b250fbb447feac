-- Where an invocation stands, in memory and in what it stands for.
use Rattle.std.proofs.Common.{◌≡◌, refl}
use Rattle.std.specs.Prelude.{not}
use Rattle.mate_journal.specs.Journal.{is_started}
use Rattle.audit_rules.specs.Roll.{is_queued, is_waiting}
use Rattle.audit_rules.specs.Views.{stands_at, phase_in}
use Rattle.audit_rules.specs.declared.phase.Phase.{Phase}
use Rattle.audit_rules.specs.declared.phase.Phase.TheVariants as phase
use Rattle.audit_rules.specs.declared.phase.Stage.TheVariants as stage

pub queued-is : (p : Phase) → is_queued (phase_in p) ≡ stands_at stage.Queued p
queued-is phase.Queued = refl
queued-is _ = refl

pub started-is : (p : Phase) → is_started (phase_in p) ≡ not (stands_at stage.Queued p)
started-is phase.Queued = refl
started-is _ = refl

pub waiting-is : (p : Phase) → is_waiting (phase_in p) ≡ stands_at stage.Waiting p
waiting-is phase.Queued = refl
waiting-is _ = refl
