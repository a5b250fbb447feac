use Rattle.std.proofs.Common.{◌∙◌, Bool, ap}
use Rattle.std.specs.Prelude.{◌&&◌}
use Rattle.audit_rules.specs.Tests.{conflict_of}
use Rattle.audit_rules.specs.Views.{seat_in}
use Rattle.report_audit.proofs.waiting.holds_back.Goals as goal

pub returns-then-is_ahead : goal.returns-then-is_ahead
returns-then-is_ahead c =
    let images = c.args.trial.now.log.now.images in
    let conflict = conflict_of c.args.trial.now.desc.now (seat_in images c.args.queued.now).invocation.program (seat_in images c.args.other.now).invocation.program in
    c.conflict.ensures ∙ ap (λ (b : Bool). b && conflict) (c.if-is_ahead.ensures images)

pub returns-else-is_ahead : goal.returns-else-is_ahead
returns-else-is_ahead c =
    let images = c.args.trial.now.log.now.images in
    let conflict = conflict_of c.args.trial.now.desc.now (seat_in images c.args.queued.now).invocation.program (seat_in images c.args.other.now).invocation.program in
    c.if-is_ahead.false ∙ ap (λ (b : Bool). b && conflict) (c.if-is_ahead.ensures images)
