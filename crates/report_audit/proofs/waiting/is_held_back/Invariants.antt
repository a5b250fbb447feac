use Rattle.std.proofs.Common.{◌≡◌, false, map, take}
use Rattle.std.specs.List.{list_any}
use Rattle.audit_rules.specs.Granting.{holds_back}
use Rattle.audit_rules.specs.Tests.{conflict_of}
use Rattle.audit_rules.specs.Views.{seat_in}
use Rattle.report_audit.proofs.waiting.is_held_back.Given as goal

abbrev pub invariant-loop-other : goal.invariant-loop-other
invariant-loop-other l =
    list_any (holds_back (conflict_of l.trial.desc.now) (seat_in l.trial.log.now.images l.queued)) (take l.other-index (map (seat_in l.trial.log.now.images) l.roll.roll.seats.items)) ≡ false
