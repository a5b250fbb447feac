use Rattle.std.proofs.Common.{◌≡◌, true, map, take}
use Rattle.std.specs.Prelude.{◌||◌, not}
use Rattle.std.specs.List.{list_all}
use Rattle.audit_rules.specs.Granting.{is_held_back}
use Rattle.audit_rules.specs.Roll.{is_queued}
use Rattle.audit_rules.specs.Tests.{conflict_of}
use Rattle.audit_rules.specs.Views.{seat_in, roll_in}
use Rattle.report_audit.proofs.waiting.all_held_back.Given as goal

abbrev pub invariant-loop-seat : goal.invariant-loop-seat
invariant-loop-seat l =
    list_all (λ s. not (is_queued s.invocation.phase) || is_held_back (conflict_of l.trial.desc.now) (roll_in l.trial.log.now.images l.roll.roll) s)
    (take l.seat-index (map (seat_in l.trial.log.now.images) l.roll.roll.seats.items)) ≡ true
