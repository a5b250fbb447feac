use Rattle.std.proofs.Common.{◌≡◌, false, map, take}
use Rattle.std.specs.List.{list_any}
use Rattle.audit_rules.specs.Shown.{writes_at}
use Rattle.audit_rules.specs.Views.{seat_in}
use Rattle.audit_programs.specs.Trials.{machine_for}
use Rattle.report_audit.proofs.showing.is_written.Given as goal

abbrev pub invariant-loop-seat : goal.invariant-loop-seat
invariant-loop-seat l = list_any (writes_at (machine_for l.trial) l.at) (take l.seat-index (map (seat_in l.trial.log.now.images) l.roll.roll.seats.items)) ≡ false
