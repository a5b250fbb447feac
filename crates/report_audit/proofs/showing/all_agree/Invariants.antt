use Rattle.std.proofs.Common.{◌≡◌, true, map, take}
use Rattle.std.specs.List.{list_all}
use Rattle.audit_rules.specs.Shown.{agrees_at}
use Rattle.audit_rules.specs.Views.{seat_in}
use Rattle.audit_programs.specs.Trials.{machine_for}
use Rattle.report_audit.proofs.showing.all_agree.Given as goal

abbrev pub invariant-loop-i : goal.invariant-loop-i
invariant-loop-i l = list_all (agrees_at (machine_for l.trial) l.store l.seen l.at) (take l.i (map (seat_in l.trial.log.now.images) l.roll.roll.seats.items)) ≡ true
