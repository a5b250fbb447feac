use Rattle.std.proofs.Common.{◌≡◌, true, map, take, drop}
use Rattle.std.specs.Prelude.{unwrap_or, IfSome}
use Rattle.std.specs.List.{list_all}
use Rattle.audit_rules.specs.Rerun.{ends_right, store_left}
use Rattle.audit_rules.specs.Shown.{HasLengthsOf}
use Rattle.audit_rules.specs.Tests.{conflict_of}
use Rattle.audit_rules.specs.Views.{seat_in, roll_in}
use Rattle.audit_programs.specs.Kept.{AreKept}
use Rattle.audit_programs.specs.Trials.{machine_for}
use Rattle.report_audit.proofs.ending.run_end.Given as goal

abbrev pub invariant-loop-seat : goal.invariant-loop-seat
invariant-loop-seat l = record {
  all : list_all (ends_right (machine_for l.trial) (conflict_of l.trial.desc.now) (roll_in l.trial.log.now.images l.roll.roll) l.store l.number l.how)
      (take l.seat-index (map (seat_in l.trial.log.now.images) l.roll.roll.seats.items)) ≡ true;
  left : store_left (machine_for l.trial) l.store l.number (map (seat_in l.trial.log.now.images) l.roll.roll.seats.items)
      ≡ unwrap_or l.left (store_left (machine_for l.trial) l.store l.number (drop l.seat-index (map (seat_in l.trial.log.now.images) l.roll.roll.seats.items)));
  lengths : IfSome l.left (HasLengthsOf (machine_for l.trial));
  runs : AreKept l.trial.desc.now l.runs;
}
