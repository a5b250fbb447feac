use Rattle.std.proofs.Common.{◌≡◌, true, map, take}
use Rattle.std.specs.List.{list_all}
use Rattle.audit_rules.specs.Rerun.{is_undisturbed}
use Rattle.audit_rules.specs.Tests.{conflict_of}
use Rattle.audit_rules.specs.Views.{seat_in}
use Rattle.audit_programs.specs.Kept.{AreKept}
use Rattle.audit_programs.specs.Trials.{machine_for}
use Rattle.report_audit.proofs.ending.all_undisturbed.Given as goal

abbrev pub invariant-loop-seat : goal.invariant-loop-seat
invariant-loop-seat l = record {
  all : list_all (is_undisturbed (machine_for l.trial) (conflict_of l.trial.desc.now) l.stores.before.now l.stores.after.now l.ended.number (seat_in l.trial.log.now.images l.ended).invocation)
      (take l.seat-index (map (seat_in l.trial.log.now.images) l.roll.roll.seats.items)) ≡ true;
  runs : AreKept l.trial.desc.now l.runs;
}
