use Rattle.std.proofs.Common.{◌≡◌, map, take}
use Rattle.audit_rules.specs.Views.{seat_in}
use Rattle.audit_programs.specs.Kept.{AreKept}
use Rattle.audit_programs.specs.Trials.{machine_for}
use Rattle.report_audit.specs.Waiting.{waiting_store}
use Rattle.report_audit.proofs.showing.waiting_stores.Given as goal

abbrev pub invariant-loop-seat : goal.invariant-loop-seat
invariant-loop-seat l = record {
  stores : l.stores.items ≡ map (waiting_store (machine_for l.trial) l.store) (take l.seat-index (map (seat_in l.trial.log.now.images) l.roll.roll.seats.items));
  runs : AreKept l.trial.desc.now l.runs;
}
