use Rattle.std.proofs.Common.{◌≡◌, true, map, take}
use Rattle.std.specs.Prelude.{◌||◌, not}
use Rattle.std.specs.List.{list_all}
use Rattle.mate_journal.specs.Journal.{is_started}
use Rattle.audit_rules.specs.Rerun.{is_so_far}
use Rattle.audit_rules.specs.Views.{seat_in}
use Rattle.audit_programs.specs.Kept.{AreKept}
use Rattle.audit_programs.specs.Trials.{machine_for}
use Rattle.report_audit.proofs.rerun.all_so_far.Given as goal

abbrev pub invariant-loop-seat : goal.invariant-loop-seat
invariant-loop-seat l = record {
  all : list_all (λ s. not (is_started s.invocation.phase) || is_so_far (machine_for l.trial) l.store s.invocation) (take l.seat-index (map (seat_in l.trial.log.now.images) l.roll.roll.seats.items)) ≡ true;
  runs : AreKept l.trial.desc.now l.runs;
}
