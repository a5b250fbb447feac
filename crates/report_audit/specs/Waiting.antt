-- The stores that runs of waiting invocations leave.
use Rattle.std.specs.Prelude.{Option, Some, None, if◌then◌else◌}
use Rattle.mate_num.specs.declared.store.Store.{Store}
use Rattle.mate_journal.specs.Machine.{Machine}
use Rattle.audit_rules.specs.Rerun.{run_on}
use Rattle.audit_rules.specs.Roll.{Seat, is_waiting}

-- that of one that waits, on the serial store
abbrev pub waiting_store : Machine → Store → Seat → Option Store
waiting_store m store s = if is_waiting s.invocation.phase then Some (run_on m store s.invocation).store else None
