use Rattle.std.proofs.Common.{◌≡◌, ◌++◌, length, drop, All}
use Rattle.vm_shape.specs.declared.description.Description.{Description}
use Rattle.node_state.specs.Meaning.{machine_in}
use Rattle.node_open.specs.Journal.{KeepsJournal}
use Rattle.world_state.specs.Reporting.{mote_logs, AreOfMachine}
use Rattle.world_state.proofs.report.logs_in.Given as goal

abbrev pub invariant-loop-mote : goal.invariant-loop-mote
invariant-loop-mote l = record {
  next : (goal.iterator-loop-mote).can_next l.mote-iterator;
  finite : (goal.iterator-loop-mote).is_finite l.mote-iterator;
  number : l.number ≡ length l.yielded;
  put : l.logs ≡ mote_logs l.yielded ++ drop (length l.yielded) l.initial.logs;
  keeps : (d : Description) → AreOfMachine d l.yielded → All (KeepsJournal d (machine_in d)) (mote_logs l.yielded);
}
