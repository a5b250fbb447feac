use Rattle.std.proofs.Common.{◌≡◌, List}
use Rattle.mate_journal.specs.declared.program.Program.{Program}
use Rattle.world_run_laws.specs.Coming.{code_world}
use Rattle.world_state.specs.Starting.{HaveBegun}
use Rattle.world_state.proofs.simulation.begin_motes.Given as goal

abbrev pub invariant-loop-node : goal.invariant-loop-node
invariant-loop-node l = record {
  begun : (ps : List Program) → HaveBegun (code_world l.machine l.world ps) l.node l.initial.radio l.radio l.motes.items;
  now : l.radio.agenda.now ≡ 0;
}
