use Rattle.std.proofs.Common.{◌≡◌, Ok, take}
use Rattle.mate_files.specs.Sink.{Puts}
use Rattle.world_state.specs.Reporting.{mote_logs}
use Rattle.world_laws.specs.EventText.{store_lines}
use Rattle.world_runs.proofs.pieces.write_stores.Given as goal

abbrev pub invariant-loop-mote : goal.invariant-loop-mote
invariant-loop-mote g l = record {
  node : l.node ≡ l.mote-index;
  puts : Puts {T = Unit {0}} (g.S.Sink.written l.fn.out) (g.S.Sink.faults l.fn.out) (g.S.Sink.written l.out) (g.S.Sink.faults l.out) (Ok tt) (store_lines l.desc 0 (mote_logs (take l.mote-index l.motes)));
}
