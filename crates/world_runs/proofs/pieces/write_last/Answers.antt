use Rattle.std.proofs.Common.{List, length, sym, ap, subst, arith}
use Rattle.report_writer.specs.Writing.{PutsLastLine}
use Rattle.world_state.specs.declared.mote.Mote.{Mote}
use Rattle.world_runs.specs.Writing.{report_of}
use Rattle.world_runs.proofs.pieces.write_last.Goals as goal

pub end_with-requires : goal.end_with-requires
end_with-requires g c =
    let few = c.requires in
    let long = ap (λ (ms : List Mote). length ms) c.as_slice.ensures.value in
    omega (arith, few, long)

pub returns : goal.returns
returns g c =
    subst (λ (ms : List Mote). PutsLastLine (report_of ms c.args.sim.now.radio.air c.args.events c.args.whole) (g.S.Sink.written c.args.out.now) (g.S.Sink.faults c.args.out.now) (g.S.Sink.written c.end_with.new.out) (g.S.Sink.faults c.end_with.new.out) c.end_with.result)
    c.as_slice.ensures.value (c.end_with.ensures c.args.sim.now.radio.air (sym c.aired.ensures))
