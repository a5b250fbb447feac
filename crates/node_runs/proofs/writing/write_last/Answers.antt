use Rattle.std.proofs.Common.{ℕ, List, subst, ap}
use Rattle.mate_files.specs.Sink.{Puts}
use Rattle.node_runs.proofs.WrittenLemmas.{last_line-one}
use Rattle.node_runs.proofs.writing.write_last.Goals as goal

pub returns : goal.returns
returns g c = record {
  put = c.write_end-put.result;
  puts =
      subst (λ (bs : List ℕ). Puts (g.S.Sink.written c.args.out.now) (g.S.Sink.faults c.args.out.now) (g.S.Sink.written c.write_end-put.new.out) (g.S.Sink.faults c.write_end-put.new.out) c.write_end-put.result bs)
      (last_line-one c.args.node.now.log c.told.result c.args.events c.args.whole c.told.ensures.count) c.write_end-put.ensures;
  is = ap (λ result. record { events = c.args.events; whole = c.args.whole; result = result }) c.ended.ensures;
}
