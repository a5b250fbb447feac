use Rattle.std.proofs.Common.{take}
use Rattle.report_writer.proofs.TallyLemmas.{counted-kept}
use Rattle.world_runs.proofs.counting.count_kept.Goals as goal

pub returns : goal.returns
returns c =
    let m = c.args.mote.now in
    record {
      tallies = λ n is.
          counted-kept n (record { all = m.node.log; gone = m.node.gone }) c.kept.result.now c.add_all.new.self c.entries.result.now c.entries.ensures c.kept.ensures.kept
          (c.add_all.ensures.tallies n (take m.node.gone.entries m.node.log.entries) is);
      up = c.add_all.ensures.up;
    }
