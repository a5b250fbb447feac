use Rattle.std.proofs.Common.{length, ap, arith}
use Rattle.std.proofs.lemmas.List.Sums.{sum_by_more}
use Rattle.mate_journal.specs.Log.{Log}
use Rattle.report_writer.proofs.counts.count_entries.Goals as goal

pub loop-log-preserved : goal.loop-log-preserved
loop-log-preserved c =
    let more = sum_by_more (λ (x : Log). length x.entries) c.args.logs.now c.loop-log.log-index c.log-item.result c.loop-log-test.true in
    let item = ap (λ (x : Log). length x.entries) c.log-item.is in
    let entries = ap length c.entries.ensures in
    let size = c.entries.type_inv.1 in record {
      value = omega (arith, more, item, entries, c.loop-log.invariant.value);
      fits = omega (arith, size, c.loop-log.invariant.fits);
    }
