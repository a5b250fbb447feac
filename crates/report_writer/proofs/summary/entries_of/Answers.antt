use Rattle.std.proofs.Common.{ap, arith}
use Rattle.std.proofs.lemmas.List.Sums.{sum_by_more}
use Rattle.report_writer.specs.Tally.{entries_counted}
use Rattle.report_writer.specs.declared.tally.LogTally.{LogTally}
use Rattle.report_writer.proofs.summary.entries_of.Goals as goal

pub overflow_add-count : goal.overflow_add-count
overflow_add-count c =
    let up = (c.requires.each c.loop-tally.tally-index c.tally-item.result c.loop-tally-test.true).counts c.args.kind in
    let item = ap (λ (t : LogTally). entries_counted c.args.kind t.counts) c.tally-item.is in
    let few = c.requires.count in
    let below = c.loop-tally-test.true in
    omega (arith, up, item, few, below, c.of-count.ensures, c.loop-tally.invariant.fits)

pub loop-tally-preserved : goal.loop-tally-preserved
loop-tally-preserved c =
    let up = (c.requires.each c.loop-tally.tally-index c.tally-item.result c.loop-tally-test.true).counts c.args.kind in
    let more = sum_by_more (λ (t : LogTally). entries_counted c.args.kind t.counts) c.args.nodes.now c.loop-tally.tally-index c.tally-item.result c.loop-tally-test.true in
    let item = ap (λ (t : LogTally). entries_counted c.args.kind t.counts) c.tally-item.is in record {
      value = omega (arith, more, item, c.of-count.ensures, c.loop-tally.invariant.value);
      fits = omega (arith, up, item, c.of-count.ensures, c.loop-tally.invariant.fits);
    }
