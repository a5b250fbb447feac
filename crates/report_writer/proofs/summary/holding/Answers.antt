use Rattle.std.proofs.Common.{◌==◌, count_by, ap, ◌∙◌, arith}
use Rattle.std.proofs.lemmas.List.{take_all}
use Rattle.report_writer.specs.Tally.{versions_at}
use Rattle.report_writer.specs.Brief.{one_if}
use Rattle.report_writer.specs.declared.tally.LogTally.{LogTally}
use Rattle.report_writer.proofs.CountLemmas.{count-next}
use Rattle.report_writer.proofs.summary.holding.Goals as goal

pub loop-tally-preserved : goal.loop-tally-preserved
loop-tally-preserved c =
    let h = c.args.handler.0 in
    let next = count-next (λ (t : LogTally). (versions_at h t.versions.items).last == c.args.version) c.args.nodes.now c.loop-tally.tally-index c.tally-item.result c.loop-tally-test.true c.tally-item.is in
    let found = c.one_if-count.ensures.value ∙ ap (λ v. one_if (v.last == c.args.version)) c.versions_at-found.ensures in record {
      value = omega (arith, next, found, c.loop-tally.invariant.value);
      most = omega (arith, c.one_if-count.ensures.most, c.loop-tally.invariant.most);
    }

pub returns : goal.returns
returns c =
    c.loop-tally.invariant.value
    ∙ ap (count_by (λ (t : LogTally). (versions_at c.args.handler.0 t.versions.items).last == c.args.version)) (take_all c.loop-tally.tally-index c.args.nodes.now c.loop-tally-test.false)
