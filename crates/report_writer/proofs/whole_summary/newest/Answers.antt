use Rattle.std.proofs.Common.{List, ◌==◌, ap, ◌∙◌, arith}
use Rattle.std.specs.Prelude.{count_by}
use Rattle.std.proofs.lemmas.List.{take_all}
use Rattle.mate_journal.specs.Log.{Log}
use Rattle.report_writer.specs.Brief.{newest, last}
use Rattle.report_writer.specs.Counts.{holders_after}
use Rattle.report_writer.proofs.EntryCountLemmas.{newest-next, holders-next}
use Rattle.report_writer.proofs.whole_summary.newest.Goals as goal

pub loop-log-preserved : goal.loop-log-preserved
loop-log-preserved c =
    let h = c.args.handler.0 in
    let logs = c.args.logs.now in
    let i = c.loop-log.log-index in
    let log = c.log-item.result in
    let seen = c.versions_in-versions in
    let inv = c.loop-log.invariant in
    let after = c.holders_after-holders in record {
      version = newest-next h logs i log c.loop-log.version seen.result.newest c.loop-log-test.true c.log-item.is inv.version seen.ensures.newest;
      holders = holders-next h logs i log c.loop-log.version seen.result.newest c.loop-log.holders after.result c.loop-log-test.true c.log-item.is inv.version seen.ensures.newest inv.holders
          (after.ensures.value ∙ ap (holders_after c.loop-log.version c.loop-log.holders seen.result.newest) seen.ensures.last);
      within = omega (arith, after.ensures.most, inv.within);
    }

pub returns-clause-version : goal.returns-clause-version
returns-clause-version c = c.loop-log.invariant.version ∙ ap (newest c.args.handler.0) (take_all c.loop-log.log-index c.args.logs.now c.loop-log-test.false)

pub returns-clause-holders : goal.returns-clause-holders
returns-clause-holders c =
    c.loop-log.invariant.holders
    ∙ ap (λ (logs : List Log). count_by (λ (l : Log). last c.args.handler.0 l == newest c.args.handler.0 logs) logs) (take_all c.loop-log.log-index c.args.logs.now c.loop-log-test.false)
