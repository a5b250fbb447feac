use Rattle.std.proofs.Common.{subst}
use Rattle.std.specs.Prelude.{All}
use Rattle.std.proofs.lemmas.List.{take_all}
use Rattle.std.proofs.lemmas.List.Elements.{All-more}
use Rattle.mate_journal.specs.Ranges.{HasLogRanges}
use Rattle.journal_laws.proofs.ranges.logs_are_in_range.Goals as goal

pub loop-log-preserved : goal.loop-log-preserved
loop-log-preserved c =
    All-more HasLogRanges c.args.logs.now c.loop-log.log-index c.log-item.result c.loop-log-test.true c.loop-log.invariant (subst HasLogRanges c.log-item.is c.log_is_in_range.ensures)

pub returns : goal.returns
returns c = subst (All HasLogRanges) (take_all c.loop-log.log-index c.args.logs.now c.loop-log-test.false) c.loop-log.invariant
