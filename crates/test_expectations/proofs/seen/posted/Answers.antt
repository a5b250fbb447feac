use Rattle.std.proofs.Common.{[]}
use Rattle.mate_journal.specs.declared.entry.Stamped.{Stamped}
use Rattle.test_expectations.specs.Patterns.{post_handler}
use Rattle.test_expectations.proofs.StepLemmas.{collected-next}
use Rattle.test_expectations.proofs.seen.posted.Goals as goal

pub loop-stamped-preserved : goal.loop-stamped-preserved
loop-stamped-preserved c =
    collected-next (λ (e : Stamped). post_handler e.entry) [] c.args.entries.now c.loop-stamped.stamped-index c.stamped-item.result
    c.post_handler.result c.loop-stamped.posts.items c.push_some.new.items.items c.loop-stamped-test.true c.stamped-item.is
    c.post_handler.ensures c.loop-stamped.invariant c.in_ok-push_some.ensures
