use Rattle.std.proofs.Common.{◌≡◌, ◌<◌, List, length, get_or, ap, ◌∙◌, arith}
use Rattle.mate_journal.specs.declared.entry.Stamped.{Stamped}
use Rattle.test_expectations.specs.Shown.{live_after}
use Rattle.test_expectations.proofs.StepLemmas.{fold-next}
use Rattle.test_expectations.proofs.shown.is_at_rest.Goals as goal

pub loop-stamped-preserved : goal.loop-stamped-preserved
loop-stamped-preserved c =
    let entries = c.args.log.now.entries in
    let item = c.stamped-item.result in
    let i = c.loop-stamped.stamped-index in
    let within : i < length entries = omega (arith, c.loop-stamped-test.true, ap length c.entries-stamped-items.ensures) in
    let is : item ≡ get_or entries i item = c.stamped-item.is ∙ ap (λ (es : List Stamped). get_or es i item) c.entries-stamped-items.ensures in record {
      value = fold-next (λ n e. live_after n e.entry) 0 entries i item c.loop-stamped.live c.live_after-live.result within is
          c.loop-stamped.invariant.value c.live_after-live.ensures.value;
      few = omega (arith, c.live_after-live.ensures.most, c.loop-stamped.invariant.few);
    }
