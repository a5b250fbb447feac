use Rattle.std.proofs.Common.{◌≡◌, ◌<◌, List, length, get_or, ap, ◌∙◌, arith}
use Rattle.mate_journal.specs.declared.entry.Stamped.{Stamped}
use Rattle.std.specs.Option.{option_copied}
use Rattle.test_expectations.specs.Shown.{place_holds, shown_by, with_next, at_first}
use Rattle.test_expectations.proofs.StepLemmas.{folded-next}
use Rattle.test_expectations.proofs.shown.log_shows.Goals as goal

pub loop-stamped-preserved : goal.loop-stamped-preserved
loop-stamped-preserved c =
    let entries = c.args.log.now.entries in
    let item = c.stamped-item.result in
    let i = c.loop-stamped.stamped-index in
    let within : i < length entries = omega (arith, c.loop-stamped-test.true, ap length c.entries-stamped-items.ensures) in
    let is : item ≡ get_or entries i item = c.stamped-item.is ∙ ap (λ (es : List Stamped). get_or es i item) c.entries-stamped-items.ensures in
    folded-next (λ before s. with_next c.args.when before (place_holds c.args.place.now s)) (at_first c.args.when) (shown_by c.args.by c.args.log.now.stores)
    entries i item (option_copied c.shown_by.result) c.loop-stamped.held c.held_after-held.result within is c.shown_by.ensures c.loop-stamped.invariant c.held_after-held.ensures
