use Rattle.std.proofs.Common.{◌≡◌, take}
use Rattle.std.specs.Prelude.{fold, filter_map}
use Rattle.test_expectations.specs.Shown.{place_holds, shown_by, with_next, at_first}
use Rattle.test_expectations.proofs.shown.log_shows.Given as goal

abbrev pub invariant-loop-stamped : goal.invariant-loop-stamped
invariant-loop-stamped l =
    l.held ≡ fold (λ before s. with_next l.when before (place_holds l.place s)) (at_first l.when)
    (filter_map (shown_by l.by l.log.stores) (take l.stamped-index l.log.entries))
