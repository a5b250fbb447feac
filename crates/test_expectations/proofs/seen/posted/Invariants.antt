use Rattle.std.proofs.Common.{◌≡◌, take}
use Rattle.std.specs.Prelude.{filter_map}
use Rattle.test_expectations.specs.Patterns.{post_handler}
use Rattle.test_expectations.proofs.seen.posted.Given as goal

abbrev pub invariant-loop-stamped : goal.invariant-loop-stamped
invariant-loop-stamped l = l.posts.items ≡ filter_map (λ e. post_handler e.entry) (take l.stamped-index l.entries)
