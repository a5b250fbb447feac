use Rattle.std.proofs.Common.{◌++◌, ◌+◌, ap, ◌∙◌, arith}
use Rattle.std.specs.Option.{option_to_list}
use Rattle.test_expectations.specs.Sightings.{by_number, entry_sightings}
use Rattle.test_expectations.proofs.SightingLemmas.{by_number-next, by_number-all}
use Rattle.test_expectations.proofs.seen.add_entries.Goals as goal

pub loop-at-preserved : goal.loop-at-preserved
loop-at-preserved c =
    by_number-next (entry_sightings c.args.pattern.now c.args.posts.now c.args.node) c.args.entries.now c.loop-at.at (c.loop-at.at + 1)
    c.index-entries-at.result c.loop-at.seen.items c.push_some.new.items.items
    (c.args.seen.now.items ++ by_number (entry_sightings c.args.pattern.now c.args.posts.now c.args.node) 1 c.args.entries.now)
    (omega (arith, c.loop-at-test.true)) c.index-entries-at.is c.loop-at.invariant
    (c.in_ok-push_some.ensures ∙ ap (λ o. c.loop-at.seen.items ++ option_to_list o) c.entry_sighting-sighting.ensures)

pub returns : goal.returns
returns c =
    by_number-all (entry_sightings c.args.pattern.now c.args.posts.now c.args.node) c.args.entries.now c.loop-at.at (c.loop-at.at + 1)
    c.loop-at.seen.items
    (c.args.seen.now.items ++ by_number (entry_sightings c.args.pattern.now c.args.posts.now c.args.node) 1 c.args.entries.now)
    (omega (arith, c.loop-at-test.false)) c.loop-at.invariant
