use Rattle.std.proofs.Common.{rules, ◌≡◌, Ok}
use Rattle.ts_trees.specs.Seen.{source_seen}
use Rattle.ts_checked.specs.TreeOf.{block_tree}
use Rattle.ts_checker.specs.Checks.{checked_source}
use Rattle.ts_checker.proofs.RightLemmas.{checked-right}
use Rattle.ts_checker.proofs.checking.check.Goals as goal

pub new-requires : goal.new-requires
new-requires c =
    let checked : checked_source c.args.desc.now (source_seen c.args.script.now) ≡ Ok (block_tree c.in_ok-body.body) = search rules in
    checked-right c.args.desc.now (source_seen c.args.script.now) c.shape.result (block_tree c.in_ok-body.body) c.shape.ensures.value checked
