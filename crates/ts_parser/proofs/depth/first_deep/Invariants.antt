use Rattle.std.proofs.Common.{◌≡◌, ◌+◌, drop}
use Rattle.std.specs.Option.{option_map}
use Rattle.ts_trees.specs.Depth.{deep_from, first_deep}
use Rattle.ts_trees.specs.Spelling.{kinds}
use Rattle.ts_parser.proofs.depth.first_deep.Given as goal

-- the tokens before the index aren't too deep
abbrev pub invariant-loop-index : goal.invariant-loop-index
invariant-loop-index l = first_deep (kinds l.tokens) ≡ option_map (λ i. i + l.index) (deep_from l.depth (kinds (drop l.index l.tokens)))
