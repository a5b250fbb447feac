use Rattle.std.proofs.Common.{◌+◌, sym, ◌∙◌, ap, drop}
use Rattle.std.specs.Option.{option_map}
use Rattle.ts_trees.specs.Depth.{role_is_deep, deep_from}
use Rattle.ts_trees.specs.Spelling.{kinds}
use Rattle.ts_parser.proofs.DeepLemmas.{first_here, first_later, first_none}
use Rattle.ts_parser.proofs.depth.first_deep.Goals as goal

pub returns-then-is_deep-clause-first : goal.returns-then-is_deep-clause-first
returns-then-is_deep-clause-first c =
    first_here c.args.tokens.now c.loop-index.depth c.loop-index.index c.index-tokens-index.result c.loop-index-test.true c.index-tokens-index.is
    (c.if-is_deep.ensures ∙ ap (role_is_deep c.loop-index.depth) c.role_of.ensures) c.loop-index.invariant

pub loop-index-preserved : goal.loop-index-preserved
loop-index-preserved c =
    first_later c.args.tokens.now c.loop-index.depth c.loop-index.index c.index-tokens-index.result c.loop-index-test.true c.index-tokens-index.is
    (c.if-is_deep.ensures ∙ ap (role_is_deep c.loop-index.depth) c.role_of.ensures) c.loop-index.invariant
    ∙ ap (λ d. option_map (λ k. k + (c.loop-index.index + 1)) (deep_from d (kinds (drop (c.loop-index.index + 1) c.args.tokens.now)))) (sym c.after-depth.ensures)

pub returns-clause-first : goal.returns-clause-first
returns-clause-first c = first_none c.args.tokens.now c.loop-index.depth c.loop-index.index c.loop-index-test.false c.loop-index.invariant
