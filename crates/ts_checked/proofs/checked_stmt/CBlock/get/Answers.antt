use Rattle.std.proofs.Common.{◌∙◌, map, ap, sym}
use Rattle.ts_checked.specs.TreeOf.{stmt_tree}
use Rattle.ts_checked.proofs.BlockLemmas.{block_seen}
use Rattle.ts_checked.proofs.ListLemmas.{looked_up}
use Rattle.ts_checked.proofs.checked_stmt.CBlock.get.Goals as goal

pub returns : goal.returns
returns c =
    looked_up stmt_tree c.get.result c.deref.result.now _ c.args.index c.get.ensures.lookup.3
    (block_seen c.args.self.now ∙ ap (map stmt_tree) (sym c.deref.ensures.value))
