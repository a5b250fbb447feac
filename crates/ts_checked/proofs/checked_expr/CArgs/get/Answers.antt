use Rattle.std.proofs.Common.{◌∙◌, map, ap, sym}
use Rattle.ts_checked.specs.TreeOf.{expr_tree}
use Rattle.ts_checked.proofs.ArgsLemmas.{args_seen}
use Rattle.ts_checked.proofs.ListLemmas.{looked_up}
use Rattle.ts_checked.proofs.checked_expr.CArgs.get.Goals as goal

pub returns : goal.returns
returns c =
    looked_up expr_tree c.get.result c.deref.result.now _ c.args.index c.get.ensures.lookup.3
    (args_seen c.args.self.now ∙ ap (map expr_tree) (sym c.deref.ensures.value))
