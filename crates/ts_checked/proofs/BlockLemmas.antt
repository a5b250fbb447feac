-- The data of checked statements, by the list that holds them.
use Rattle.std.proofs.Common.{◌≡◌, rules, [], ◌∷◌, ◌++◌, map, ap, sym, ◌∙◌}
use Rattle.std.proofs.lemmas.List.{map-append}
use Rattle.ts_checked.specs.TreeOf.{stmt_tree, block_trees}
use Rattle.ts_checked.specs.declared.checked_stmt.CStmt.{CStmt, the_lemmas}
use Rattle.ts_checked.specs.declared.checked_stmt.CBlock.{CBlock}

pub block_seen : (a : CBlock) → block_trees a ≡ map stmt_tree a.items.items
block_seen a = search (rules, the_lemmas)

pub block_kept : (a b : CBlock) → b.items.items ≡ a.items.items → block_trees b ≡ block_trees a
block_kept a b e = block_seen b ∙ ap (map stmt_tree) e ∙ sym (block_seen a)

pub block_pushed : (a b : CBlock) (x : CStmt) → b.items.items ≡ a.items.items ++ x ∷ [] → block_trees b ≡ block_trees a ++ stmt_tree x ∷ []
block_pushed a b x e =
    block_seen b ∙ ap (map stmt_tree) e ∙ map-append stmt_tree a.items.items (x ∷ []) ∙ ap (λ ys. ys ++ stmt_tree x ∷ []) (sym (block_seen a))
