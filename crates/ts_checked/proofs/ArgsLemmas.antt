-- The data of checked arguments, by the list that holds them.
use Rattle.std.proofs.Common.{◌≡◌, rules, [], ◌∷◌, ◌++◌, map, ap, sym, ◌∙◌}
use Rattle.std.proofs.lemmas.List.{map-append}
use Rattle.ts_checked.specs.TreeOf.{expr_tree, args_trees}
use Rattle.ts_checked.specs.declared.checked_expr.CExpr.{CExpr, the_lemmas}
use Rattle.ts_checked.specs.declared.checked_expr.CArgs.{CArgs}

pub args_seen : (a : CArgs) → args_trees a ≡ map expr_tree a.items.items
args_seen a = search (rules, the_lemmas)

pub args_kept : (a b : CArgs) → b.items.items ≡ a.items.items → args_trees b ≡ args_trees a
args_kept a b e = args_seen b ∙ ap (map expr_tree) e ∙ sym (args_seen a)

pub args_pushed : (a b : CArgs) (x : CExpr) → b.items.items ≡ a.items.items ++ x ∷ [] → args_trees b ≡ args_trees a ++ expr_tree x ∷ []
args_pushed a b x e =
    args_seen b ∙ ap (map expr_tree) e ∙ map-append expr_tree a.items.items (x ∷ []) ∙ ap (λ ys. ys ++ expr_tree x ∷ []) (sym (args_seen a))
