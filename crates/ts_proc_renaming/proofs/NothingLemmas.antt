-- If nothing is hidden, all stays.
use Rattle.std.proofs.Common.{◌≡◌, refl, ap, ◌∙◌}
use Rattle.ts_trees.specs.declared.word.Word.{Word}
use Rattle.ts_trees.specs.Tree.{Tree, number, variable, item, size, message_item, message_size, call, negative, inverse, two, paren, Trees, no_trees, tree_then}
use Rattle.ts_proc_renaming.specs.Renaming.{Hiding, nothing_hidden, renamed, renamed_expr, renamed_args}

pub nothing-moved : (h : Hiding) → h ≡ nothing_hidden → (w : Word) → renamed h w ≡ w
nothing-moved h none w = ap (λ (g : Hiding). renamed g w) none

mutual
  pub nothing-renamed : (h : Hiding) → h ≡ nothing_hidden → (e : Tree) → renamed_expr h e ≡ e
  nothing-renamed h none (number n) = refl
  nothing-renamed h none (variable w) = ap variable (nothing-moved h none w)
  nothing-renamed h none (item w e) = ap (λ v. item v (renamed_expr h e)) (nothing-moved h none w) ∙ ap (item w) (nothing-renamed h none e)
  nothing-renamed h none (size w) = ap size (nothing-moved h none w)
  nothing-renamed h none (message_item e) = ap message_item (nothing-renamed h none e)
  nothing-renamed h none message_size = refl
  nothing-renamed h none (call w es) = ap (call w) (nothing-renamed_args h none es)
  nothing-renamed h none (negative e) = ap negative (nothing-renamed h none e)
  nothing-renamed h none (inverse e) = ap inverse (nothing-renamed h none e)
  nothing-renamed h none (two o l r) = ap (λ e. two o e (renamed_expr h r)) (nothing-renamed h none l) ∙ ap (two o l) (nothing-renamed h none r)
  nothing-renamed h none (paren e) = ap paren (nothing-renamed h none e)

  pub nothing-renamed_args : (h : Hiding) → h ≡ nothing_hidden → (es : Trees) → renamed_args h es ≡ es
  nothing-renamed_args h none no_trees = refl
  nothing-renamed_args h none (tree_then e es) = ap (λ f. tree_then f (renamed_args h es)) (nothing-renamed h none e) ∙ ap (tree_then e) (nothing-renamed_args h none es)
