-- If each name stays, all stays.
use Rattle.std.proofs.Common.{◌≡◌, refl, ap, ◌∙◌}
use Rattle.ts_trees.specs.declared.word.Word.{Word}
use Rattle.ts_trees.specs.Tree.{Tree, number, variable, item, size, message_item, message_size, call, negative, inverse, two, paren, Trees, no_trees, tree_then, Act, set, set_item, append, take_last, clear, call_alone, if_then, if_else, for_next, while_do, run_procedure, Acts, no_acts, act_then}
use Rattle.ts_syntax.specs.Naming.{named_expr, named_args, named_act, named_acts}

abbrev pub as_it_is : Word → Word
as_it_is w = w

mutual
  pub expr_stays : (e : Tree) → named_expr as_it_is e ≡ e
  expr_stays (number n) = refl
  expr_stays (variable w) = refl
  expr_stays (item w e) = ap (item w) (expr_stays e)
  expr_stays (size w) = refl
  expr_stays (message_item e) = ap message_item (expr_stays e)
  expr_stays message_size = refl
  expr_stays (call w es) = ap (call w) (args_stay es)
  expr_stays (negative e) = ap negative (expr_stays e)
  expr_stays (inverse e) = ap inverse (expr_stays e)
  expr_stays (two o l r) = ap (λ e. two o e (named_expr as_it_is r)) (expr_stays l) ∙ ap (two o l) (expr_stays r)
  expr_stays (paren e) = ap paren (expr_stays e)

  pub args_stay : (es : Trees) → named_args as_it_is es ≡ es
  args_stay no_trees = refl
  args_stay (tree_then e es) = ap (λ f. tree_then f (named_args as_it_is es)) (expr_stays e) ∙ ap (tree_then e) (args_stay es)

mutual
  pub act_stays : (a : Act) → named_act as_it_is a ≡ a
  act_stays (set w e) = ap (set w) (expr_stays e)
  act_stays (set_item w i e) = ap (λ j. set_item w j (named_expr as_it_is e)) (expr_stays i) ∙ ap (set_item w i) (expr_stays e)
  act_stays (append w e) = ap (append w) (expr_stays e)
  act_stays (take_last w b) = refl
  act_stays (clear w) = refl
  act_stays (call_alone w es) = ap (call_alone w) (args_stay es)
  act_stays (if_then e a) = ap (λ d. if_then d (named_acts as_it_is a)) (expr_stays e) ∙ ap (if_then e) (acts_stay a)
  act_stays (if_else e a b) =
      ap (λ d. if_else d (named_acts as_it_is a) (named_acts as_it_is b)) (expr_stays e)
      ∙ ap (λ c. if_else e c (named_acts as_it_is b)) (acts_stay a) ∙ ap (if_else e a) (acts_stay b)
  act_stays (for_next w from to step a next) =
      ap (λ e. for_next w e (named_expr as_it_is to) step (named_acts as_it_is a) next) (expr_stays from)
      ∙ ap (λ e. for_next w from e step (named_acts as_it_is a) next) (expr_stays to) ∙ ap (λ b. for_next w from to step b next) (acts_stay a)
  act_stays (while_do e a) = ap (λ d. while_do d (named_acts as_it_is a)) (expr_stays e) ∙ ap (while_do e) (acts_stay a)
  act_stays (run_procedure w es) = ap (run_procedure w) (args_stay es)

  pub acts_stay : (a : Acts) → named_acts as_it_is a ≡ a
  acts_stay no_acts = refl
  acts_stay (act_then a more) = ap (λ b. act_then b (named_acts as_it_is more)) (act_stays a) ∙ ap (act_then a) (acts_stay more)
