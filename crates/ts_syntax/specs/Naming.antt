-- Trees with other names of variables and buffers; the names of functions and procedures stay.
use Rattle.ts_trees.specs.declared.word.Word.{Word}
use Rattle.ts_trees.specs.Tree.{Tree, number, variable, item, size, message_item, message_size, call, negative, inverse, two, paren, Trees, no_trees, tree_then, Act, set, set_item, append, take_last, clear, call_alone, if_then, if_else, for_next, while_do, run_procedure, Acts, no_acts, act_then}

-- an expression, and arguments
abbrev mutual
  pub named_expr : (Word → Word) → Tree → Tree
  named_expr f (number n) = number n
  named_expr f (variable w) = variable (f w)
  named_expr f (item w e) = item (f w) (named_expr f e)
  named_expr f (size w) = size (f w)
  named_expr f (message_item e) = message_item (named_expr f e)
  named_expr f message_size = message_size
  named_expr f (call w es) = call w (named_args f es)
  named_expr f (negative e) = negative (named_expr f e)
  named_expr f (inverse e) = inverse (named_expr f e)
  named_expr f (two o l r) = two o (named_expr f l) (named_expr f r)
  named_expr f (paren e) = paren (named_expr f e)

  pub named_args : (Word → Word) → Trees → Trees
  named_args f no_trees = no_trees
  named_args f (tree_then e es) = tree_then (named_expr f e) (named_args f es)

-- a statement, and a block
abbrev mutual
  pub named_act : (Word → Word) → Act → Act
  named_act f (set w e) = set (f w) (named_expr f e)
  named_act f (set_item w i e) = set_item (f w) (named_expr f i) (named_expr f e)
  named_act f (append w e) = append (f w) (named_expr f e)
  named_act f (take_last w b) = take_last (f w) (f b)
  named_act f (clear w) = clear (f w)
  named_act f (call_alone w es) = call_alone w (named_args f es)
  named_act f (if_then e a) = if_then (named_expr f e) (named_acts f a)
  named_act f (if_else e a b) = if_else (named_expr f e) (named_acts f a) (named_acts f b)
  named_act f (for_next w from to step a next) = for_next (f w) (named_expr f from) (named_expr f to) step (named_acts f a) (f next)
  named_act f (while_do e a) = while_do (named_expr f e) (named_acts f a)
  named_act f (run_procedure w es) = run_procedure w (named_args f es)

  pub named_acts : (Word → Word) → Acts → Acts
  named_acts f no_acts = no_acts
  named_acts f (act_then a more) = act_then (named_act f a) (named_acts f more)
