-- A script without its places.
use Rattle.std.specs.Prelude.{map, Option, Some, None}
use Rattle.ts_trees.specs.declared.word.Word.{Word}
use Rattle.ts_trees.specs.declared.stmt.Step.{Step}
use Rattle.ts_trees.specs.declared.script.Decl.{Decl}
use Rattle.ts_trees.specs.Tree.{Tree, number, variable, item, size, message_item, message_size, call, negative, inverse, two, paren, Trees}
use Rattle.ts_trees.specs.Tree.{no_trees, tree_then, Act, set, set_item, append, take_last, clear, call_alone, if_then, if_else, for_next}
use Rattle.ts_trees.specs.Tree.{while_do, run_procedure, Acts, no_acts, act_then, Source}

-- a word at place 0
abbrev pub bare_word : Word → Word
bare_word w = record { name = w.name; place = 0 }

-- an expression, and a call's arguments
abbrev mutual
  pub bare_tree : Tree → Tree
  bare_tree (number n) = number n
  bare_tree (variable w) = variable (bare_word w)
  bare_tree (item w e) = item (bare_word w) (bare_tree e)
  bare_tree (size w) = size (bare_word w)
  bare_tree (message_item e) = message_item (bare_tree e)
  bare_tree message_size = message_size
  bare_tree (call w es) = call (bare_word w) (bare_trees es)
  bare_tree (negative e) = negative (bare_tree e)
  bare_tree (inverse e) = inverse (bare_tree e)
  bare_tree (two o l r) = two o (bare_tree l) (bare_tree r)
  bare_tree (paren e) = paren (bare_tree e)

  pub bare_trees : Trees → Trees
  bare_trees no_trees = no_trees
  bare_trees (tree_then e es) = tree_then (bare_tree e) (bare_trees es)

abbrev pub bare_step : Option Step → Option Step
bare_step None = None
bare_step (Some s) = Some (record { minus = s.minus; size = s.size; place = 0 })

-- a statement, and a block
abbrev mutual
  pub bare_act : Act → Act
  bare_act (set w e) = set (bare_word w) (bare_tree e)
  bare_act (set_item w i e) = set_item (bare_word w) (bare_tree i) (bare_tree e)
  bare_act (append w e) = append (bare_word w) (bare_tree e)
  bare_act (take_last w b) = take_last (bare_word w) (bare_word b)
  bare_act (clear w) = clear (bare_word w)
  bare_act (call_alone w es) = call_alone (bare_word w) (bare_trees es)
  bare_act (if_then e a) = if_then (bare_tree e) (bare_acts a)
  bare_act (if_else e a b) = if_else (bare_tree e) (bare_acts a) (bare_acts b)
  bare_act (for_next w f t s a v) = for_next (bare_word w) (bare_tree f) (bare_tree t) (bare_step s) (bare_acts a) (bare_word v)
  bare_act (while_do e a) = while_do (bare_tree e) (bare_acts a)
  bare_act (run_procedure w es) = run_procedure (bare_word w) (bare_trees es)

  pub bare_acts : Acts → Acts
  bare_acts no_acts = no_acts
  bare_acts (act_then a more) = act_then (bare_act a) (bare_acts more)

abbrev pub bare_decl : Decl → Decl
bare_decl d = record { kind = d.kind; word = bare_word d.word; first = d.first }

-- a script
abbrev pub bare : Source → Source
bare s = record { decls = map bare_decl s.decls; body = bare_acts s.body }
