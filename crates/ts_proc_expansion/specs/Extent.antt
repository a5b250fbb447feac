-- How large a script is: its statements, those inside blocks counted, and how deep its blocks nest.
use Rattle.std.specs.Prelude.{ℕ, ◌+◌, max}
use Rattle.ts_trees.specs.Tree.{Act, set, set_item, append, take_last, clear, call_alone, if_then, if_else, for_next, while_do, run_procedure, Acts, no_acts, act_then}

abbrev mutual
  pub act_count : Act → ℕ
  act_count (set w e) = 1
  act_count (set_item w i e) = 1
  act_count (append w e) = 1
  act_count (take_last w b) = 1
  act_count (clear w) = 1
  act_count (call_alone w es) = 1
  act_count (if_then e a) = 1 + acts_count a
  act_count (if_else e a b) = 1 + (acts_count a + acts_count b)
  act_count (for_next w from to step a next) = 1 + acts_count a
  act_count (while_do e a) = 1 + acts_count a
  act_count (run_procedure w es) = 1

  pub acts_count : Acts → ℕ
  acts_count no_acts = 0
  acts_count (act_then a more) = act_count a + acts_count more

abbrev mutual
  pub act_depth : Act → ℕ
  act_depth (set w e) = 0
  act_depth (set_item w i e) = 0
  act_depth (append w e) = 0
  act_depth (take_last w b) = 0
  act_depth (clear w) = 0
  act_depth (call_alone w es) = 0
  act_depth (if_then e a) = 1 + acts_depth a
  act_depth (if_else e a b) = 1 + max (acts_depth a) (acts_depth b)
  act_depth (for_next w from to step a next) = 1 + acts_depth a
  act_depth (while_do e a) = 1 + acts_depth a
  act_depth (run_procedure w es) = 0

  pub acts_depth : Acts → ℕ
  acts_depth no_acts = 0
  acts_depth (act_then a more) = max (act_depth a) (acts_depth more)
