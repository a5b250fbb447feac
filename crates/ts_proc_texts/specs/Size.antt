-- In how many steps what is left is printed.
use Rattle.std.specs.Prelude.{ℕ, suc, ◌+◌, List, [], ◌∷◌, map, take, Option, Some, None, unwrap_or}
use Rattle.ts_trees.specs.declared.procedure.Proc.{Proc}
use Rattle.ts_trees.specs.declared.stmt.Stmt.{Stmt}
use Rattle.ts_trees.specs.Seen.{acts_of, procedure_of}
use Rattle.ts_trees.specs.Tree.{Act, set, set_item, append, take_last, clear, call_alone, if_then, if_else, for_next, while_do, run_procedure, Acts, no_acts, act_then, Procedure}
use Rattle.ts_proc_names.specs.Places.{declared_as}
use Rattle.ts_proc_expansion.specs.InOrder.{declared_in_order}
use Rattle.ts_proc_texts.specs.declared.rest.Rest.{Rest}
use Rattle.ts_proc_texts.specs.declared.rest.Close.{Close}
use Rattle.ts_proc_texts.specs.declared.rest.Close.TheVariants.{Nothing, EndIf, Else, EndWhile, Next}

-- of a statement and of a block, with the blocks inside them and the bodies that they call
abbrev mutual
  pub act_size : List (List ℕ × ℕ) → Act → ℕ
  act_size known (set w e) = 1
  act_size known (set_item w i e) = 1
  act_size known (append w e) = 1
  act_size known (take_last w b) = 1
  act_size known (clear w) = 1
  act_size known (call_alone w es) = 1
  act_size known (if_then e a) = suc (suc (acts_size known a))
  act_size known (if_else e a b) = suc (suc (acts_size known a + suc (acts_size known b)))
  act_size known (for_next w from to step a next) = suc (suc (acts_size known a))
  act_size known (while_do e a) = suc (suc (acts_size known a))
  act_size known (run_procedure w es) = suc (suc (unwrap_or (declared_as known w.name) 0))

  pub acts_size : List (List ℕ × ℕ) → Acts → ℕ
  acts_size known no_acts = 0
  acts_size known (act_then a more) = act_size known a + acts_size known more

-- of a procedure's body, after the procedures that are known
abbrev pub body_size : List (List ℕ × ℕ) → Procedure → ℕ
body_size known p = acts_size known p.body

abbrev pub sizes_of_bodies : List Proc → List (List ℕ × ℕ)
sizes_of_bodies procs = declared_in_order body_size [] (map procedure_of procs)

-- of statements in the body at a place, and of what comes after a block there
abbrev pub block_size : List Proc → ℕ → List Stmt → ℕ
block_size procs place stmts = acts_size (take place (sizes_of_bodies procs)) (acts_of stmts)

abbrev pub close_size : List Proc → ℕ → Close → ℕ
close_size procs place Nothing = 0
close_size procs place EndIf = 0
close_size procs place (Else stmts) = suc (block_size procs place stmts.now)
close_size procs place EndWhile = 0
close_size procs place (Next word) = 0

-- of what is left of a block
abbrev pub rest_size : List Proc → Rest → ℕ
rest_size procs r = suc (block_size procs r.place r.stmts.now + close_size procs r.place r.close)

-- the same if something is left
abbrev pub size_if : List Proc → Option Rest → ℕ
size_if procs None = 0
size_if procs (Some r) = rest_size procs r

-- and of all on a stack
abbrev pub size_on : List Proc → List Rest → ℕ
size_on procs [] = 0
size_on procs (r ∷ rs) = size_on procs rs + rest_size procs r
