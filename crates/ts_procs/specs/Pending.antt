-- What is still to be written of an expansion, and in how many steps.
use Rattle.std.specs.Prelude.{ℕ, suc, ◌+◌, List, [], ◌∷◌, ◌++◌, map, take, Option, Some, None, unwrap_or}
use Rattle.ts_trees.specs.declared.procedure.Proc.{Proc}
use Rattle.ts_trees.specs.Tree.{Act, set, set_item, append, take_last, clear, call_alone, if_then, if_else, for_next, while_do, run_procedure, Acts, no_acts, act_then, Procedure}
use Rattle.ts_trees.specs.Seen.{acts_of, procedure_of}
use Rattle.ts_proc_names.specs.Places.{declared_as}
use Rattle.ts_procs.specs.declared.pending.Pending.{Pending}
use Rattle.ts_proc_expansion.specs.InOrder.{declared_in_order}
use Rattle.ts_proc_expansion.specs.Expansion.{expanded_acts}
use Rattle.ts_proc_renaming.specs.Hidden.{hiding_of}
use Rattle.ts_proc_expansion.specs.Plan.{bodies_of}

-- what pending statements become
abbrev pub acts_left : List Proc → Pending → List Act
acts_left procs p = expanded_acts (take p.count (bodies_of procs)) (hiding_of p.hidden) (acts_of p.stmts.now)

-- the same of a body, if there is one
abbrev pub left_if : List Proc → Option Pending → List Act
left_if procs None = []
left_if procs (Some p) = acts_left procs p

-- and of all on a stack, whose last ones come first
abbrev pub left_on : List Proc → List Pending → List Act
left_on procs [] = []
left_on procs (p ∷ ps) = left_on procs ps ++ acts_left procs p

-- how many steps a block takes, without the blocks inside it: one for each statement, and those of the bodies
abbrev pub act_steps : List (List ℕ × ℕ) → Act → ℕ
act_steps known (set w e) = 1
act_steps known (set_item w i e) = 1
act_steps known (append w e) = 1
act_steps known (take_last w b) = 1
act_steps known (clear w) = 1
act_steps known (call_alone w es) = 1
act_steps known (if_then e a) = 1
act_steps known (if_else e a b) = 1
act_steps known (for_next w from to step a next) = 1
act_steps known (while_do e a) = 1
act_steps known (run_procedure w es) = suc (suc (unwrap_or (declared_as known w.name) 0))

abbrev pub acts_steps : List (List ℕ × ℕ) → Acts → ℕ
acts_steps known no_acts = 0
acts_steps known (act_then a more) = act_steps known a + acts_steps known more

abbrev pub body_steps : List (List ℕ × ℕ) → Procedure → ℕ
body_steps known p = acts_steps known p.body

abbrev pub steps_of_bodies : List Proc → List (List ℕ × ℕ)
steps_of_bodies procs = declared_in_order body_steps [] (map procedure_of procs)

abbrev pub steps_left : List Proc → Pending → ℕ
steps_left procs p = suc (acts_steps (take p.count (steps_of_bodies procs)) (acts_of p.stmts.now))

abbrev pub steps_if : List Proc → Option Pending → ℕ
steps_if procs None = 0
steps_if procs (Some p) = steps_left procs p

abbrev pub steps_on : List Proc → List Pending → ℕ
steps_on procs [] = 0
steps_on procs (p ∷ ps) = steps_on procs ps + steps_left procs p
