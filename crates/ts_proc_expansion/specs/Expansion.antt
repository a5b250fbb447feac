-- The plain script that a script with procedures expands to: each parameter is a private variable, and each
-- `do` its procedure's body.
use Rattle.std.specs.Prelude.{ℕ, zero, suc, List, [], ◌∷◌, ◌++◌, length, sum_by, Option, Some, None}
use Rattle.ts_trees.specs.declared.word.Word.{Word}
use Rattle.ts_trees.specs.Tree.{Trees, no_trees, tree_then, Act, set, set_item, append, take_last, clear, call_alone, if_then, if_else, for_next, while_do, run_procedure, Acts, no_acts, act_then, Procedure, ProcedureSource, Source}
use Rattle.ts_trees.specs.Seen.{acts}
use Rattle.ts_proc_names.specs.Places.{declared_as}
use Rattle.ts_proc_names.specs.Heads.{parameter_count}
use Rattle.ts_proc_renaming.specs.Renaming.{Hiding, nothing_hidden, renamed, renamed_expr, renamed_args, assigned, parameter_decls}
use Rattle.ts_proc_expansion.specs.InOrder.{declared_in_order}

-- the first n of arguments
abbrev pub first_trees : ℕ → Trees → Trees
first_trees zero es = no_trees
first_trees (suc n) no_trees = no_trees
first_trees (suc n) (tree_then e es) = tree_then e (first_trees n es)

-- a procedure that can be called: how many parameters it has, the number of the first, and the statements that its body becomes
pub record Callee : Type 0 where
  pub first : ℕ
  pub params : ℕ
  pub body : List Act

-- a `do` becomes the assignments of its arguments to the parameters, and the body
abbrev pub body_called : Hiding → Word → Trees → Option Callee → List Act
body_called h w es None = []
body_called h w es (Some p) = assigned h w.place p.first (first_trees p.params es) ++ p.body

-- the statements that a statement, and a block, becomes
abbrev mutual
  pub expanded_act : List (List ℕ × Callee) → Hiding → Act → List Act
  expanded_act known h (set w e) = set (renamed h w) (renamed_expr h e) ∷ []
  expanded_act known h (set_item w i e) = set_item (renamed h w) (renamed_expr h i) (renamed_expr h e) ∷ []
  expanded_act known h (append w e) = append (renamed h w) (renamed_expr h e) ∷ []
  expanded_act known h (take_last w b) = take_last (renamed h w) (renamed h b) ∷ []
  expanded_act known h (clear w) = clear (renamed h w) ∷ []
  expanded_act known h (call_alone w es) = call_alone w (renamed_args h es) ∷ []
  expanded_act known h (if_then e a) = if_then (renamed_expr h e) (acts (expanded_acts known h a)) ∷ []
  expanded_act known h (if_else e a b) = if_else (renamed_expr h e) (acts (expanded_acts known h a)) (acts (expanded_acts known h b)) ∷ []
  expanded_act known h (for_next w from to step a next) =
      for_next (renamed h w) (renamed_expr h from) (renamed_expr h to) step (acts (expanded_acts known h a)) (renamed h next) ∷ []
  expanded_act known h (while_do e a) = while_do (renamed_expr h e) (acts (expanded_acts known h a)) ∷ []
  expanded_act known h (run_procedure w es) = body_called h w es (declared_as known w.name)

  pub expanded_acts : List (List ℕ × Callee) → Hiding → Acts → List Act
  expanded_acts known h no_acts = []
  expanded_acts known h (act_then a more) = expanded_act known h a ++ expanded_acts known h more

-- a procedure after others, whose parameters are numbered first
abbrev pub callee : List (List ℕ × Callee) → Procedure → Callee
callee known p =
    let first : ℕ = sum_by (λ c. c.1.params) known in
    record { first = first; params = length p.params; body = expanded_acts known (record { first = first; params = p.params }) p.body }

abbrev pub callees : List Procedure → List (List ℕ × Callee)
callees ps = declared_in_order callee [] ps

-- the plain script
abbrev pub expansion : ProcedureSource → Source
expansion s =
    record {
      decls = s.decls ++ parameter_decls 0 (parameter_count s.procs);
      body = acts (expanded_acts (callees s.procs) nothing_hidden s.body);
    }
