-- What a script with procedures means for a machine: each call of a procedure has a frame of numbers. Nothing is substituted.
use Rattle.std.specs.Prelude.{ℕ, ◌+◌, ℤ, pos, List, [], ◌∷◌, ◌++◌, take, drop, Option, Some, None, Result, Ok, Err, true, ⊤}
use Rattle.arrayvec.specs.ArrayVec.{ArrayVec}
use Rattle.mate_num.specs.Number.{is_truth}
use Rattle.mate_num.specs.declared.store.Store.{Store}
use Rattle.mate_num.specs.declared.call.End.TheVariants.{Halt}
use Rattle.vm_shape.specs.declared.description.Description.{Description}
use Rattle.ts_trees.specs.declared.word.Word.{Word}
use Rattle.ts_checked.specs.declared.checked_stmt.CVar.TheVariants.{Private}
use Rattle.ts_checked.specs.Expression.{Expression, Arguments}
use Rattle.ts_checked.specs.Statement.{Statement}
use Rattle.ts_trees.specs.Tree.{Act, set, set_item, append, take_last, clear, call_alone, if_then, if_else, for_next, while_do}
use Rattle.ts_trees.specs.Tree.{run_procedure, Acts, no_acts, act_then, Procedure, ProcedureSource}
use Rattle.ts_checker.specs.declared.scope.Symbol.TheVariants.{Variable}
use Rattle.ts_checker.specs.declared.scope.Entry.{Entry}
use Rattle.ts_checker.specs.declared.fault.CheckFault.{CheckFault}
use Rattle.ts_checker.specs.Names.{ScriptNames, names_before, declare_all}
use Rattle.ts_checker.specs.Checks.{checked_expr, checked_args, checked_head, checked_stmt, CheckedHead}
use Rattle.ts_semantics.specs.State.{ScriptState, Evaluation, Done, Over, then_do, with_variable, loop_does, choose, begun_state}
use Rattle.ts_semantics.specs.Meaning.{value_of, values_of, run_stmt, while_round, for_round, played, outcome_at}
use Rattle.mate_num.specs.declared.outcome.Outcome.{Outcome}
use Rattle.ts_proc_names.specs.Places.{declared_as}
use Rattle.ts_proc_expansion.specs.InOrder.{declared_in_order}

-- parameter j of a procedure is number 8 + j, after the script's own eight private variables
abbrev pub parameter_entries : ℕ → List Word → List Entry
parameter_entries j [] = []
parameter_entries j (w ∷ ws) = record { name = w.name; symbol = Variable (Private (8 + j)) } ∷ parameter_entries (j + 1) ws

-- the names within a body: the parameters are before all others, and functions are what they were
abbrev pub names_within : ScriptNames → List Word → ScriptNames
names_within n params = record { machine = n.machine; declared = parameter_entries 0 params ++ n.declared }

-- a frame is what is after the eight; at the end of a call the one before is put back
abbrev pub with_frame : List ℤ → ScriptState → ScriptState
with_frame values s = record s { privates = take 8 s.privates ++ values }

abbrev pub frame_dropped : List ℤ → Evaluation ⊤ → Evaluation ⊤
frame_dropped before (Done _ s) = Done tt (with_frame before s)
frame_dropped before (Over end s) = Over end s

abbrev pub in_own_frame : (ScriptState → Evaluation ⊤) → List ℤ → ScriptState → Evaluation ⊤
in_own_frame body values s = frame_dropped (drop 8 s.privates) (body (with_frame values s))

-- a part whose checks passed; one that is refused does nothing, and none runs if the expansion is accepted
abbrev pub value_checked : Result Expression CheckFault → ScriptState → Evaluation ℤ
value_checked (Ok e) s = value_of e s
value_checked (Err fault) s = Done (pos 0) s

abbrev pub values_checked : Result Arguments CheckFault → ScriptState → Evaluation (List ℤ)
values_checked (Ok es) s = values_of es s
values_checked (Err fault) s = Done [] s

abbrev pub stmt_checked : Result Statement CheckFault → ScriptState → Evaluation ⊤
stmt_checked (Ok x) s = run_stmt x s
stmt_checked (Err fault) s = Done tt s

abbrev pub for_checked : Result CheckedHead CheckFault → (ScriptState → Evaluation ⊤) → ScriptState → Evaluation ⊤
for_checked (Ok h) body s =
    then_do (value_of h.from s) (λ v s. loop_does (for_round h.var (value_of h.to) h.step body) (with_variable h.var v s))
for_checked (Err fault) body s = Done tt s

-- what a call of a procedure does with its arguments' values
abbrev pub Runs : Type 0
Runs = List ℤ → ScriptState → Evaluation ⊤

abbrev pub call_run : Option Runs → List ℤ → ScriptState → Evaluation ⊤
call_run None values s = Done tt s
call_run (Some runs) values s = runs values s

-- a statement, and the statements of a block, with these names and after these procedures
abbrev mutual
  pub act_run : List (List ℕ × Runs) → ScriptNames → Act → ScriptState → Evaluation ⊤
  act_run known n (set w e) s = stmt_checked (checked_stmt n (set w e)) s
  act_run known n (set_item w i e) s = stmt_checked (checked_stmt n (set_item w i e)) s
  act_run known n (append w e) s = stmt_checked (checked_stmt n (append w e)) s
  act_run known n (take_last w b) s = stmt_checked (checked_stmt n (take_last w b)) s
  act_run known n (clear w) s = stmt_checked (checked_stmt n (clear w)) s
  act_run known n (call_alone w es) s = stmt_checked (checked_stmt n (call_alone w es)) s
  act_run known n (if_then e a) s = then_do (value_checked (checked_expr n true e) s)
      (λ v s. choose (is_truth v) (acts_run known n a) (Done tt) s)
  act_run known n (if_else e a b) s =
      then_do (value_checked (checked_expr n true e) s) (λ v s. choose (is_truth v) (acts_run known n a) (acts_run known n b) s)
  act_run known n (for_next w from to step a next) s = for_checked (checked_head n w from to step) (acts_run known n a) s
  act_run known n (while_do e a) s = loop_does (while_round (value_checked (checked_expr n true e)) (acts_run known n a)) s
  act_run known n (run_procedure w es) s =
      then_do (values_checked (checked_args n true es) s) (λ values s. call_run (declared_as known w.name) values s)

  pub acts_run : List (List ℕ × Runs) → ScriptNames → Acts → ScriptState → Evaluation ⊤
  acts_run known n no_acts s = Done tt s
  acts_run known n (act_then a more) s = then_do (act_run known n a s) (λ _ s. acts_run known n more s)

-- what a call of a procedure does, by the procedures declared before it
abbrev pub procedure_runs : ScriptNames → List (List ℕ × Runs) → Procedure → Runs
procedure_runs n known p = in_own_frame (acts_run known (names_within n p.params) p.body)

-- the run of a script with procedures, which has the outermost frame
abbrev pub script_run : Result ScriptNames CheckFault → ProcedureSource → ScriptState → Outcome
script_run (Ok n) s start = played (acts_run (declared_in_order (procedure_runs n) [] s.procs) n s.body start)
script_run (Err fault) s start = outcome_at Halt start

abbrev pub run_with_frames : Description → ProcedureSource → Store → ArrayVec ℤ → List ℤ → ℕ → Outcome
run_with_frames machine s store msg answers turns =
    script_run (declare_all (names_before machine) s.decls) s (begun_state store msg answers turns)
