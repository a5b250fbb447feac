-- The first name of a script with procedures that is refused, name by name from left to right, and why.
use Rattle.std.specs.Prelude.{ℕ, suc, ◌==◌, Bool, true, false, if◌then◌else◌, List, [], ◌∷◌, ◌++◌, length, Option, Some, None, is_some}
use Rattle.ts_trees.specs.declared.word.Word.{Word}
use Rattle.ts_trees.specs.declared.script.Decl.{Decl}
use Rattle.ts_trees.specs.Tree.{Tree, number, variable, item, size, message_item, message_size, call, negative, inverse, two, paren, Trees, no_trees, tree_then, Act, set, set_item, append, take_last, clear, call_alone, if_then, if_else, for_next, while_do, run_procedure, Acts, no_acts, act_then, Procedure, ProcedureSource}
use Rattle.ts_proc_names.specs.declared.fault.ProcFault.{ProcFault}
use Rattle.ts_proc_names.specs.declared.fault.ProcFault.TheVariants.{NoProc, Params, Again, Reserved}
use Rattle.ts_proc_names.specs.Places.{place_of_name, declared_as}

-- the first refusal, and the second one if the first part refuses nothing
infixr 10 ◌<|>◌
abbrev pub ◌<|>◌ : Option ProcFault → Option ProcFault → Option ProcFault
(Some fault) <|> next = Some fault
None <|> next = next

-- the refusal, if a test holds
abbrev pub refused_if : Bool → ProcFault → Option ProcFault
refused_if true fault = Some fault
refused_if false fault = None

-- a name that begins with `_` is kept for the parameters of an expansion
abbrev pub is_reserved : List ℕ → Bool
is_reserved [] = false
is_reserved (b ∷ bs) = b == 95

abbrev pub word_fault : Word → Option ProcFault
word_fault w = refused_if (is_reserved w.name) (Reserved w.place)

-- an expression, and arguments
abbrev mutual
  pub expr_fault : Tree → Option ProcFault
  expr_fault (number n) = None
  expr_fault (variable w) = word_fault w
  expr_fault (item w e) = word_fault w <|> expr_fault e
  expr_fault (size w) = word_fault w
  expr_fault (message_item e) = expr_fault e
  expr_fault message_size = None
  expr_fault (call w es) = word_fault w <|> args_fault es
  expr_fault (negative e) = expr_fault e
  expr_fault (inverse e) = expr_fault e
  expr_fault (two o l r) = expr_fault l <|> expr_fault r
  expr_fault (paren e) = expr_fault e

  pub args_fault : Trees → Option ProcFault
  args_fault no_trees = None
  args_fault (tree_then e es) = expr_fault e <|> args_fault es

-- how many arguments there are
abbrev pub argument_total : Trees → ℕ
argument_total no_trees = 0
argument_total (tree_then e es) = suc (argument_total es)

-- a call of a procedure that is declared with this number of parameters, or not at all
abbrev pub call_fault : Word → ℕ → Option ℕ → Option ProcFault
call_fault w n None = Some (NoProc w.name w.place)
call_fault w n (Some m) = if m == n then None else Some (Params w.place)

-- a `do`: its name, and its arguments
abbrev pub call_name_fault : List (List ℕ × ℕ) → Word → Trees → Option ProcFault
call_name_fault known w es =
    word_fault w <|> call_fault w (argument_total es) (declared_as known w.name) <|> args_fault es

-- a statement, and the statements of a block, after procedures of which the numbers of parameters are known
abbrev mutual
  pub act_fault : List (List ℕ × ℕ) → Act → Option ProcFault
  act_fault known (set w e) = word_fault w <|> expr_fault e
  act_fault known (set_item w i e) = word_fault w <|> expr_fault i <|> expr_fault e
  act_fault known (append w e) = word_fault w <|> expr_fault e
  act_fault known (take_last w b) = word_fault w <|> word_fault b
  act_fault known (clear w) = word_fault w
  act_fault known (call_alone w es) = word_fault w <|> args_fault es
  act_fault known (if_then e a) = expr_fault e <|> acts_fault known a
  act_fault known (if_else e a b) = expr_fault e <|> acts_fault known a <|> acts_fault known b
  act_fault known (for_next w from to step a next) =
      word_fault w <|> expr_fault from <|> expr_fault to <|> acts_fault known a <|> word_fault next
  act_fault known (while_do e a) = expr_fault e <|> acts_fault known a
  act_fault known (run_procedure w es) = call_name_fault known w es

  pub acts_fault : List (List ℕ × ℕ) → Acts → Option ProcFault
  acts_fault known no_acts = None
  acts_fault known (act_then a more) = act_fault known a <|> acts_fault known more

-- the parameters of a head, after those with these names
abbrev pub params_fault : List (List ℕ) → List Word → Option ProcFault
params_fault seen [] = None
params_fault seen (w ∷ ws) =
    word_fault w <|> refused_if (is_some (place_of_name seen w.name)) (Again w.name w.place) <|> params_fault (seen ++ w.name ∷ []) ws

-- a procedure: its name, its parameters and its body
abbrev pub procedure_fault : List (List ℕ × ℕ) → Procedure → Option ProcFault
procedure_fault known p =
    word_fault p.name <|> refused_if (is_some (declared_as known p.name.name)) (Again p.name.name p.name.place)
    <|> params_fault [] p.params <|> acts_fault known p.body

-- procedures, and the statements after them
abbrev pub procedures_fault : List (List ℕ × ℕ) → List Procedure → Acts → Option ProcFault
procedures_fault known [] body = acts_fault known body
procedures_fault known (p ∷ ps) body =
    procedure_fault known p <|> procedures_fault (known ++ (p.name.name, length p.params) ∷ []) ps body

abbrev pub decls_fault : List Decl → Option ProcFault
decls_fault [] = None
decls_fault (d ∷ ds) = word_fault d.word <|> decls_fault ds

-- a script
abbrev pub name_fault : ProcedureSource → Option ProcFault
name_fault s = decls_fault s.decls <|> procedures_fault [] s.procs s.body
