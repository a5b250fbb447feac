-- The first refusal of a script's names is one of the four of a name.
use Rattle.std.proofs.Common.{◌≡◌, ℕ, ◌==◌, Bool, true, false, if◌then◌else◌, List, [], ◌∷◌, ◌++◌, length, Option, Some, None, subst}
use Rattle.std.specs.Prelude.{⊤, is_some}
use Rattle.ts_trees.specs.declared.word.Word.{Word}
use Rattle.ts_trees.specs.declared.script.Decl.{Decl}
use Rattle.ts_trees.specs.Tree.{Tree, number, variable, item, size, message_item, message_size, call, negative, inverse, two, paren, Trees, no_trees, tree_then, Act, set, set_item, append, take_last, clear, call_alone, if_then, if_else, for_next, while_do, run_procedure, Acts, no_acts, act_then, Procedure, ProcedureSource}
use Rattle.ts_proc_names.specs.declared.fault.ProcFault.{ProcFault}
use Rattle.ts_proc_names.specs.declared.fault.ProcFault.TheVariants.{NoProc, Params, Again, Reserved}
use Rattle.ts_proc_names.specs.Places.{place_of_name, declared_as}
use Rattle.ts_proc_names.specs.NameFaults.{◌<|>◌, refused_if, is_reserved, word_fault, expr_fault, args_fault, argument_total, call_fault, call_name_fault, act_fault, acts_fault, params_fault, procedure_fault, procedures_fault, decls_fault, name_fault}

-- a refusal of a name
abbrev pub IsOfName : ProcFault → Type 0
IsOfName (NoProc name place) = ⊤
IsOfName (Params place) = ⊤
IsOfName (Again name place) = ⊤
IsOfName (Reserved place) = ⊤
IsOfName _ = ⊥

abbrev IsOfNames : Option ProcFault → Type 0
IsOfNames None = ⊤
IsOfNames (Some fault) = IsOfName fault

either : (a b : Option ProcFault) → IsOfNames a → IsOfNames b → IsOfNames (a <|> b)
either None b h k = k
either (Some fault) b h k = h

tested : (b : Bool) (fault : ProcFault) → IsOfName fault → IsOfNames (refused_if b fault)
tested true fault h = h
tested false fault h = tt

word_names : (w : Word) → IsOfNames (word_fault w)
word_names w = tested (is_reserved w.name) (Reserved w.place) tt

mutual
  expr_names : (e : Tree) → IsOfNames (expr_fault e)
  expr_names (number n) = tt
  expr_names (variable w) = word_names w
  expr_names (item w e) = either (word_fault w) (expr_fault e) (word_names w) (expr_names e)
  expr_names (size w) = word_names w
  expr_names (message_item e) = expr_names e
  expr_names message_size = tt
  expr_names (call w es) = either (word_fault w) (args_fault es) (word_names w) (args_names es)
  expr_names (negative e) = expr_names e
  expr_names (inverse e) = expr_names e
  expr_names (two o l r) = either (expr_fault l) (expr_fault r) (expr_names l) (expr_names r)
  expr_names (paren e) = expr_names e

  args_names : (es : Trees) → IsOfNames (args_fault es)
  args_names no_trees = tt
  args_names (tree_then e es) = either (expr_fault e) (args_fault es) (expr_names e) (args_names es)

call_names : (w : Word) (n : ℕ) (o : Option ℕ) → IsOfNames (call_fault w n o)
call_names w n None = tt
call_names w n (Some m) = counted (m == n) where
  counted : (b : Bool) → IsOfNames (if b then None else Some (Params w.place))
  counted true = tt
  counted false = tt

run_names : (known : List (List ℕ × ℕ)) (w : Word) (es : Trees) → IsOfNames (call_name_fault known w es)
run_names known w es =
    let called : Option ProcFault = call_fault w (argument_total es) (declared_as known w.name) in
    either (word_fault w) (called <|> args_fault es) (word_names w)
    (either called (args_fault es) (call_names w (argument_total es) (declared_as known w.name)) (args_names es))

mutual
  act_names : (known : List (List ℕ × ℕ)) (a : Act) → IsOfNames (act_fault known a)
  act_names known (set w e) = either (word_fault w) (expr_fault e) (word_names w) (expr_names e)
  act_names known (set_item w i e) =
      either (word_fault w) (expr_fault i <|> expr_fault e) (word_names w) (either (expr_fault i) (expr_fault e) (expr_names i) (expr_names e))
  act_names known (append w e) = either (word_fault w) (expr_fault e) (word_names w) (expr_names e)
  act_names known (take_last w b) = either (word_fault w) (word_fault b) (word_names w) (word_names b)
  act_names known (clear w) = word_names w
  act_names known (call_alone w es) = either (word_fault w) (args_fault es) (word_names w) (args_names es)
  act_names known (if_then e a) = either (expr_fault e) (acts_fault known a) (expr_names e) (acts_names known a)
  act_names known (if_else e a b) =
      either (expr_fault e) (acts_fault known a <|> acts_fault known b) (expr_names e)
      (either (acts_fault known a) (acts_fault known b) (acts_names known a) (acts_names known b))
  act_names known (for_next w from to step a next) =
      let body : Option ProcFault = acts_fault known a <|> word_fault next in
      either (word_fault w) (expr_fault from <|> expr_fault to <|> body) (word_names w)
      (either (expr_fault from) (expr_fault to <|> body) (expr_names from)
      (either (expr_fault to) body (expr_names to) (either (acts_fault known a) (word_fault next) (acts_names known a) (word_names next))))
  act_names known (while_do e a) = either (expr_fault e) (acts_fault known a) (expr_names e) (acts_names known a)
  act_names known (run_procedure w es) = run_names known w es

  acts_names : (known : List (List ℕ × ℕ)) (a : Acts) → IsOfNames (acts_fault known a)
  acts_names known no_acts = tt
  acts_names known (act_then a more) = either (act_fault known a) (acts_fault known more) (act_names known a) (acts_names known more)

params_names : (seen : List (List ℕ)) (ws : List Word) → IsOfNames (params_fault seen ws)
params_names seen [] = tt
params_names seen (w ∷ ws) =
    let again : Option ProcFault = refused_if (is_some (place_of_name seen w.name)) (Again w.name w.place) in
    let rest : Option ProcFault = params_fault (seen ++ w.name ∷ []) ws in
    either (word_fault w) (again <|> rest) (word_names w) (either again rest (tested _ (Again w.name w.place) tt) (params_names (seen ++ w.name ∷ []) ws))

procedure_names : (known : List (List ℕ × ℕ)) (p : Procedure) → IsOfNames (procedure_fault known p)
procedure_names known p =
    let again : Option ProcFault = refused_if (is_some (declared_as known p.name.name)) (Again p.name.name p.name.place) in
    let params : Option ProcFault = params_fault [] p.params in
    let body : Option ProcFault = acts_fault known p.body in
    either (word_fault p.name) (again <|> params <|> body) (word_names p.name)
    (either again (params <|> body) (tested _ (Again p.name.name p.name.place) tt)
    (either params body (params_names [] p.params) (acts_names known p.body)))

procedures_names : (known : List (List ℕ × ℕ)) (ps : List Procedure) (body : Acts) → IsOfNames (procedures_fault known ps body)
procedures_names known [] body = acts_names known body
procedures_names known (p ∷ ps) body =
    let more : List (List ℕ × ℕ) = known ++ (p.name.name, length p.params) ∷ [] in
    either (procedure_fault known p) (procedures_fault more ps body) (procedure_names known p) (procedures_names more ps body)

decls_names : (ds : List Decl) → IsOfNames (decls_fault ds)
decls_names [] = tt
decls_names (d ∷ ds) = either (word_fault d.word) (decls_fault ds) (word_names d.word) (decls_names ds)

pub named_alone : (s : ProcedureSource) (fault : ProcFault) → name_fault s ≡ Some fault → IsOfName fault
named_alone s fault e =
    subst IsOfNames e (either (decls_fault s.decls) (procedures_fault [] s.procs s.body) (decls_names s.decls) (procedures_names [] s.procs s.body))
