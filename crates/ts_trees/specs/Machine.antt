-- The grammar of each dialect as a machine that reads one token after another. A continuation says where a part is.
use Rattle.std.specs.Prelude.{ℕ, Bool, true, false, List, [], ◌∷◌, ◌++◌, Option, Some, None, Result, Ok, Err}
use Rattle.ts_checked.specs.declared.bin_op.BinOp.{BinOp}
use Rattle.ts_checked.specs.declared.bin_op.BinOp.TheVariants as op
use Rattle.ts_trees.specs.declared.dialect.Dialect.{Dialect}
use Rattle.ts_trees.specs.declared.dialect.Dialect.TheVariants as dialect
use Rattle.ts_trees.specs.declared.word.Word.{Word}
use Rattle.ts_trees.specs.declared.stmt.Step.{Step}
use Rattle.ts_trees.specs.declared.script.Decl.{Decl}
use Rattle.ts_trees.specs.declared.script.DeclKind.{DeclKind}
use Rattle.ts_trees.specs.declared.script.DeclKind.TheVariants as decl
use Rattle.ts_trees.specs.declared.token.TokenKind.{TokenKind}
use Rattle.ts_trees.specs.declared.token.TokenKind.TheVariants as kind
use Rattle.ts_trees.specs.Tree.{Tree, number, variable, item, size, message_item, message_size, call, negative, inverse, two, paren, Trees, no_trees, tree_then, Act, set, set_item, append, take_last, clear, call_alone, if_then, if_else, for_next, while_do, run_procedure, Acts, no_acts, act_then, Procedure, ProcedureSource}

-- a block that is open: the script's own, that of a script with procedures, a procedure's, or one inside another with
-- the statements before it
pub data Frame : Type 0 where
  top : List Decl → Frame
  main : List Decl → List Procedure → Frame
  proc_part : Word → List Word → List Decl → List Procedure → Frame
  then_part : Tree → Acts → Frame → Frame
  else_part : Tree → Acts → Acts → Frame → Frame
  for_part : Word → Tree → Tree → Option Step → Acts → Frame → Frame
  while_part : Tree → Acts → Frame → Frame

-- what waits for an operand, a product, a sum, an inverse, a conjunction and a whole expression
mutual
  pub data Operand : Type 0 where
    in_negative : Operand → Operand
    first_product : Product → Operand
    in_product : BinOp → Tree → Product → Operand

  pub data Product : Type 0 where
    first_sum : Sum → Product
    in_sum : BinOp → Tree → Sum → Product

  pub data Sum : Type 0 where
    first_compare : Inverse → Sum
    in_compare : BinOp → Tree → Inverse → Sum

  pub data Inverse : Type 0 where
    in_inverse : Inverse → Inverse
    first_and : Conjunction → Inverse
    in_and : Tree → Conjunction → Inverse

  pub data Conjunction : Type 0 where
    first_or : Whole → Conjunction
    in_or : Tree → Whole → Conjunction

  pub data Whole : Type 0 where
    in_paren : Operand → Whole
    in_item : Word → Operand → Whole
    in_message : Operand → Whole
    in_args : Word → Trees → Operand → Whole
    in_set : Word → Acts → Frame → Whole
    in_index : Word → Acts → Frame → Whole
    in_set_item : Word → Tree → Acts → Frame → Whole
    in_append : Word → Acts → Frame → Whole
    in_call : Word → Trees → Acts → Frame → Whole
    in_if : Acts → Frame → Whole
    in_from : Word → Acts → Frame → Whole
    in_to : Word → Tree → Acts → Frame → Whole
    in_while : Acts → Frame → Whole
    in_do : Word → Trees → Acts → Frame → Whole

-- what was read, and what may follow
pub data State : Type 0 where
  -- declarations
  decls : Dialect → List Decl → State
  decl_name : Dialect → DeclKind → Bool → List Decl → State
  decl_more : Dialect → DeclKind → List Decl → State
  -- procedures
  procedures : List Decl → List Procedure → State
  proc_word : List Decl → List Procedure → State
  proc_named : Word → List Decl → List Procedure → State
  proc_opened : Word → List Decl → List Procedure → State
  param_read : Word → List Word → Word → List Decl → List Procedure → State
  param_due : Word → List Word → List Decl → List Procedure → State
  proc_ended : Procedure → List Decl → List Procedure → State
  -- expressions
  want : Operand → State
  want_inverse : Inverse → State
  named : Word → Operand → State
  opened : Word → Operand → State
  sized : Operand → State
  size_opened : Operand → State
  size_named : Tree → Operand → State
  message : Operand → State
  have_product : Tree → Product → State
  have_sum : Tree → Sum → State
  have_inverse : Tree → Inverse → State
  have_and : Tree → Conjunction → State
  have : Tree → Whole → State
  -- statements
  block : Acts → Frame → State
  stmt_named : Word → Acts → Frame → State
  set_to : Word → Acts → Frame → State
  set_named : Word → Word → Acts → Frame → State
  set_boxed : Word → Word → Acts → Frame → State
  set_taken : Word → Word → Acts → Frame → State
  boxed : Word → Acts → Frame → State
  append_to : Word → Acts → Frame → State
  item_indexed : Word → Tree → Acts → Frame → State
  call_opened : Word → Acts → Frame → State
  cleared : Acts → Frame → State
  clear_opened : Acts → Frame → State
  clear_named : Word → Acts → Frame → State
  closed : Act → Acts → Frame → State
  for_word : Acts → Frame → State
  for_named : Word → Acts → Frame → State
  stepped : Word → Tree → Tree → Acts → Frame → State
  step_signed : Word → Tree → Tree → Acts → Frame → State
  nexted : Word → Tree → Tree → Option Step → Acts → Acts → Frame → State
  if_ended : Act → Acts → Frame → State
  while_ended : Tree → Acts → Acts → Frame → State
  do_word : Acts → Frame → State
  do_named : Word → Acts → Frame → State
  do_opened : Word → Acts → Frame → State

-- one more argument, and one more statement, at the end
abbrev pub with_tree : Trees → Tree → Trees
with_tree no_trees e = tree_then e no_trees
with_tree (tree_then d es) e = tree_then d (with_tree es e)

abbrev pub with_act : Acts → Act → Acts
with_act no_acts a = act_then a no_acts
with_act (act_then b more) a = act_then b (with_act more a)

abbrev pub word : List ℕ → ℕ → Word
word n place = record { name = n; place = place }

-- an expression is due: at any level
abbrev pub sum_due : Sum → Operand
sum_due k = first_product (first_sum k)

abbrev pub inverse_due : Inverse → Operand
inverse_due k = sum_due (first_compare k)

abbrev pub due : Whole → Inverse
due k = first_and (first_or k)

abbrev pub expr_due : Whole → State
expr_due k = want_inverse (due k)

-- an operand was read
abbrev pub give : Operand → Tree → State
give (in_negative k) e = give k (negative e)
give (first_product k) e = have_product e k
give (in_product o l k) e = have_product (two o l e) k

-- the dialect of a script in which a block is open
abbrev pub dialect_of : Frame → Dialect
dialect_of (top ds) = dialect.Plain
dialect_of (main ds ps) = dialect.Procedures
dialect_of (proc_part w ws ds ps) = dialect.Procedures
dialect_of (then_part e b f) = dialect_of f
dialect_of (else_part e a b f) = dialect_of f
dialect_of (for_part w s t p b f) = dialect_of f
dialect_of (while_part e b f) = dialect_of f

abbrev pub procedure : Word → List Word → Acts → Procedure
procedure w ws a = record { name = w; params = ws; body = a }

-- a block goes on, or ends
abbrev pub step_frame : Acts → Frame → TokenKind → Option State
step_frame a (then_part e b f) kind.Else = Some (block no_acts (else_part e a b f))
step_frame a (then_part e b f) kind.End = Some (if_ended (if_then e a) b f)
step_frame a (else_part e c b f) kind.End = Some (if_ended (if_else e c a) b f)
step_frame a (for_part w s t p b f) kind.Next = Some (nexted w s t p a b f)
step_frame a (while_part e b f) kind.End = Some (while_ended e a b f)
step_frame a (proc_part w ws ds ps) kind.End = Some (proc_ended (procedure w ws a) ds ps)
step_frame a f m = None

-- a `do` if a dialect has one
abbrev pub step_do : Dialect → Acts → Frame → Option State
step_do dialect.Plain a f = None
step_do dialect.Procedures a f = Some (do_word a f)

abbrev pub step_block : Acts → Frame → TokenKind → ℕ → Option State
step_block a f (kind.Name n) p = Some (stmt_named (word n p) a f)
step_block a f kind.Clear p = Some (cleared a f)
step_block a f kind.If p = Some (expr_due (in_if a f))
step_block a f kind.For p = Some (for_word a f)
step_block a f kind.While p = Some (expr_due (in_while a f))
step_block a f kind.Do p = step_do (dialect_of f) a f
step_block a f m p = step_frame a f m

-- after a whole expression
abbrev pub step_whole : Tree → Whole → TokenKind → ℕ → Option State
step_whole e (in_paren k) kind.Close p = Some (give k (paren e))
step_whole e (in_item w k) kind.CloseBox p = Some (give k (item w e))
step_whole e (in_message k) kind.CloseBox p = Some (give k (message_item e))
step_whole e (in_args w es k) kind.Comma p = Some (expr_due (in_args w (with_tree es e) k))
step_whole e (in_args w es k) kind.Close p = Some (give k (call w (with_tree es e)))
step_whole e (in_set w a f) kind.Semi p = Some (block (with_act a (set w e)) f)
step_whole e (in_index w a f) kind.CloseBox p = Some (item_indexed w e a f)
step_whole e (in_set_item w i a f) kind.Semi p = Some (block (with_act a (set_item w i e)) f)
step_whole e (in_append w a f) kind.Semi p = Some (block (with_act a (append w e)) f)
step_whole e (in_call w es a f) kind.Comma p = Some (expr_due (in_call w (with_tree es e) a f))
step_whole e (in_call w es a f) kind.Close p = Some (closed (call_alone w (with_tree es e)) a f)
step_whole e (in_do w es a f) kind.Comma p = Some (expr_due (in_do w (with_tree es e) a f))
step_whole e (in_do w es a f) kind.Close p = Some (closed (run_procedure w (with_tree es e)) a f)
step_whole e (in_if a f) kind.Then p = Some (block no_acts (then_part e a f))
step_whole e (in_from w a f) kind.To p = Some (expr_due (in_to w e a f))
step_whole e (in_to w s a f) kind.Step p = Some (stepped w s e a f)
step_whole e (in_to w s a f) m p = step_block no_acts (for_part w s e None a f) m p
step_whole e (in_while a f) m p = step_block no_acts (while_part e a f) m p
step_whole e k m p = None

-- the operators of a product, a sum and a comparison
abbrev pub product_sign : TokenKind → Option BinOp
product_sign kind.Star = Some op.Mul
product_sign kind.Slash = Some op.Div
product_sign kind.Percent = Some op.Rem
product_sign k = None

abbrev pub sum_sign : TokenKind → Option BinOp
sum_sign kind.Plus = Some op.Add
sum_sign kind.Minus = Some op.Sub
sum_sign k = None

abbrev pub comparison_sign : TokenKind → Option BinOp
comparison_sign kind.Eq = Some op.Eq
comparison_sign kind.Ne = Some op.Ne
comparison_sign kind.Lt = Some op.Lt
comparison_sign kind.Gt = Some op.Gt
comparison_sign kind.Le = Some op.Le
comparison_sign kind.Ge = Some op.Ge
comparison_sign k = None

-- an operator leads on to its right operand; where there is none, the other step is taken
abbrev pub lengthened : Option BinOp → (BinOp → State) → Option State → Option State
lengthened (Some o) longer other = Some (longer o)
lengthened None longer other = other

-- after each level of an expression: a sign of this level, or what follows at a looser one
abbrev pub step_have : Tree → Whole → TokenKind → ℕ → Option State
step_have e k kind.Or p = Some (want_inverse (first_and (in_or e k)))
step_have e k m p = step_whole e k m p

abbrev pub give_and : Tree → Conjunction → TokenKind → ℕ → Option State
give_and e (first_or k) m p = step_have e k m p
give_and e (in_or l k) m p = step_have (two op.Or l e) k m p

abbrev pub step_and : Tree → Conjunction → TokenKind → ℕ → Option State
step_and e k kind.And p = Some (want_inverse (in_and e k))
step_and e k m p = give_and e k m p

abbrev pub give_inverse : Tree → Inverse → TokenKind → ℕ → Option State
give_inverse e (in_inverse k) m p = give_inverse (inverse e) k m p
give_inverse e (first_and k) m p = step_and e k m p
give_inverse e (in_and l k) m p = step_and (two op.And l e) k m p

abbrev pub step_compare : Tree → Inverse → TokenKind → ℕ → Option State
step_compare e k m p = lengthened (comparison_sign m) (λ o. want (sum_due (in_compare o e k))) (give_inverse e k m p)

abbrev pub give_sum : Tree → Sum → TokenKind → ℕ → Option State
give_sum e (first_compare k) m p = step_compare e k m p
give_sum e (in_compare o l k) m p = give_inverse (two o l e) k m p

abbrev pub step_sum : Tree → Sum → TokenKind → ℕ → Option State
step_sum e k m p = lengthened (sum_sign m) (λ o. want (first_product (in_sum o e k))) (give_sum e k m p)

abbrev pub give_product : Tree → Product → TokenKind → ℕ → Option State
give_product e (first_sum k) m p = step_sum e k m p
give_product e (in_sum o l k) m p = step_sum (two o l e) k m p

abbrev pub step_product : Tree → Product → TokenKind → ℕ → Option State
step_product e k m p = lengthened (product_sign m) (λ o. want (in_product o e k)) (give_product e k m p)

-- after an operand
abbrev pub step_given : Operand → Tree → TokenKind → ℕ → Option State
step_given (in_negative k) e m p = step_given k (negative e) m p
step_given (first_product k) e m p = step_product e k m p
step_given (in_product o l k) e m p = step_product (two o l e) k m p

-- where an operand is due, and where an inverse is
abbrev pub step_want : Operand → TokenKind → ℕ → Option State
step_want k kind.Minus p = Some (want (in_negative k))
step_want k (kind.Num n) p = Some (give k (number n))
step_want k (kind.Name n) p = Some (named (word n p) k)
step_want k kind.Size p = Some (sized k)
step_want k kind.Msg p = Some (message k)
step_want k kind.Open p = Some (expr_due (in_paren k))
step_want k m p = None

abbrev pub step_want_inverse : Inverse → TokenKind → ℕ → Option State
step_want_inverse k kind.Not p = Some (want_inverse (in_inverse k))
step_want_inverse k m p = step_want (inverse_due k) m p

-- after a name in an expression, and after `size (`
abbrev pub step_named : Word → Operand → TokenKind → ℕ → Option State
step_named w k kind.Open p = Some (opened w k)
step_named w k kind.OpenBox p = Some (expr_due (in_item w k))
step_named w k m p = step_given k (variable w) m p

abbrev pub step_opened : Word → Operand → TokenKind → ℕ → Option State
step_opened w k kind.Close p = Some (give k (call w no_trees))
step_opened w k m p = step_want_inverse (due (in_args w no_trees k)) m p

abbrev pub step_size : Operand → TokenKind → ℕ → Option State
step_size k (kind.Name n) p = Some (size_named (size (word n p)) k)
step_size k kind.Msg p = Some (size_named message_size k)
step_size k m p = None

-- one token of this kind, and nothing else
abbrev pub step_eq : TokenKind → State → Option State
step_eq kind.Eq q = Some q
step_eq m q = None

abbrev pub step_open : TokenKind → State → Option State
step_open kind.Open q = Some q
step_open m q = None

abbrev pub step_close : TokenKind → State → Option State
step_close kind.Close q = Some q
step_close m q = None

abbrev pub step_open_box : TokenKind → State → Option State
step_open_box kind.OpenBox q = Some q
step_open_box m q = None

abbrev pub step_close_box : TokenKind → State → Option State
step_close_box kind.CloseBox q = Some q
step_close_box m q = None

abbrev pub step_semi : TokenKind → State → Option State
step_semi kind.Semi q = Some q
step_semi m q = None

abbrev pub step_if : TokenKind → State → Option State
step_if kind.If q = Some q
step_if m q = None

abbrev pub step_while : TokenKind → State → Option State
step_while kind.While q = Some q
step_while m q = None

abbrev pub step_proc : TokenKind → State → Option State
step_proc kind.Proc q = Some q
step_proc m q = None

-- a name, and the state that it leads to
abbrev pub step_name : TokenKind → ℕ → (Word → State) → Option State
step_name (kind.Name n) p q = Some (q (word n p))
step_name m p q = None

-- after the first name of a statement
abbrev pub step_stmt : Word → Acts → Frame → TokenKind → Option State
step_stmt w a f kind.Eq = Some (set_to w a f)
step_stmt w a f kind.OpenBox = Some (boxed w a f)
step_stmt w a f kind.Open = Some (call_opened w a f)
step_stmt w a f m = None

-- after `x =`, `x = y` and `x = y [`: a taking, or an expression
abbrev pub step_set : Word → Acts → Frame → TokenKind → ℕ → Option State
step_set w a f (kind.Name n) p = Some (set_named w (word n p) a f)
step_set w a f m p = step_want_inverse (due (in_set w a f)) m p

abbrev pub step_set_named : Word → Word → Acts → Frame → TokenKind → ℕ → Option State
step_set_named w v a f kind.OpenBox p = Some (set_boxed w v a f)
step_set_named w v a f m p = step_named v (inverse_due (due (in_set w a f))) m p

abbrev pub step_set_boxed : Word → Word → Acts → Frame → TokenKind → ℕ → Option State
step_set_boxed w v a f kind.CloseBox p = Some (set_taken w v a f)
step_set_boxed w v a f m p = step_want_inverse (due (in_item v (inverse_due (due (in_set w a f))))) m p

-- after `p [`: an appending, or an index
abbrev pub step_boxed : Word → Acts → Frame → TokenKind → ℕ → Option State
step_boxed w a f kind.CloseBox p = Some (append_to w a f)
step_boxed w a f m p = step_want_inverse (due (in_index w a f)) m p

abbrev pub step_call : Word → Acts → Frame → TokenKind → ℕ → Option State
step_call w a f kind.Close p = Some (closed (call_alone w no_trees) a f)
step_call w a f m p = step_want_inverse (due (in_call w no_trees a f)) m p

abbrev pub step_run : Word → Acts → Frame → TokenKind → ℕ → Option State
step_run w a f kind.Close p = Some (closed (run_procedure w no_trees) a f)
step_run w a f m p = step_want_inverse (due (in_do w no_trees a f)) m p

-- after `step`, and after `step -`
abbrev pub step_signed_by : Bool → Word → Tree → Tree → Acts → Frame → TokenKind → ℕ → Option State
step_signed_by b w s t a f (kind.Num n) p = Some (block no_acts (for_part w s t (Some (record { minus = b; size = n; place = p })) a f))
step_signed_by b w s t a f m p = None

abbrev pub step_stepped : Word → Tree → Tree → Acts → Frame → TokenKind → ℕ → Option State
step_stepped w s t a f kind.Minus p = Some (step_signed w s t a f)
step_stepped w s t a f m p = step_signed_by false w s t a f m p

-- where procedures are, and after the declarations of a dialect
abbrev pub step_procedures : List Decl → List Procedure → TokenKind → ℕ → Option State
step_procedures ds ps kind.Proc p = Some (proc_word ds ps)
step_procedures ds ps m p = step_block no_acts (main ds ps) m p

abbrev pub step_declared : Dialect → List Decl → TokenKind → ℕ → Option State
step_declared dialect.Plain ds m p = step_block no_acts (top ds) m p
step_declared dialect.Procedures ds m p = step_procedures ds [] m p

-- the parameters of a procedure, after its `(`
abbrev pub step_proc_opened : Word → List Decl → List Procedure → TokenKind → ℕ → Option State
step_proc_opened w ds ps (kind.Name n) p = Some (param_read w [] (word n p) ds ps)
step_proc_opened w ds ps kind.Close p = Some (block no_acts (proc_part w [] ds ps))
step_proc_opened w ds ps m p = None

abbrev pub step_param_read : Word → List Word → Word → List Decl → List Procedure → TokenKind → Option State
step_param_read w ws v ds ps kind.Comma = Some (param_due w (ws ++ v ∷ []) ds ps)
step_param_read w ws v ds ps kind.Close = Some (block no_acts (proc_part w (ws ++ v ∷ []) ds ps))
step_param_read w ws v ds ps m = None

-- where declarations are
abbrev pub step_decls : Dialect → List Decl → TokenKind → ℕ → Option State
step_decls d ds kind.Shared p = Some (decl_name d decl.Shared true ds)
step_decls d ds kind.Private p = Some (decl_name d decl.Private true ds)
step_decls d ds kind.Buffer p = Some (decl_name d decl.Buffer true ds)
step_decls d ds m p = step_declared d ds m p

abbrev pub declared : DeclKind → Bool → Word → Decl
declared k b w = record { kind = k; word = w; first = b }

abbrev pub step_decl_more : Dialect → DeclKind → List Decl → TokenKind → Option State
step_decl_more d k ds kind.Comma = Some (decl_name d k false ds)
step_decl_more d k ds kind.Semi = Some (decls d ds)
step_decl_more d k ds m = None

-- one token, with the place of a name or of a step's literal
abbrev pub step : State → TokenKind → ℕ → Option State
step (decls d ds) m p = step_decls d ds m p
step (decl_name d k b ds) m p = step_name m p (λ w. decl_more d k (ds ++ declared k b w ∷ []))
step (decl_more d k ds) m p = step_decl_more d k ds m
step (procedures ds ps) m p = step_procedures ds ps m p
step (proc_word ds ps) m p = step_name m p (λ w. proc_named w ds ps)
step (proc_named w ds ps) m p = step_open m (proc_opened w ds ps)
step (proc_opened w ds ps) m p = step_proc_opened w ds ps m p
step (param_read w ws v ds ps) m p = step_param_read w ws v ds ps m
step (param_due w ws ds ps) m p = step_name m p (λ v. param_read w ws v ds ps)
step (proc_ended q ds ps) m p = step_proc m (procedures ds (ps ++ q ∷ []))
step (want k) m p = step_want k m p
step (want_inverse k) m p = step_want_inverse k m p
step (named w k) m p = step_named w k m p
step (opened w k) m p = step_opened w k m p
step (sized k) m p = step_open m (size_opened k)
step (size_opened k) m p = step_size k m p
step (size_named e k) m p = step_close m (give k e)
step (message k) m p = step_open_box m (expr_due (in_message k))
step (have_product e k) m p = step_product e k m p
step (have_sum e k) m p = step_sum e k m p
step (have_inverse e k) m p = give_inverse e k m p
step (have_and e k) m p = step_and e k m p
step (have e k) m p = step_have e k m p
step (block a f) m p = step_block a f m p
step (stmt_named w a f) m p = step_stmt w a f m
step (set_to w a f) m p = step_set w a f m p
step (set_named w v a f) m p = step_set_named w v a f m p
step (set_boxed w v a f) m p = step_set_boxed w v a f m p
step (set_taken w v a f) m p = step_semi m (block (with_act a (take_last w v)) f)
step (boxed w a f) m p = step_boxed w a f m p
step (append_to w a f) m p = step_eq m (expr_due (in_append w a f))
step (item_indexed w i a f) m p = step_eq m (expr_due (in_set_item w i a f))
step (call_opened w a f) m p = step_call w a f m p
step (cleared a f) m p = step_open m (clear_opened a f)
step (clear_opened a f) m p = step_name m p (λ w. clear_named w a f)
step (clear_named w a f) m p = step_close m (closed (clear w) a f)
step (closed s a f) m p = step_semi m (block (with_act a s) f)
step (for_word a f) m p = step_name m p (λ w. for_named w a f)
step (for_named w a f) m p = step_eq m (expr_due (in_from w a f))
step (stepped w s t a f) m p = step_stepped w s t a f m p
step (step_signed w s t a f) m p = step_signed_by true w s t a f m p
step (nexted w s t c b a f) m p = step_name m p (λ v. block (with_act a (for_next w s t c b v)) f)
step (if_ended s a f) m p = step_if m (block (with_act a s) f)
step (while_ended e b a f) m p = step_while m (block (with_act a (while_do e b)) f)
step (do_word a f) m p = step_name m p (λ w. do_named w a f)
step (do_named w a f) m p = step_open m (do_opened w a f)
step (do_opened w a f) m p = step_run w a f m p

-- whether a state is where a step's literal is due
abbrev pub wants_size : State → Bool
wants_size (stepped w s t a f) = true
wants_size (step_signed w s t a f) = true
wants_size q = false

-- whether a token takes a place: a name, and a step's literal
abbrev pub takes : State → TokenKind → Bool
takes q (kind.Name n) = true
takes q (kind.Num n) = wants_size q
takes q m = false

abbrev pub first_place : List ℕ → ℕ
first_place [] = 0
first_place (p ∷ ps) = p

abbrev pub other_places : List ℕ → List ℕ
other_places [] = []
other_places (p ∷ ps) = ps

abbrev pub places_after : Bool → List ℕ → List ℕ
places_after true ps = other_places ps
places_after false ps = ps

-- the script that was read, if the text may end; a plain one has no procedures
abbrev pub read_script : List Decl → List Procedure → Acts → ProcedureSource
read_script ds ps a = record { decls = ds; procs = ps; body = a }

abbrev pub finish : State → Option ProcedureSource
finish (decls d ds) = Some (read_script ds [] no_acts)
finish (procedures ds ps) = Some (read_script ds ps no_acts)
finish (block a (top ds)) = Some (read_script ds [] a)
finish (block a (main ds ps)) = Some (read_script ds ps a)
finish q = None

-- a whole script with the places that are left, or the tokens from the first that doesn't fit
abbrev pub Outcome : Type 0
Outcome = Result (ProcedureSource × List ℕ) (List TokenKind)

abbrev pub ending : Option ProcedureSource → List ℕ → Outcome
ending (Some s) ps = Ok (s, ps)
ending None ps = Err []

abbrev pub going : Option State → (State → Outcome) → List TokenKind → Outcome
going (Some q) next ks = next q
going None next ks = Err ks

-- the machine reads tokens, and the places of names and steps
abbrev pub run : List TokenKind → List ℕ → State → Outcome
run [] ps q = ending (finish q) ps
run (k ∷ ks) ps q = going (step q k (first_place ps)) (run ks (places_after (takes q k) ps)) (k ∷ ks)

abbrev pub start : Dialect → State
start d = decls d []
