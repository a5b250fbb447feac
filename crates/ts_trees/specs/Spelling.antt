-- What a tree spells: its kinds of tokens, and the places that it keeps.
use Rattle.std.specs.Prelude.{ℕ, Bool, true, false, if◌then◌else◌, List, [], ◌∷◌, ◌++◌, Option, Some, None, map}
use Rattle.ts_checked.specs.declared.bin_op.BinOp.{BinOp}
use Rattle.ts_checked.specs.declared.bin_op.BinOp.TheVariants as op
use Rattle.ts_trees.specs.declared.word.Word.{Word}
use Rattle.ts_trees.specs.declared.stmt.Step.{Step}
use Rattle.ts_trees.specs.declared.script.Decl.{Decl}
use Rattle.ts_trees.specs.declared.script.DeclKind.{DeclKind}
use Rattle.ts_trees.specs.declared.script.DeclKind.TheVariants as decl
use Rattle.ts_trees.specs.declared.token.Token.{Token}
use Rattle.ts_trees.specs.declared.token.TokenKind.{TokenKind}
use Rattle.ts_trees.specs.declared.token.TokenKind.TheVariants as kind
use Rattle.ts_trees.specs.Tree.{Tree, number, variable, item, size, message_item, message_size, call, negative, inverse, two, paren, Trees, no_trees, tree_then, Act, set, set_item, append, take_last, clear, call_alone, if_then, if_else, for_next, while_do, run_procedure, Acts, no_acts, act_then, Source, Procedure, ProcedureSource}

-- the sign or keyword of an operator
abbrev pub sign : BinOp → TokenKind
sign op.Or = kind.Or
sign op.And = kind.And
sign op.Eq = kind.Eq
sign op.Ne = kind.Ne
sign op.Lt = kind.Lt
sign op.Gt = kind.Gt
sign op.Le = kind.Le
sign op.Ge = kind.Ge
sign op.Add = kind.Plus
sign op.Sub = kind.Minus
sign op.Mul = kind.Star
sign op.Div = kind.Slash
sign op.Rem = kind.Percent

-- the token of a word
abbrev pub name : Word → TokenKind
name w = kind.Name w.name

-- an expression's tokens; a call's arguments, with commas between them; and those after the first
abbrev mutual
  pub spelled : Tree → List TokenKind
  spelled (number n) = kind.Num n ∷ []
  spelled (variable w) = name w ∷ []
  spelled (item w e) = name w ∷ kind.OpenBox ∷ spelled e ++ kind.CloseBox ∷ []
  spelled (size w) = kind.Size ∷ kind.Open ∷ name w ∷ kind.Close ∷ []
  spelled (message_item e) = kind.Msg ∷ kind.OpenBox ∷ spelled e ++ kind.CloseBox ∷ []
  spelled message_size = kind.Size ∷ kind.Open ∷ kind.Msg ∷ kind.Close ∷ []
  spelled (call w es) = name w ∷ kind.Open ∷ args_spelled es ++ kind.Close ∷ []
  spelled (negative e) = kind.Minus ∷ spelled e
  spelled (inverse e) = kind.Not ∷ spelled e
  spelled (two o l r) = spelled l ++ sign o ∷ spelled r
  spelled (paren e) = kind.Open ∷ spelled e ++ kind.Close ∷ []

  pub args_spelled : Trees → List TokenKind
  args_spelled no_trees = []
  args_spelled (tree_then e es) = spelled e ++ more_spelled es

  pub more_spelled : Trees → List TokenKind
  more_spelled no_trees = []
  more_spelled (tree_then e es) = kind.Comma ∷ spelled e ++ more_spelled es

-- the sign before a step's literal
abbrev pub minus_spelled : Bool → List TokenKind
minus_spelled minus = if minus then kind.Minus ∷ [] else []

abbrev pub step_spelled : Option Step → List TokenKind
step_spelled None = []
step_spelled (Some s) = kind.Step ∷ minus_spelled s.minus ++ kind.Num s.size ∷ []

-- a statement's tokens, and a block's
abbrev mutual
  pub act_spelled : Act → List TokenKind
  act_spelled (set w e) = name w ∷ kind.Eq ∷ spelled e ++ kind.Semi ∷ []
  act_spelled (set_item w i e) = name w ∷ kind.OpenBox ∷ spelled i ++ (kind.CloseBox ∷ kind.Eq ∷ spelled e ++ kind.Semi ∷ [])
  act_spelled (append w e) = name w ∷ kind.OpenBox ∷ kind.CloseBox ∷ kind.Eq ∷ spelled e ++ kind.Semi ∷ []
  act_spelled (take_last w b) = name w ∷ kind.Eq ∷ name b ∷ kind.OpenBox ∷ kind.CloseBox ∷ kind.Semi ∷ []
  act_spelled (clear w) = kind.Clear ∷ kind.Open ∷ name w ∷ kind.Close ∷ kind.Semi ∷ []
  act_spelled (call_alone w es) = name w ∷ kind.Open ∷ args_spelled es ++ kind.Close ∷ kind.Semi ∷ []
  act_spelled (if_then e a) = kind.If ∷ spelled e ++ (kind.Then ∷ acts_spelled a ++ kind.End ∷ kind.If ∷ [])
  act_spelled (if_else e a b) =
      kind.If ∷ spelled e ++ (kind.Then ∷ acts_spelled a ++ (kind.Else ∷ acts_spelled b ++ kind.End ∷ kind.If ∷ []))
  act_spelled (for_next w f t s a v) =
      kind.For ∷ name w ∷ kind.Eq ∷ spelled f ++ (kind.To ∷ spelled t ++ (step_spelled s ++ (acts_spelled a ++ kind.Next ∷ name v ∷ [])))
  act_spelled (while_do e a) = kind.While ∷ spelled e ++ (acts_spelled a ++ kind.End ∷ kind.While ∷ [])
  act_spelled (run_procedure w es) = kind.Do ∷ name w ∷ kind.Open ∷ args_spelled es ++ kind.Close ∷ kind.Semi ∷ []

  pub acts_spelled : Acts → List TokenKind
  acts_spelled no_acts = []
  acts_spelled (act_then a more) = act_spelled a ++ acts_spelled more

-- the parameters of a procedure, with commas between them; and those after the first
abbrev pub other_params_spelled : List Word → List TokenKind
other_params_spelled [] = []
other_params_spelled (w ∷ ws) = kind.Comma ∷ name w ∷ other_params_spelled ws

abbrev pub params_spelled : List Word → List TokenKind
params_spelled [] = []
params_spelled (w ∷ ws) = name w ∷ other_params_spelled ws

-- a procedure's tokens, and those of procedures
abbrev pub procedure_spelled : Procedure → List TokenKind
procedure_spelled p =
    kind.Proc ∷ name p.name ∷ kind.Open ∷ params_spelled p.params ++ (kind.Close ∷ acts_spelled p.body ++ kind.End ∷ kind.Proc ∷ [])

abbrev pub procedures_spelled : List Procedure → List TokenKind
procedures_spelled [] = []
procedures_spelled (p ∷ ps) = procedure_spelled p ++ procedures_spelled ps

-- the keyword of a declaration
abbrev pub decl_keyword : DeclKind → TokenKind
decl_keyword decl.Shared = kind.Shared
decl_keyword decl.Private = kind.Private
decl_keyword decl.Buffer = kind.Buffer

-- what is before a declared name: its keyword, or a comma after a name of the same declaration
abbrev pub decl_start : Bool → DeclKind → TokenKind
decl_start first k = if first then decl_keyword k else kind.Comma

-- the sign that ends a declaration, if another one follows
abbrev pub decl_end : Bool → List TokenKind
decl_end first = if first then kind.Semi ∷ [] else []

-- what is between a declared name and those after it
abbrev pub decls_gap : List Decl → List TokenKind
decls_gap [] = kind.Semi ∷ []
decls_gap (d ∷ ds) = decl_end d.first

-- declarations
abbrev pub decls_spelled : List Decl → List TokenKind
decls_spelled [] = []
decls_spelled (d ∷ ds) = decl_start d.first d.kind ∷ name d.word ∷ (decls_gap ds ++ decls_spelled ds)

-- a script's tokens
abbrev pub source_spelled : Source → List TokenKind
source_spelled s = decls_spelled s.decls ++ acts_spelled s.body

-- those of a script with procedures
abbrev pub procedure_source_spelled : ProcedureSource → List TokenKind
procedure_source_spelled s = decls_spelled s.decls ++ (procedures_spelled s.procs ++ acts_spelled s.body)

-- the places that an expression keeps: those of its words
abbrev mutual
  pub places : Tree → List ℕ
  places (variable w) = w.place ∷ []
  places (item w e) = w.place ∷ places e
  places (size w) = w.place ∷ []
  places (message_item e) = places e
  places (call w es) = w.place ∷ args_places es
  places (negative e) = places e
  places (inverse e) = places e
  places (two o l r) = places l ++ places r
  places (paren e) = places e
  places _ = []

  pub args_places : Trees → List ℕ
  args_places no_trees = []
  args_places (tree_then e es) = places e ++ args_places es

abbrev pub step_places : Option Step → List ℕ
step_places None = []
step_places (Some s) = s.place ∷ []

-- the places that a statement keeps: those of its words and of the literal after `step`
abbrev mutual
  pub act_places : Act → List ℕ
  act_places (set w e) = w.place ∷ places e
  act_places (set_item w i e) = w.place ∷ places i ++ places e
  act_places (append w e) = w.place ∷ places e
  act_places (take_last w b) = w.place ∷ b.place ∷ []
  act_places (clear w) = w.place ∷ []
  act_places (call_alone w es) = w.place ∷ args_places es
  act_places (if_then e a) = places e ++ acts_places a
  act_places (if_else e a b) = places e ++ (acts_places a ++ acts_places b)
  act_places (for_next w f t s a v) = w.place ∷ places f ++ (places t ++ (step_places s ++ (acts_places a ++ v.place ∷ [])))
  act_places (while_do e a) = places e ++ acts_places a
  act_places (run_procedure w es) = w.place ∷ args_places es

  pub acts_places : Acts → List ℕ
  acts_places no_acts = []
  acts_places (act_then a more) = act_places a ++ acts_places more

abbrev pub decls_places : List Decl → List ℕ
decls_places ds = map (λ d. d.word.place) ds

-- the places that a script keeps, in their order in the text
abbrev pub source_places : Source → List ℕ
source_places s = decls_places s.decls ++ acts_places s.body

-- those of a procedure, of procedures, and of a script with procedures
abbrev pub params_places : List Word → List ℕ
params_places ws = map (λ w. w.place) ws

abbrev pub procedure_places : Procedure → List ℕ
procedure_places p = p.name.place ∷ params_places p.params ++ acts_places p.body

abbrev pub procedures_places : List Procedure → List ℕ
procedures_places [] = []
procedures_places (p ∷ ps) = procedure_places p ++ procedures_places ps

abbrev pub procedure_source_places : ProcedureSource → List ℕ
procedure_source_places s = decls_places s.decls ++ (procedures_places s.procs ++ acts_places s.body)

-- the place of a token if it is a literal
abbrev pub number_place : Token → TokenKind → List ℕ
number_place t (kind.Num n) = t.from ∷ []
number_place t k = []

abbrev pub first_number : List Token → List ℕ
first_number [] = []
first_number (t ∷ ts) = number_place t t.kind

-- the place of the literal that tokens begin with, after a `-` or not
abbrev pub literal_place : Token → TokenKind → List Token → List ℕ
literal_place t kind.Minus ts = first_number ts
literal_place t k ts = number_place t k

abbrev pub first_literal : List Token → List ℕ
first_literal [] = []
first_literal (t ∷ ts) = literal_place t t.kind ts

-- the place that a script keeps at a token: a name's own, and after `step` the literal's
abbrev pub note : Token → TokenKind → List Token → List ℕ
note t (kind.Name n) ts = t.from ∷ []
note t kind.Step ts = first_literal ts
note t k ts = []

-- the places of the names among tokens, and of the literals after `step`
abbrev pub noted : List Token → List ℕ
noted [] = []
noted (t ∷ ts) = note t t.kind ts ++ noted ts

-- the kinds of tokens
abbrev pub kinds : List Token → List TokenKind
kinds ts = map (λ t. t.kind) ts
