-- Which trees the grammar derives: each operand is at a level that its place allows, and a `do` is in the dialect with
-- procedures alone.
use Rattle.std.specs.Prelude.{◌≡◌, ◌⊎◌, ℕ, ◌≤◌, true, List, [], ◌∷◌}
use Rattle.mate_num.specs.Lists.{Along, Each}
use Rattle.ts_checked.specs.declared.bin_op.BinOp.{BinOp}
use Rattle.ts_checked.specs.declared.bin_op.BinOp.TheVariants as op
use Rattle.ts_trees.specs.declared.dialect.Dialect.{Dialect}
use Rattle.ts_trees.specs.declared.dialect.Dialect.TheVariants as dialect
use Rattle.ts_trees.specs.declared.script.Decl.{Decl}
use Rattle.ts_trees.specs.declared.script.DeclKind.{DeclKind}
use Rattle.ts_trees.specs.Tree.{Tree, item, message_item, call, negative, inverse, two, paren, Trees, no_trees, tree_then, Act, set, set_item, append, call_alone, if_then, if_else, for_next, while_do, run_procedure, Acts, no_acts, act_then, Source, Procedure, ProcedureSource}

-- the level of an operator's tree, and the levels that its left and its right operand need, where 0 is the loosest level: `or`
-- is at 0, `and` at 1, `not` at 2, comparisons are at 3, sums at 4, products at 5, a `-` before an operand at 6, and all else is
-- at 7; chains group to the left, and comparisons, which are all the operators that no other row names, make no chain
abbrev pub levels_of : BinOp → ℕ × ℕ × ℕ
levels_of op.Or = (0, 0, 1)
levels_of op.And = (1, 1, 2)
levels_of op.Add = (4, 4, 5)
levels_of op.Sub = (4, 4, 5)
levels_of op.Mul = (5, 5, 6)
levels_of op.Div = (5, 5, 6)
levels_of op.Rem = (5, 5, 6)
levels_of _ = (3, 4, 4)

-- the level of a tree
abbrev pub level : Tree → ℕ
level (negative e) = 6
level (inverse e) = 2
level (two o l r) = (levels_of o).0
level _ = 7

-- each operand in an expression is at the level that its place needs, or at a tighter one
abbrev mutual
  pub Derived : Tree → Type 0
  Derived (item w e) = Derived e
  Derived (message_item e) = Derived e
  Derived (call w es) = ArgsDerived es
  Derived (negative e) = (6 ≤ level e) × Derived e
  Derived (inverse e) = (2 ≤ level e) × Derived e
  Derived (two o l r) = ((levels_of o).1 ≤ level l) × Derived l × ((levels_of o).2 ≤ level r) × Derived r
  Derived (paren e) = Derived e
  Derived _ = Unit {0}

  pub ArgsDerived : Trees → Type 0
  ArgsDerived no_trees = Unit {0}
  ArgsDerived (tree_then e es) = Derived e × ArgsDerived es

-- the arguments of a `do`
abbrev pub RunDerived : Dialect → Trees → Type 0
RunDerived dialect.Plain es = ⊥
RunDerived dialect.Procedures es = ArgsDerived es

-- each expression in a statement is derived, and the dialect has each statement
abbrev mutual
  pub ActDerived : Dialect → Act → Type 0
  ActDerived d (set w e) = Derived e
  ActDerived d (set_item w i e) = Derived i × Derived e
  ActDerived d (append w e) = Derived e
  ActDerived d (call_alone w es) = ArgsDerived es
  ActDerived d (if_then e a) = Derived e × ActsDerived d a
  ActDerived d (if_else e a b) = Derived e × ActsDerived d a × ActsDerived d b
  ActDerived d (for_next w f t s a v) = Derived f × Derived t × ActsDerived d a
  ActDerived d (while_do e a) = Derived e × ActsDerived d a
  ActDerived d (run_procedure w es) = RunDerived d es
  ActDerived d _ = Unit {0}

  pub ActsDerived : Dialect → Acts → Type 0
  ActsDerived d no_acts = Unit {0}
  ActsDerived d (act_then a more) = ActDerived d a × ActsDerived d more

-- names of one declaration, and then whole declarations
abbrev pub NamesFollow : DeclKind → List Decl → Type 0
NamesFollow = Along (λ k d. (d.first ≡ true) ⊎ (d.kind ≡ k)) (λ k d. d.kind)

-- declared names: the first has its keyword, and each without a keyword is of the kind before it
abbrev pub DeclsDerived : List Decl → Type 0
DeclsDerived [] = Unit {0}
DeclsDerived (d ∷ ds) = (d.first ≡ true) × NamesFollow d.kind ds

-- the statements of each procedure are derived
abbrev pub ProceduresDerived : List Procedure → Type 0
ProceduresDerived = Each (λ p. ActsDerived dialect.Procedures p.body)

-- a script that the grammar derives
pub record IsDerived (s : Source) : Type 0 where
  pub decls : DeclsDerived s.decls
  pub body : ActsDerived dialect.Plain s.body

-- a dialect's procedures
abbrev pub ProceduresIn : Dialect → List Procedure → Type 0
ProceduresIn dialect.Plain ps = ps ≡ []
ProceduresIn dialect.Procedures ps = ProceduresDerived ps

-- a script that a dialect's grammar derives; if the dialect has no procedures, the script has none
pub record IsDerivedIn (d : Dialect) (s : ProcedureSource) : Type 0 where
  pub decls : DeclsDerived s.decls
  pub procs : ProceduresIn d s.procs
  pub body : ActsDerived d s.body

-- a script with procedures that the grammar derives
abbrev pub IsDerivedWithProcedures : ProcedureSource → Type 0
IsDerivedWithProcedures s = IsDerivedIn dialect.Procedures s
