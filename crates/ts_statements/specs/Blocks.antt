-- What statements and blocks read, in a dialect.
use Rattle.std.specs.Prelude.{◌≡◌, List, [], ◌∷◌, Option, Some, None, Result}
use Rattle.std.proofs.Common.{Bor}
use Rattle.ts_trees.specs.declared.word.Word.{Word}
use Rattle.ts_trees.specs.declared.stmt.Step.{Step}
use Rattle.ts_trees.specs.declared.stmt.Stmt.{Stmt}
use Rattle.ts_trees.specs.declared.dialect.Dialect.{Dialect}
use Rattle.ts_trees.specs.declared.dialect.Dialect.TheVariants as dialect
use Rattle.ts_trees.specs.declared.token.Token.{Token}
use Rattle.ts_trees.specs.declared.token.TokenKind.{TokenKind}
use Rattle.ts_trees.specs.declared.token.TokenKind.TheVariants as kind
use Rattle.ts_trees.specs.Seen.{acts_of}
use Rattle.ts_trees.specs.Tree.{Tree, Act, if_then, if_else, for_next, while_do, Acts, no_acts}
use Rattle.ts_trees.specs.declared.halt.Halt.{Halt}
use Rattle.ts_statements.specs.declared.opening.Opening.{Opening}
use Rattle.ts_statements.specs.declared.opening.Opening.TheVariants as opening
use Rattle.ts_trees.specs.Machine.{Frame, dialect_of, then_part, for_part, while_part, in_if, in_while, State, block, stmt_named, cleared, for_word, do_word, word, expr_due, with_act}
use Rattle.ts_statements.specs.Taking.{ReadsOnto}

-- the opening by `do`, if a dialect has one
abbrev pub do_opening : Dialect → Option Opening
do_opening dialect.Plain = None
do_opening dialect.Procedures = Some opening.Do

-- the first token, if there is one, begins a statement
abbrev pub opening_of : Dialect → Token → TokenKind → Option Opening
opening_of d t (kind.Name n) = Some (opening.Named (word n t.from))
opening_of d t kind.Clear = Some opening.Clear
opening_of d t kind.If = Some opening.If
opening_of d t kind.For = Some opening.For
opening_of d t kind.While = Some opening.While
opening_of d t kind.Do = do_opening d
opening_of d t k = None

-- what an opening leads to
abbrev pub opened_by : Opening → Acts → Frame → State
opened_by (opening.Named w) a f = stmt_named w a f
opened_by opening.Clear a f = cleared a f
opened_by opening.If a f = expr_due (in_if a f)
opened_by opening.For a f = for_word a f
opened_by opening.While a f = expr_due (in_while a f)
opened_by opening.Do a f = do_word a f

-- the tokens begin with an opening
pub record StartsStmt (d : Dialect) (o : Opening) (tokens rest : List Token) : Type 0 where
  pub token : Token
  pub are : tokens ≡ token ∷ rest
  pub opens : opening_of d token token.kind ≡ Some o

-- no statement begins here
abbrev pub LacksStmt : Dialect → List Token → Type 0
LacksStmt d [] = Unit {0}
LacksStmt d (t ∷ ts) = opening_of d t t.kind ≡ None

abbrev pub FindsStmt : Dialect → List Token → Option (Opening × Bor (List Token)) → Type 0
FindsStmt d tokens (Some x) = StartsStmt d x.0 tokens x.1.now
FindsStmt d tokens None = LacksStmt d tokens

-- an open block of a script of the dialect
pub record FrameIn (d : Dialect) : Type 0 where
  pub frame : Frame
  pub speaks : dialect_of frame ≡ d

-- a statement is read from where it is due, after those of an open block of a script of the dialect, to which it is appended
abbrev pub ReadsStmtIn : Dialect → List Token → (Acts → Frame → State) → List Stmt → List Stmt → Result (Bor (List Token)) Halt → Type 0
ReadsStmtIn d tokens due old new result = ReadsOnto {K = FrameIn d} (λ f. f.frame) tokens due old new result

-- the branches of an `if` after `then`
pub record Choice (d : Dialect) : Type 0 where
  pub test : Tree
  pub before : Acts
  pub frame : FrameIn d

-- an `if` with an `else`, or without one
abbrev pub if_made : Tree → Acts → Option (List Stmt) → Act
if_made e a None = if_then e a
if_made e a (Some b) = if_else e a (acts_of b)

abbrev pub choice_made : {d : Dialect} → Choice d → Acts → Option (List Stmt) → State
choice_made k a b = block (with_act k.before (if_made k.test a b)) k.frame.frame

-- after the first branch
pub record Branch (d : Dialect) : Type 0 where
  pub choice : Choice d
  pub body : Acts

abbrev pub branch_due : {d : Dialect} → Branch d → State
branch_due k = block k.body (then_part k.choice.test k.choice.before k.choice.frame.frame)

-- the statements of a `while`
pub record Repetition (d : Dialect) : Type 0 where
  pub test : Tree
  pub before : Acts
  pub frame : FrameIn d

abbrev pub repeated_block : {d : Dialect} → Repetition d → State
repeated_block k = block no_acts (while_part k.test k.before k.frame.frame)

abbrev pub repetition_made : {d : Dialect} → Repetition d → Acts → State
repetition_made k a = block (with_act k.before (while_do k.test a)) k.frame.frame

-- the statements of a `for`
pub record Count (d : Dialect) : Type 0 where
  pub var : Word
  pub from : Tree
  pub to : Tree
  pub step : Option Step
  pub before : Acts
  pub frame : FrameIn d

abbrev pub counted_block : {d : Dialect} → Count d → State
counted_block k = block no_acts (for_part k.var k.from k.to k.step k.before k.frame.frame)

abbrev pub count_made : {d : Dialect} → Count d → Acts → Word → State
count_made k a last = block (with_act k.before (for_next k.var k.from k.to k.step a last)) k.frame.frame
