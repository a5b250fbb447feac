-- What the statements that hold no block read, and the head of a `for`.
use Rattle.std.specs.Prelude.{◌≡◌, ℕ, Bool, true, false, List, [], ◌∷◌, Option, Some, None, Result, Ok, Err}
use Rattle.std.proofs.Common.{Bor}
use Rattle.ts_trees.specs.declared.word.Word.{Word}
use Rattle.ts_trees.specs.declared.stmt.ForHead.{ForHead}
use Rattle.ts_trees.specs.declared.stmt.Step.{Step}
use Rattle.ts_trees.specs.declared.stmt.Stmt.{Stmt}
use Rattle.ts_trees.specs.declared.token.Token.{Token}
use Rattle.ts_trees.specs.declared.token.TokenKind.TheVariants as kind
use Rattle.ts_trees.specs.Seen.{tree_of, act_of}
use Rattle.ts_trees.specs.Tree.{Tree, append, set_item, Acts, no_acts}
use Rattle.ts_trees.specs.declared.halt.Halt.{Halt}
use Rattle.ts_trees.specs.declared.halt.Halt.TheVariants as halt
use Rattle.ts_trees.specs.Machine.{Frame, for_part, Whole, in_set, in_set_item, in_append, in_to, State, have, block, set_to, set_taken, append_to, item_indexed, expr_due, with_act}
use Rattle.ts_trees.specs.Parsing.{Reads, reads, Starts, Lacks}

-- a statement is read from where it is due, after others of an open block
abbrev pub ReadsStmt : List Token → (Acts → Frame → State) → Result (Stmt × Bor (List Token)) Halt → Type 0
ReadsStmt tokens due result = Reads {K = Acts × Frame} tokens (λ k. due k.0 k.1) (λ s k. block (with_act k.0 (act_of s)) k.1) result

-- after `x =`: a buffer whose last value is taken, or none
abbrev pub FindsTaken : List Token → Option (Word × Bor (List Token)) → Type 0
FindsTaken tokens (Some x) = (w : Word) (a : Acts) (f : Frame) → reads tokens (set_to w a f) ≡ reads x.1.now (set_taken w x.0 a f)
FindsTaken tokens None = (w : Word) (a : Acts) (f : Frame) → reads tokens (set_to w a f) ≡ reads tokens (expr_due (in_set w a f))

-- where a value that is set is: after `p []`, or after `p [i]`
pub data Target : Type 0 where
  of_append : Word → Acts → Frame → Target
  of_item : Word → Tree → Acts → Frame → Target

abbrev pub value_due : Target → State
value_due (of_append w a f) = append_to w a f
value_due (of_item w i a f) = item_indexed w i a f

abbrev pub value_in : Target → Whole
value_in (of_append w a f) = in_append w a f
value_in (of_item w i a f) = in_set_item w i a f

abbrev pub value_set : Target → Tree → State
value_set (of_append w a f) e = block (with_act a (append w e)) f
value_set (of_item w i a f) e = block (with_act a (set_item w i e)) f

-- the limit of a `for`, and then its step, after its first value was read
pub record Bound : Type 0 where
  pub var : Word
  pub from : Tree
  pub before : Acts
  pub frame : Frame

abbrev pub limit_due : Bound → State
limit_due k = expr_due (in_to k.var k.from k.before k.frame)

abbrev pub limit_read : Bound → Tree → State
limit_read k e = have e (in_to k.var k.from k.before k.frame)

abbrev pub limited : Bound → Tree → Option Step → State
limited k e s = block no_acts (for_part k.var k.from e s k.before k.frame)

-- the step, after the limit was read
pub record Limit : Type 0 where
  pub bound : Bound
  pub to : Tree

-- the head of a `for`, and then its statements
abbrev pub head_read : Acts × Frame → ForHead → State
head_read k h = block no_acts (for_part h.var (tree_of h.from) (tree_of h.to) h.step k.0 k.1)

-- a `-` before a step's literal, or none
abbrev pub FindsMinus : List Token → Bool → List Token → Type 0
FindsMinus tokens true rest = Starts kind.Minus tokens rest
FindsMinus tokens false rest = (rest ≡ tokens) × Lacks kind.Minus tokens

-- a literal
pub record StartsNumber (n place : ℕ) (tokens rest : List Token) : Type 0 where
  pub token : Token
  pub are : tokens ≡ token ∷ rest
  pub number : token.kind ≡ kind.Num n
  pub stands : place ≡ token.from

abbrev pub LacksNumber : List Token → Type 0
LacksNumber [] = Unit {0}
LacksNumber (t ∷ ts) = (n : ℕ) → t.kind ≡ kind.Num n → ⊥

abbrev pub TakesNumber : List Token → Result (ℕ × ℕ × Bor (List Token)) Halt → Type 0
TakesNumber tokens (Ok x) = StartsNumber x.0 x.1 tokens x.2.now
TakesNumber tokens (Err halt.Memory) = ⊥
TakesNumber tokens (Err (halt.At rest)) = (rest.now ≡ tokens) × LacksNumber tokens
