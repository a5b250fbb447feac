-- What a part of the parser does, said by the machine: at each place where the part may be.
use Rattle.std.specs.Prelude.{◌≡◌, ℕ, Bool, true, false, List, [], ◌∷◌, ◌++◌, Option, Some, None, Result, Ok, Err}
use Rattle.std.proofs.Common.{Bor}
use Rattle.std.specs.Result.{IsErrAnd}
use Rattle.ts_checked.specs.declared.bin_op.BinOp.{BinOp}
use Rattle.ts_trees.specs.declared.word.Word.{Word}
use Rattle.ts_trees.specs.declared.token.Token.{Token}
use Rattle.ts_trees.specs.declared.token.TokenKind.{TokenKind}
use Rattle.ts_trees.specs.declared.token.TokenKind.TheVariants as kind
use Rattle.ts_trees.specs.Spelling.{kinds, note}
use Rattle.ts_trees.specs.declared.halt.Halt.{Halt}
use Rattle.ts_trees.specs.declared.halt.Halt.TheVariants as halt
use Rattle.ts_trees.specs.Code.{kind_code}
use Rattle.ts_trees.specs.Tree.{Trees, Acts, call, call_alone, run_procedure}
use Rattle.ts_trees.specs.Machine.{Operand, Frame, Whole, in_args, in_call, in_do, State, opened, call_opened, do_opened, closed, give, Outcome, run}

-- the places that tokens note, and one more, so that it shows whether too many were taken
abbrev pub noted_then : List Token → List ℕ
noted_then [] = 0 ∷ []
noted_then (t ∷ ts) = note t t.kind ts ++ noted_then ts

-- what the machine reads from a state on
abbrev pub reads : List Token → State → Outcome
reads ts q = run (kinds ts) (noted_then ts) q

-- a result, unless memory runs out
abbrev pub Gives : {X : Type 0} → Result X Halt → (X → Type 0) → (List Token → Type 0) → Type 0
Gives (Ok x) P Q = P x
Gives (Err halt.Memory) P Q = Unit {0}
Gives (Err (halt.At rest)) P Q = Q rest.now

-- a part is read from where it is due to what it leads to, or the machine stops at the rest
abbrev pub Reads : {X K : Type 0} → List Token → (K → State) → (X → K → State) → Result (X × Bor (List Token)) Halt → Type 0
Reads {X} {K} tokens due got result =
    Gives result (λ x. (k : K) → reads tokens (due k) ≡ reads x.1.now (got x.0 k))
    (λ rest. (k : K) → reads tokens (due k) ≡ Err (kinds rest))

-- a test that holds
abbrev pub Holds : Bool → Type 0
Holds true = Unit {0}
Holds false = ⊥

-- the first token is of a kind that the test allows, if there is one
abbrev pub Head : (TokenKind → Bool) → List Token → Type 0
Head P [] = Unit {0}
Head P (t ∷ ts) = Holds (P t.kind)

-- the first token is of this kind, by its number
pub record Starts (k : TokenKind) (tokens rest : List Token) : Type 0 where
  pub token : Token
  pub are : tokens ≡ token ∷ rest
  pub kind : kind_code token.kind ≡ kind_code k

-- the first token, if there is one, is of another kind
abbrev pub Lacks : TokenKind → List Token → Type 0
Lacks k [] = Unit {0}
Lacks k (t ∷ ts) = kind_code t.kind ≡ kind_code k → ⊥

-- a token of this kind is taken
abbrev pub Takes : TokenKind → List Token → Result (Bor (List Token)) Halt → Type 0
Takes k tokens (Ok rest) = Starts k tokens rest.now
Takes k tokens (Err halt.Memory) = ⊥
Takes k tokens (Err (halt.At rest)) = (rest.now ≡ tokens) × Lacks k tokens

-- a part that was read, and a token of this kind taken after it
abbrev pub Ended : {X : Type 0} → TokenKind → Result (X × Bor (List Token)) Halt → Result (X × Bor (List Token)) Halt → Type 0
Ended k (Err e) result = IsErrAnd result (λ x. x ≡ e)
Ended k (Ok x) (Ok y) = (y.0 ≡ x.0) × Starts k x.1.now y.1.now
Ended k (Ok x) (Err halt.Memory) = ⊥
Ended k (Ok x) (Err (halt.At rest)) = (rest.now ≡ x.1.now) × Lacks k x.1.now

-- the same, as a look ahead
abbrev pub Finds : TokenKind → List Token → Option (Bor (List Token)) → Type 0
Finds k tokens (Some rest) = Starts k tokens rest.now
Finds k tokens None = Lacks k tokens

-- the first token is this word
pub record StartsName (w : Word) (tokens rest : List Token) : Type 0 where
  pub token : Token
  pub are : tokens ≡ token ∷ rest
  pub name : token.kind ≡ kind.Name w.name
  pub place : w.place ≡ token.from

-- the first token, if there is one, is no name
abbrev pub LacksName : List Token → Type 0
LacksName [] = Unit {0}
LacksName (t ∷ ts) = (n : List ℕ) → t.kind ≡ kind.Name n → ⊥

abbrev pub TakesName : List Token → Result (Word × Bor (List Token)) Halt → Type 0
TakesName tokens (Ok x) = StartsName x.0 tokens x.1.now
TakesName tokens (Err halt.Memory) = ⊥
TakesName tokens (Err (halt.At rest)) = (rest.now ≡ tokens) × LacksName tokens

-- the first token is an operator, by the function
pub record StartsOperator (f : TokenKind → Option BinOp) (o : BinOp) (tokens rest : List Token) : Type 0 where
  pub token : Token
  pub are : tokens ≡ token ∷ rest
  pub operator : f token.kind ≡ Some o

abbrev pub LacksOperator : (TokenKind → Option BinOp) → List Token → Type 0
LacksOperator f [] = Unit {0}
LacksOperator f (t ∷ ts) = f t.kind ≡ None

abbrev pub FindsOperator : (TokenKind → Option BinOp) → List Token → Option (BinOp × Bor (List Token)) → Type 0
FindsOperator f tokens (Some x) = StartsOperator f x.0 tokens x.1.now
FindsOperator f tokens None = LacksOperator f tokens

-- where the arguments of a call are: in an expression, in a statement alone, or after `do`
pub data Caller : Type 0 where
  of_operand : Word → Operand → Caller
  of_stmt : Word → Acts → Frame → Caller
  of_do : Word → Acts → Frame → Caller

abbrev pub called_open : Caller → State
called_open (of_operand w k) = opened w k
called_open (of_stmt w a f) = call_opened w a f
called_open (of_do w a f) = do_opened w a f

abbrev pub called_with : Caller → Trees → Whole
called_with (of_operand w k) es = in_args w es k
called_with (of_stmt w a f) es = in_call w es a f
called_with (of_do w a f) es = in_do w es a f

abbrev pub called : Caller → Trees → State
called (of_operand w k) es = give k (call w es)
called (of_stmt w a f) es = closed (call_alone w es) a f
called (of_do w a f) es = closed (run_procedure w es) a f
