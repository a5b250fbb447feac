-- How a block ends: with `end` and a keyword, or with `next` and a name.
use Rattle.std.specs.Prelude.{◌≡◌, List, Result, Ok, Err}
use Rattle.std.proofs.Common.{Bor}
use Rattle.std.specs.Result.{IsErrAnd}
use Rattle.ts_trees.specs.declared.halt.Halt.{Halt}
use Rattle.ts_trees.specs.declared.halt.Halt.TheVariants as halt
use Rattle.ts_trees.specs.Parsing.{Starts, Lacks, StartsName, LacksName}
use Rattle.ts_trees.specs.declared.stmt.Stmt.{Stmt}
use Rattle.ts_trees.specs.declared.token.Token.{Token}
use Rattle.ts_trees.specs.declared.token.TokenKind.{TokenKind}
use Rattle.ts_trees.specs.declared.token.TokenKind.TheVariants as kind
use Rattle.ts_trees.specs.declared.word.Word.{Word}

abbrev pub ReadBlock : Type 0
ReadBlock = Result (List Stmt × Bor (List Token)) Halt

-- the tokens begin with `end` and this keyword
pub record StartsEnd (k : TokenKind) (tokens rest : List Token) : Type 0 where
  pub named : List Token
  pub ends : Starts kind.End tokens named
  pub names : Starts k named rest

-- one of the two is missing, at the rest
pub data LacksEnd (k : TokenKind) (tokens rest : List Token) : Type 0 where
  no_end : rest ≡ tokens → Lacks kind.End tokens → LacksEnd k tokens rest
  no_name : (named : List Token) → Starts kind.End tokens named → rest ≡ named → Lacks k named → LacksEnd k tokens rest

abbrev pub TakesEnd : TokenKind → List Token → Result (Bor (List Token)) Halt → Type 0
TakesEnd k tokens (Ok rest) = StartsEnd k tokens rest.now
TakesEnd k tokens (Err halt.Memory) = ⊥
TakesEnd k tokens (Err (halt.At rest)) = LacksEnd k tokens rest.now

-- a block with them after it
abbrev pub ClosedBlock : TokenKind → ReadBlock → ReadBlock → Type 0
ClosedBlock k (Ok x) (Ok y) = (y.0 ≡ x.0) × StartsEnd k x.1.now y.1.now
ClosedBlock k (Ok x) (Err e) = TakesEnd k x.1.now (Err e)
ClosedBlock k (Err e) r = IsErrAnd r (λ f. f ≡ e)

-- the tokens begin with `next` and this name
pub record ClosesCount (w : Word) (tokens rest : List Token) : Type 0 where
  pub named : List Token
  pub ends : Starts kind.Next tokens named
  pub names : StartsName w named rest

pub data LacksNext (tokens rest : List Token) : Type 0 where
  no_next : rest ≡ tokens → Lacks kind.Next tokens → LacksNext tokens rest
  no_last : (named : List Token) → Starts kind.Next tokens named → rest ≡ named → LacksName named → LacksNext tokens rest

abbrev pub Counted : ReadBlock → Result ((List Stmt × Word) × Bor (List Token)) Halt → Type 0
Counted (Ok x) (Ok y) = (y.0.0 ≡ x.0) × ClosesCount y.0.1 x.1.now y.1.now
Counted (Ok x) (Err halt.Memory) = ⊥
Counted (Ok x) (Err (halt.At rest)) = LacksNext x.1.now rest.now
Counted (Err e) r = IsErrAnd r (λ f. f ≡ e)
