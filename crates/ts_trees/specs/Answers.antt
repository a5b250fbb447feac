-- What an answer of the machine means.
use Rattle.std.specs.Prelude.{◌≡◌, ℕ, List, ◌++◌, Ok}
use Rattle.ts_trees.specs.declared.dialect.Dialect.{Dialect}
use Rattle.ts_trees.specs.declared.token.TokenKind.{TokenKind}
use Rattle.ts_trees.specs.Tree.{ProcedureSource}
use Rattle.ts_trees.specs.Script.{BeginsScriptIn}
use Rattle.ts_trees.specs.Faults.{StopsIn}
use Rattle.ts_trees.specs.Machine.{run, start}

-- the machine reads the tokens as a whole script
pub record IsTakenWhole (d : Dialect) (ks : List TokenKind) (places : List ℕ) : Type 0 where
  pub source : ProcedureSource
  pub left : List ℕ
  pub reads : run ks places (start d) ≡ Ok (source, left)

-- the tokens before rest begin a script, and don't with the first of rest; if there is none, they are no script
pub record Refused (d : Dialect) (ks rest : List TokenKind) : Type 0 where
  pub front : List TokenKind
  pub are : ks ≡ front ++ rest
  pub begins : BeginsScriptIn d front
  pub stops : StopsIn d front rest
