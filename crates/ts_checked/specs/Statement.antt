-- A checked statement as data: where its nodes lie in memory is forgotten.
use Rattle.std.specs.Prelude.{ℤ, List, [], ◌∷◌}
use Rattle.mate_num.specs.declared.id.BufId.{BufId}
use Rattle.mate_num.specs.declared.id.FunId.{FunId}
use Rattle.ts_checked.specs.declared.checked_stmt.CVar.{CVar}
use Rattle.ts_checked.specs.Expression.{Expression, Arguments}

mutual
  -- a statement; the parts of `For` are the variable, the first value, the limit, the step and the body
  pub data Statement : Type 0 where
    Set : CVar → Expression → Statement
    SetItem : BufId → Expression → Expression → Statement
    Append : BufId → Expression → Statement
    Take : CVar → BufId → Statement
    Clear : BufId → Statement
    Do : FunId → Arguments → Statement
    DoSend : FunId → BufId → Statement
    If : Expression → Block → Statement
    IfElse : Expression → Block → Block → Statement
    For : CVar → Expression → Expression → ℤ → Block → Statement
    While : Expression → Block → Statement

  -- statements, one after another
  pub data Block : Type 0 where
    no_statements : Block
    statement : Statement → Block → Block

-- a list as a block
abbrev pub block : List Statement → Block
block [] = no_statements
block (s ∷ ss) = statement s (block ss)
