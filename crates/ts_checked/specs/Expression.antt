-- A checked expression as data: where its nodes lie in memory is forgotten.
use Rattle.std.specs.Prelude.{ℕ, ℤ, List, [], ◌∷◌}
use Rattle.mate_num.specs.declared.id.VarId.{VarId}
use Rattle.mate_num.specs.declared.id.BufId.{BufId}
use Rattle.mate_num.specs.declared.id.FunId.{FunId}
use Rattle.ts_checked.specs.declared.bin_op.BinOp.{BinOp}

mutual
  -- an expression; the number of a private variable goes from 0 to 7
  pub data Expression : Type 0 where
    Num : ℤ → Expression
    Shared : VarId → Expression
    Private : ℕ → Expression
    Item : BufId → Expression → Expression
    Size : BufId → Expression
    MsgItem : Expression → Expression
    MsgSize : Expression
    Call : FunId → Arguments → Expression
    SendBuf : FunId → BufId → Expression
    Neg : Expression → Expression
    Not : Expression → Expression
    Two : BinOp → Expression → Expression → Expression

  -- the arguments of a call, in order
  pub data Arguments : Type 0 where
    no_arguments : Arguments
    argument : Expression → Arguments → Arguments

-- a list as arguments
abbrev pub arguments : List Expression → Arguments
arguments [] = no_arguments
arguments (e ∷ es) = argument e (arguments es)
