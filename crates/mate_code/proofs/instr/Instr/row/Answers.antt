use Rattle.std.proofs.Common.{◌∙◌, ap, sym}
use Rattle.mate_code.specs.Row.{row_of}
use Rattle.mate_code.proofs.instr.Instr.row.Goals as goal

pub returns-in-Halt : goal.returns-in-Halt
returns-in-Halt c = c.columns.ensures ∙ ap row_of (sym c.in-Halt.is)

pub returns-in-PushW : goal.returns-in-PushW
returns-in-PushW c = c.columns-in-PushW.ensures ∙ ap row_of (sym c.in-PushW.is)

pub returns-in-PushB : goal.returns-in-PushB
returns-in-PushB c = c.of_byte.ensures ∙ ap row_of (sym c.in-PushB.is)

pub returns-in-GetS : goal.returns-in-GetS
returns-in-GetS c = c.of_byte-in-GetS.ensures ∙ ap row_of (sym c.in-GetS.is)

pub returns-in-SetS : goal.returns-in-SetS
returns-in-SetS c = c.of_byte-in-SetS.ensures ∙ ap row_of (sym c.in-SetS.is)

pub returns-in-GetP : goal.returns-in-GetP
returns-in-GetP c = c.of_byte-in-GetP.ensures ∙ ap row_of (sym c.in-GetP.is)

pub returns-in-SetP : goal.returns-in-SetP
returns-in-SetP c = c.of_byte-in-SetP.ensures ∙ ap row_of (sym c.in-SetP.is)

pub returns-in-Add : goal.returns-in-Add
returns-in-Add c = c.plain.ensures ∙ ap row_of (sym c.in-Add.is)

pub returns-in-Sub : goal.returns-in-Sub
returns-in-Sub c = c.plain-in-Sub.ensures ∙ ap row_of (sym c.in-Sub.is)

pub returns-in-Mul : goal.returns-in-Mul
returns-in-Mul c = c.plain-in-Mul.ensures ∙ ap row_of (sym c.in-Mul.is)

pub returns-in-Div : goal.returns-in-Div
returns-in-Div c = c.plain-in-Div.ensures ∙ ap row_of (sym c.in-Div.is)

pub returns-in-Mod : goal.returns-in-Mod
returns-in-Mod c = c.plain-in-Mod.ensures ∙ ap row_of (sym c.in-Mod.is)

pub returns-in-Neg : goal.returns-in-Neg
returns-in-Neg c = c.plain-in-Neg.ensures ∙ ap row_of (sym c.in-Neg.is)

pub returns-in-Not : goal.returns-in-Not
returns-in-Not c = c.plain-in-Not.ensures ∙ ap row_of (sym c.in-Not.is)

pub returns-in-And : goal.returns-in-And
returns-in-And c = c.plain-in-And.ensures ∙ ap row_of (sym c.in-And.is)

pub returns-in-Or : goal.returns-in-Or
returns-in-Or c = c.plain-in-Or.ensures ∙ ap row_of (sym c.in-Or.is)

pub returns-in-Eq : goal.returns-in-Eq
returns-in-Eq c = c.plain-in-Eq.ensures ∙ ap row_of (sym c.in-Eq.is)

pub returns-in-Ne : goal.returns-in-Ne
returns-in-Ne c = c.plain-in-Ne.ensures ∙ ap row_of (sym c.in-Ne.is)

pub returns-in-Lt : goal.returns-in-Lt
returns-in-Lt c = c.plain-in-Lt.ensures ∙ ap row_of (sym c.in-Lt.is)

pub returns-in-Gt : goal.returns-in-Gt
returns-in-Gt c = c.plain-in-Gt.ensures ∙ ap row_of (sym c.in-Gt.is)

pub returns-in-Le : goal.returns-in-Le
returns-in-Le c = c.plain-in-Le.ensures ∙ ap row_of (sym c.in-Le.is)

pub returns-in-Ge : goal.returns-in-Ge
returns-in-Ge c = c.plain-in-Ge.ensures ∙ ap row_of (sym c.in-Ge.is)

pub returns-in-Jz : goal.returns-in-Jz
returns-in-Jz c = c.columns-in-Jz.ensures ∙ ap row_of (sym c.in-Jz.is)

pub returns-in-Jmp : goal.returns-in-Jmp
returns-in-Jmp c = c.columns-in-Jmp.ensures ∙ ap row_of (sym c.in-Jmp.is)

pub returns-in-Back : goal.returns-in-Back
returns-in-Back c = c.columns-in-Back.ensures ∙ ap row_of (sym c.in-Back.is)

pub returns-in-Drop : goal.returns-in-Drop
returns-in-Drop c = c.plain-in-Drop.ensures ∙ ap row_of (sym c.in-Drop.is)

pub returns-in-MsgGet : goal.returns-in-MsgGet
returns-in-MsgGet c = c.plain-in-MsgGet.ensures ∙ ap row_of (sym c.in-MsgGet.is)

pub returns-in-MsgSize : goal.returns-in-MsgSize
returns-in-MsgSize c = c.plain-in-MsgSize.ensures ∙ ap row_of (sym c.in-MsgSize.is)

pub returns-in-BGet : goal.returns-in-BGet
returns-in-BGet c = c.of_byte-in-BGet.ensures ∙ ap row_of (sym c.in-BGet.is)

pub returns-in-BSet : goal.returns-in-BSet
returns-in-BSet c = c.of_byte-in-BSet.ensures ∙ ap row_of (sym c.in-BSet.is)

pub returns-in-BAdd : goal.returns-in-BAdd
returns-in-BAdd c = c.of_byte-in-BAdd.ensures ∙ ap row_of (sym c.in-BAdd.is)

pub returns-in-BTake : goal.returns-in-BTake
returns-in-BTake c = c.of_byte-in-BTake.ensures ∙ ap row_of (sym c.in-BTake.is)

pub returns-in-BSize : goal.returns-in-BSize
returns-in-BSize c = c.of_byte-in-BSize.ensures ∙ ap row_of (sym c.in-BSize.is)

pub returns-in-BClear : goal.returns-in-BClear
returns-in-BClear c = c.of_byte-in-BClear.ensures ∙ ap row_of (sym c.in-BClear.is)

pub returns-in-Fun : goal.returns-in-Fun
returns-in-Fun c = c.columns-in-Fun.ensures ∙ ap row_of (sym c.in-Fun.is)

pub returns-in-FunBuf : goal.returns-in-FunBuf
returns-in-FunBuf c = c.of_byte-in-FunBuf.ensures ∙ ap row_of (sym c.in-FunBuf.is)
