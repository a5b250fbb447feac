use Rattle.std.proofs.Common.{ap, sym}
use Rattle.mate_code.specs.declared.kind.Kind.{Kind}
use Rattle.mate_code.specs.Kind.{instr_of}
use Rattle.mate_code.proofs.instr.Instr.of.Goals as goal

pub returns-in-Halt : goal.returns-in-Halt
returns-in-Halt c = ap (λ (k : Kind). instr_of k c.args.operand) (sym c.in-Halt.is)

pub returns-in-Add : goal.returns-in-Add
returns-in-Add c = ap (λ (k : Kind). instr_of k c.args.operand) (sym c.in-Add.is)

pub returns-in-Sub : goal.returns-in-Sub
returns-in-Sub c = ap (λ (k : Kind). instr_of k c.args.operand) (sym c.in-Sub.is)

pub returns-in-Mul : goal.returns-in-Mul
returns-in-Mul c = ap (λ (k : Kind). instr_of k c.args.operand) (sym c.in-Mul.is)

pub returns-in-Div : goal.returns-in-Div
returns-in-Div c = ap (λ (k : Kind). instr_of k c.args.operand) (sym c.in-Div.is)

pub returns-in-Mod : goal.returns-in-Mod
returns-in-Mod c = ap (λ (k : Kind). instr_of k c.args.operand) (sym c.in-Mod.is)

pub returns-in-Neg : goal.returns-in-Neg
returns-in-Neg c = ap (λ (k : Kind). instr_of k c.args.operand) (sym c.in-Neg.is)

pub returns-in-Not : goal.returns-in-Not
returns-in-Not c = ap (λ (k : Kind). instr_of k c.args.operand) (sym c.in-Not.is)

pub returns-in-And : goal.returns-in-And
returns-in-And c = ap (λ (k : Kind). instr_of k c.args.operand) (sym c.in-And.is)

pub returns-in-Or : goal.returns-in-Or
returns-in-Or c = ap (λ (k : Kind). instr_of k c.args.operand) (sym c.in-Or.is)

pub returns-in-Eq : goal.returns-in-Eq
returns-in-Eq c = ap (λ (k : Kind). instr_of k c.args.operand) (sym c.in-Eq.is)

pub returns-in-Ne : goal.returns-in-Ne
returns-in-Ne c = ap (λ (k : Kind). instr_of k c.args.operand) (sym c.in-Ne.is)

pub returns-in-Lt : goal.returns-in-Lt
returns-in-Lt c = ap (λ (k : Kind). instr_of k c.args.operand) (sym c.in-Lt.is)

pub returns-in-Gt : goal.returns-in-Gt
returns-in-Gt c = ap (λ (k : Kind). instr_of k c.args.operand) (sym c.in-Gt.is)

pub returns-in-Le : goal.returns-in-Le
returns-in-Le c = ap (λ (k : Kind). instr_of k c.args.operand) (sym c.in-Le.is)

pub returns-in-Ge : goal.returns-in-Ge
returns-in-Ge c = ap (λ (k : Kind). instr_of k c.args.operand) (sym c.in-Ge.is)

pub returns-in-Jz : goal.returns-in-Jz
returns-in-Jz c = ap (λ (k : Kind). instr_of k c.args.operand) (sym c.in-Jz.is)

pub returns-in-Jmp : goal.returns-in-Jmp
returns-in-Jmp c = ap (λ (k : Kind). instr_of k c.args.operand) (sym c.in-Jmp.is)

pub returns-in-Back : goal.returns-in-Back
returns-in-Back c = ap (λ (k : Kind). instr_of k c.args.operand) (sym c.in-Back.is)

pub returns-in-Drop : goal.returns-in-Drop
returns-in-Drop c = ap (λ (k : Kind). instr_of k c.args.operand) (sym c.in-Drop.is)

pub returns-in-MsgGet : goal.returns-in-MsgGet
returns-in-MsgGet c = ap (λ (k : Kind). instr_of k c.args.operand) (sym c.in-MsgGet.is)

pub returns-in-MsgSize : goal.returns-in-MsgSize
returns-in-MsgSize c = ap (λ (k : Kind). instr_of k c.args.operand) (sym c.in-MsgSize.is)

pub returns-in-Fun : goal.returns-in-Fun
returns-in-Fun c = ap (λ (k : Kind). instr_of k c.args.operand) (sym c.in-Fun.is)
