use Rattle.std.proofs.Common.{ap, sym, rules, refl}
use Rattle.mate_num.specs.Operators.{or_div_zero, sum_of, difference_of, product_of, quotient_of, remainder_of, negative_of, not_of, and_of, or_of, eq_of, ne_of, lt_of, gt_of, le_of, ge_of}
use Rattle.mate_code.specs.CodeUses.{use_of}
use Rattle.mate_code.specs.declared.instr.Instr.TheVariants.{Add, Sub, Mul, Div, Mod, Neg, Not, And, Or, Eq, Ne, Lt, Gt, Le, Ge}
use Rattle.exec_unit.specs.Follows.{step_end}
use Rattle.exec_unit.specs.Machine.{private_in}
use Rattle.mate_num.proofs.NumberLemmas.{value-is}
use Rattle.exec_unit.proofs.OperandLemmas.{at, replaced-one, replaced-two, divided-two}
use Rattle.exec_unit.proofs.instruction.act.Goals as goal

pub returns-in-GetS : goal.returns-in-GetS
returns-in-GetS c = at c.args.shape.now c.args.registers.now.place (private_in c.args.registers.now c.args.memory.now) (private_in c.past-in-GetS.result.now c.args.memory.now) c.args.heap.now (step_end c.get_variable.result) (private_in c.get_variable.new.registers c.get_variable.new.memory) c.args.heap.now (search rules) c.in-GetS.is (c.past-in-GetS.ensures.value c.args.memory.now) (c.get_variable.ensures c.args.shape.now)

pub returns-in-SetS : goal.returns-in-SetS
returns-in-SetS c = at c.args.shape.now c.args.registers.now.place (private_in c.args.registers.now c.args.memory.now) (private_in c.past-in-SetS.result.now c.args.memory.now) c.args.heap.now (step_end c.set_variable.result) (private_in c.set_variable.new.registers c.set_variable.new.memory) c.set_variable.new.heap (search rules) c.in-SetS.is (c.past-in-SetS.ensures.value c.args.memory.now) (c.set_variable.ensures c.args.shape.now)

pub returns-in-GetP : goal.returns-in-GetP
returns-in-GetP c = at c.args.shape.now c.args.registers.now.place (private_in c.args.registers.now c.args.memory.now) (private_in c.past-in-GetP.result.now c.args.memory.now) c.args.heap.now (step_end c.get_private.result) (private_in c.get_private.new.registers c.get_private.new.memory) c.args.heap.now (search rules) c.in-GetP.is (c.past-in-GetP.ensures.value c.args.memory.now) (c.get_private.ensures c.args.heap.now c.args.shape.now)

pub returns-in-SetP : goal.returns-in-SetP
returns-in-SetP c = at c.args.shape.now c.args.registers.now.place (private_in c.args.registers.now c.args.memory.now) (private_in c.past-in-SetP.result.now c.args.memory.now) c.args.heap.now (step_end c.set_private.result) (private_in c.set_private.new.registers c.set_private.new.memory) c.args.heap.now (search rules) c.in-SetP.is (c.past-in-SetP.ensures.value c.args.memory.now) (c.set_private.ensures c.args.heap.now c.args.shape.now)

pub returns-in-Add : goal.returns-in-Add
returns-in-Add c = at c.args.shape.now c.args.registers.now.place (private_in c.args.registers.now c.args.memory.now) (private_in c.past-in-Add.result.now c.args.memory.now) c.args.heap.now (step_end c.on_two.result) (private_in c.on_two.new.registers c.on_two.new.memory) c.args.heap.now (search rules) c.in-Add.is (c.past-in-Add.ensures.value c.args.memory.now)
    (replaced-two sum_of _ (private_in c.past-in-Add.result.now c.args.memory.now) (private_in c.on_two.new.registers c.on_two.new.memory) c.on_two.result c.on_two.ensures.value c.on_two.ensures.end (λ a b v e. value-is v _ e.2) (use_of Add) c.args.heap.now)

pub returns-in-Sub : goal.returns-in-Sub
returns-in-Sub c = at c.args.shape.now c.args.registers.now.place (private_in c.args.registers.now c.args.memory.now) (private_in c.past-in-Sub.result.now c.args.memory.now) c.args.heap.now (step_end c.on_two-in-Sub.result) (private_in c.on_two-in-Sub.new.registers c.on_two-in-Sub.new.memory) c.args.heap.now (search rules) c.in-Sub.is (c.past-in-Sub.ensures.value c.args.memory.now)
    (replaced-two difference_of _ (private_in c.past-in-Sub.result.now c.args.memory.now) (private_in c.on_two-in-Sub.new.registers c.on_two-in-Sub.new.memory) c.on_two-in-Sub.result c.on_two-in-Sub.ensures.value c.on_two-in-Sub.ensures.end (λ a b v e. value-is v _ e.2) (use_of Sub) c.args.heap.now)

pub returns-in-Mul : goal.returns-in-Mul
returns-in-Mul c = at c.args.shape.now c.args.registers.now.place (private_in c.args.registers.now c.args.memory.now) (private_in c.past-in-Mul.result.now c.args.memory.now) c.args.heap.now (step_end c.on_two-in-Mul.result) (private_in c.on_two-in-Mul.new.registers c.on_two-in-Mul.new.memory) c.args.heap.now (search rules) c.in-Mul.is (c.past-in-Mul.ensures.value c.args.memory.now)
    (replaced-two product_of _ (private_in c.past-in-Mul.result.now c.args.memory.now) (private_in c.on_two-in-Mul.new.registers c.on_two-in-Mul.new.memory) c.on_two-in-Mul.result c.on_two-in-Mul.ensures.value c.on_two-in-Mul.ensures.end (λ a b v e. value-is v _ e.2) (use_of Mul) c.args.heap.now)

pub returns-in-Div : goal.returns-in-Div
returns-in-Div c = at c.args.shape.now c.args.registers.now.place (private_in c.args.registers.now c.args.memory.now) (private_in c.past-in-Div.result.now c.args.memory.now) c.args.heap.now (step_end c.divide.result) (private_in c.divide.new.registers c.divide.new.memory) c.args.heap.now (search rules) c.in-Div.is (c.past-in-Div.ensures.value c.args.memory.now)
    (divided-two quotient_of _ (private_in c.past-in-Div.result.now c.args.memory.now) (private_in c.divide.new.registers c.divide.new.memory) (step_end c.divide.result) c.divide.ensures (λ a b v e. ap or_div_zero (sym e.2)) (use_of Div) c.args.heap.now)

pub returns-in-Mod : goal.returns-in-Mod
returns-in-Mod c = at c.args.shape.now c.args.registers.now.place (private_in c.args.registers.now c.args.memory.now) (private_in c.past-in-Mod.result.now c.args.memory.now) c.args.heap.now (step_end c.divide-in-Mod.result) (private_in c.divide-in-Mod.new.registers c.divide-in-Mod.new.memory) c.args.heap.now (search rules) c.in-Mod.is (c.past-in-Mod.ensures.value c.args.memory.now)
    (divided-two remainder_of _ (private_in c.past-in-Mod.result.now c.args.memory.now) (private_in c.divide-in-Mod.new.registers c.divide-in-Mod.new.memory) (step_end c.divide-in-Mod.result) c.divide-in-Mod.ensures (λ a b v e. ap or_div_zero (sym e.2)) (use_of Mod) c.args.heap.now)

pub returns-in-Neg : goal.returns-in-Neg
returns-in-Neg c = at c.args.shape.now c.args.registers.now.place (private_in c.args.registers.now c.args.memory.now) (private_in c.past-in-Neg.result.now c.args.memory.now) c.args.heap.now (step_end c.on_one.result) (private_in c.on_one.new.registers c.on_one.new.memory) c.args.heap.now (search rules) c.in-Neg.is (c.past-in-Neg.ensures.value c.args.memory.now)
    (replaced-one negative_of _ (private_in c.past-in-Neg.result.now c.args.memory.now) (private_in c.on_one.new.registers c.on_one.new.memory) c.on_one.result c.on_one.ensures.value c.on_one.ensures.end (λ x v e. value-is v _ e.1) (use_of Neg) c.args.heap.now)

pub returns-in-Not : goal.returns-in-Not
returns-in-Not c = at c.args.shape.now c.args.registers.now.place (private_in c.args.registers.now c.args.memory.now) (private_in c.past-in-Not.result.now c.args.memory.now) c.args.heap.now (step_end c.on_one-in-Not.result) (private_in c.on_one-in-Not.new.registers c.on_one-in-Not.new.memory) c.args.heap.now (search rules) c.in-Not.is (c.past-in-Not.ensures.value c.args.memory.now)
    (replaced-one not_of _ (private_in c.past-in-Not.result.now c.args.memory.now) (private_in c.on_one-in-Not.new.registers c.on_one-in-Not.new.memory) c.on_one-in-Not.result c.on_one-in-Not.ensures.value c.on_one-in-Not.ensures.end (λ x v e. value-is v _ e.1) (use_of Not) c.args.heap.now)

pub returns-in-And : goal.returns-in-And
returns-in-And c = at c.args.shape.now c.args.registers.now.place (private_in c.args.registers.now c.args.memory.now) (private_in c.past-in-And.result.now c.args.memory.now) c.args.heap.now (step_end c.on_two-in-And.result) (private_in c.on_two-in-And.new.registers c.on_two-in-And.new.memory) c.args.heap.now (search rules) c.in-And.is (c.past-in-And.ensures.value c.args.memory.now)
    (replaced-two and_of _ (private_in c.past-in-And.result.now c.args.memory.now) (private_in c.on_two-in-And.new.registers c.on_two-in-And.new.memory) c.on_two-in-And.result c.on_two-in-And.ensures.value c.on_two-in-And.ensures.end (λ a b v e. value-is v _ e.2) (use_of And) c.args.heap.now)

pub returns-in-Or : goal.returns-in-Or
returns-in-Or c = at c.args.shape.now c.args.registers.now.place (private_in c.args.registers.now c.args.memory.now) (private_in c.past-in-Or.result.now c.args.memory.now) c.args.heap.now (step_end c.on_two-in-Or.result) (private_in c.on_two-in-Or.new.registers c.on_two-in-Or.new.memory) c.args.heap.now (search rules) c.in-Or.is (c.past-in-Or.ensures.value c.args.memory.now)
    (replaced-two or_of _ (private_in c.past-in-Or.result.now c.args.memory.now) (private_in c.on_two-in-Or.new.registers c.on_two-in-Or.new.memory) c.on_two-in-Or.result c.on_two-in-Or.ensures.value c.on_two-in-Or.ensures.end (λ a b v e. value-is v _ e.2) (use_of Or) c.args.heap.now)

pub returns-in-Eq : goal.returns-in-Eq
returns-in-Eq c = at c.args.shape.now c.args.registers.now.place (private_in c.args.registers.now c.args.memory.now) (private_in c.past-in-Eq.result.now c.args.memory.now) c.args.heap.now (step_end c.on_two-in-Eq.result) (private_in c.on_two-in-Eq.new.registers c.on_two-in-Eq.new.memory) c.args.heap.now (search rules) c.in-Eq.is (c.past-in-Eq.ensures.value c.args.memory.now)
    (replaced-two eq_of _ (private_in c.past-in-Eq.result.now c.args.memory.now) (private_in c.on_two-in-Eq.new.registers c.on_two-in-Eq.new.memory) c.on_two-in-Eq.result c.on_two-in-Eq.ensures.value c.on_two-in-Eq.ensures.end (λ a b v e. value-is v _ e.2) (use_of Eq) c.args.heap.now)

pub returns-in-Ne : goal.returns-in-Ne
returns-in-Ne c = at c.args.shape.now c.args.registers.now.place (private_in c.args.registers.now c.args.memory.now) (private_in c.past-in-Ne.result.now c.args.memory.now) c.args.heap.now (step_end c.on_two-in-Ne.result) (private_in c.on_two-in-Ne.new.registers c.on_two-in-Ne.new.memory) c.args.heap.now (search rules) c.in-Ne.is (c.past-in-Ne.ensures.value c.args.memory.now)
    (replaced-two ne_of _ (private_in c.past-in-Ne.result.now c.args.memory.now) (private_in c.on_two-in-Ne.new.registers c.on_two-in-Ne.new.memory) c.on_two-in-Ne.result c.on_two-in-Ne.ensures.value c.on_two-in-Ne.ensures.end (λ a b v e. value-is v _ e.2) (use_of Ne) c.args.heap.now)

pub returns-in-Lt : goal.returns-in-Lt
returns-in-Lt c = at c.args.shape.now c.args.registers.now.place (private_in c.args.registers.now c.args.memory.now) (private_in c.past-in-Lt.result.now c.args.memory.now) c.args.heap.now (step_end c.on_two-in-Lt.result) (private_in c.on_two-in-Lt.new.registers c.on_two-in-Lt.new.memory) c.args.heap.now (search rules) c.in-Lt.is (c.past-in-Lt.ensures.value c.args.memory.now)
    (replaced-two lt_of _ (private_in c.past-in-Lt.result.now c.args.memory.now) (private_in c.on_two-in-Lt.new.registers c.on_two-in-Lt.new.memory) c.on_two-in-Lt.result c.on_two-in-Lt.ensures.value c.on_two-in-Lt.ensures.end (λ a b v e. value-is v _ e.2) (use_of Lt) c.args.heap.now)

pub returns-in-Gt : goal.returns-in-Gt
returns-in-Gt c = at c.args.shape.now c.args.registers.now.place (private_in c.args.registers.now c.args.memory.now) (private_in c.past-in-Gt.result.now c.args.memory.now) c.args.heap.now (step_end c.on_two-in-Gt.result) (private_in c.on_two-in-Gt.new.registers c.on_two-in-Gt.new.memory) c.args.heap.now (search rules) c.in-Gt.is (c.past-in-Gt.ensures.value c.args.memory.now)
    (replaced-two gt_of _ (private_in c.past-in-Gt.result.now c.args.memory.now) (private_in c.on_two-in-Gt.new.registers c.on_two-in-Gt.new.memory) c.on_two-in-Gt.result c.on_two-in-Gt.ensures.value c.on_two-in-Gt.ensures.end (λ a b v e. value-is v _ e.2) (use_of Gt) c.args.heap.now)

pub returns-in-Le : goal.returns-in-Le
returns-in-Le c = at c.args.shape.now c.args.registers.now.place (private_in c.args.registers.now c.args.memory.now) (private_in c.past-in-Le.result.now c.args.memory.now) c.args.heap.now (step_end c.on_two-in-Le.result) (private_in c.on_two-in-Le.new.registers c.on_two-in-Le.new.memory) c.args.heap.now (search rules) c.in-Le.is (c.past-in-Le.ensures.value c.args.memory.now)
    (replaced-two le_of _ (private_in c.past-in-Le.result.now c.args.memory.now) (private_in c.on_two-in-Le.new.registers c.on_two-in-Le.new.memory) c.on_two-in-Le.result c.on_two-in-Le.ensures.value c.on_two-in-Le.ensures.end (λ a b v e. value-is v _ e.2) (use_of Le) c.args.heap.now)

pub returns-in-Ge : goal.returns-in-Ge
returns-in-Ge c = at c.args.shape.now c.args.registers.now.place (private_in c.args.registers.now c.args.memory.now) (private_in c.past-in-Ge.result.now c.args.memory.now) c.args.heap.now (step_end c.on_two-in-Ge.result) (private_in c.on_two-in-Ge.new.registers c.on_two-in-Ge.new.memory) c.args.heap.now (search rules) c.in-Ge.is (c.past-in-Ge.ensures.value c.args.memory.now)
    (replaced-two ge_of _ (private_in c.past-in-Ge.result.now c.args.memory.now) (private_in c.on_two-in-Ge.new.registers c.on_two-in-Ge.new.memory) c.on_two-in-Ge.result c.on_two-in-Ge.ensures.value c.on_two-in-Ge.ensures.end (λ a b v e. value-is v _ e.2) (use_of Ge) c.args.heap.now)

pub returns-in-Jz : goal.returns-in-Jz
returns-in-Jz c = at c.args.shape.now c.args.registers.now.place (private_in c.args.registers.now c.args.memory.now) (private_in c.past-in-Jz.result.now c.args.memory.now) c.args.heap.now (step_end c.jump_at_zero.result) (private_in c.jump_at_zero.new.registers c.jump_at_zero.new.memory) c.args.heap.now (search rules) c.in-Jz.is (c.past-in-Jz.ensures.value c.args.memory.now) (c.jump_at_zero.ensures c.args.heap.now c.args.shape.now)

pub returns-in-Jmp : goal.returns-in-Jmp
returns-in-Jmp c = at c.args.shape.now c.args.registers.now.place (private_in c.args.registers.now c.args.memory.now) (private_in c.past-in-Jmp.result.now c.args.memory.now) c.args.heap.now (step_end c.jump.result) (private_in c.jump.new.registers c.jump.new.memory) c.args.heap.now (search rules) c.in-Jmp.is (c.past-in-Jmp.ensures.value c.args.memory.now) (c.jump.ensures c.args.heap.now c.args.shape.now)

pub returns-in-Back : goal.returns-in-Back
returns-in-Back c = at c.args.shape.now c.args.registers.now.place (private_in c.args.registers.now c.args.memory.now) (private_in c.past-in-Back.result.now c.args.memory.now) c.args.heap.now (step_end c.go_back.result) (private_in c.go_back.new.registers c.go_back.new.memory) c.args.heap.now (search rules) c.in-Back.is (c.past-in-Back.ensures.value c.args.memory.now) (c.go_back.ensures c.args.heap.now c.args.shape.now)

pub returns-in-Drop : goal.returns-in-Drop
returns-in-Drop c = at c.args.shape.now c.args.registers.now.place (private_in c.args.registers.now c.args.memory.now) (private_in c.past-in-Drop.result.now c.args.memory.now) c.args.heap.now (step_end c.drop_top.result) (private_in c.drop_top.new.registers c.drop_top.new.memory) c.args.heap.now (search rules) c.in-Drop.is (c.past-in-Drop.ensures.value c.args.memory.now) (c.drop_top.ensures c.args.heap.now c.args.shape.now)

pub returns-in-MsgGet : goal.returns-in-MsgGet
returns-in-MsgGet c = at c.args.shape.now c.args.registers.now.place (private_in c.args.registers.now c.args.memory.now) (private_in c.past-in-MsgGet.result.now c.args.memory.now) c.args.heap.now (step_end c.get_message_item.result) (private_in c.get_message_item.new.registers c.get_message_item.new.memory) c.args.heap.now (search rules) c.in-MsgGet.is (c.past-in-MsgGet.ensures.value c.args.memory.now) (c.get_message_item.ensures c.args.heap.now c.args.shape.now)

pub returns-in-MsgSize : goal.returns-in-MsgSize
returns-in-MsgSize c = at c.args.shape.now c.args.registers.now.place (private_in c.args.registers.now c.args.memory.now) (private_in c.past-in-MsgSize.result.now c.args.memory.now) c.args.heap.now (step_end c.get_message_size.result) (private_in c.get_message_size.new.registers c.get_message_size.new.memory) c.args.heap.now (search rules) c.in-MsgSize.is (c.past-in-MsgSize.ensures.value c.args.memory.now) (c.get_message_size.ensures c.args.heap.now c.args.shape.now)

pub returns-in-BGet : goal.returns-in-BGet
returns-in-BGet c = at c.args.shape.now c.args.registers.now.place (private_in c.args.registers.now c.args.memory.now) (private_in c.past-in-BGet.result.now c.args.memory.now) c.args.heap.now (step_end c.get_item.result) (private_in c.get_item.new.registers c.get_item.new.memory) c.args.heap.now (search rules) c.in-BGet.is (c.past-in-BGet.ensures.value c.args.memory.now) (c.get_item.ensures c.args.shape.now)

pub returns-in-BSet : goal.returns-in-BSet
returns-in-BSet c = at c.args.shape.now c.args.registers.now.place (private_in c.args.registers.now c.args.memory.now) (private_in c.past-in-BSet.result.now c.args.memory.now) c.args.heap.now (step_end c.set_item.result) (private_in c.set_item.new.registers c.set_item.new.memory) c.set_item.new.heap (search rules) c.in-BSet.is (c.past-in-BSet.ensures.value c.args.memory.now) (c.set_item.ensures c.args.shape.now)

pub returns-in-BAdd : goal.returns-in-BAdd
returns-in-BAdd c = at c.args.shape.now c.args.registers.now.place (private_in c.args.registers.now c.args.memory.now) (private_in c.past-in-BAdd.result.now c.args.memory.now) c.args.heap.now (step_end c.append.result) (private_in c.append.new.registers c.append.new.memory) c.append.new.heap (search rules) c.in-BAdd.is (c.past-in-BAdd.ensures.value c.args.memory.now) (c.append.ensures c.args.shape.now)

pub returns-in-BTake : goal.returns-in-BTake
returns-in-BTake c = at c.args.shape.now c.args.registers.now.place (private_in c.args.registers.now c.args.memory.now) (private_in c.past-in-BTake.result.now c.args.memory.now) c.args.heap.now (step_end c.take.result) (private_in c.take.new.registers c.take.new.memory) c.take.new.heap (search rules) c.in-BTake.is (c.past-in-BTake.ensures.value c.args.memory.now) (c.take.ensures c.args.shape.now)

pub returns-in-BSize : goal.returns-in-BSize
returns-in-BSize c = at c.args.shape.now c.args.registers.now.place (private_in c.args.registers.now c.args.memory.now) (private_in c.past-in-BSize.result.now c.args.memory.now) c.args.heap.now (step_end c.get_size.result) (private_in c.get_size.new.registers c.get_size.new.memory) c.args.heap.now (search rules) c.in-BSize.is (c.past-in-BSize.ensures.value c.args.memory.now) (c.get_size.ensures c.args.shape.now)

pub returns-in-BClear : goal.returns-in-BClear
returns-in-BClear c = at c.args.shape.now c.args.registers.now.place (private_in c.args.registers.now c.args.memory.now) (private_in c.past-in-BClear.result.now c.args.memory.now) c.args.heap.now (step_end c.clear.result) (private_in c.clear.new.registers c.clear.new.memory) c.clear.new.heap (search rules) c.in-BClear.is (c.past-in-BClear.ensures.value c.args.memory.now) (c.clear.ensures c.args.shape.now)

pub returns-in-Fun : goal.returns-in-Fun
returns-in-Fun c = (c.in-Fun.is, refl, refl)

pub returns-in-FunBuf : goal.returns-in-FunBuf
returns-in-FunBuf c = (c.in-FunBuf.is, refl, refl)
