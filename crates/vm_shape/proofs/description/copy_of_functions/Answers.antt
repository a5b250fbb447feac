use Rattle.vm_shape.proofs.ListLemmas.{take_pushed, taken_all}
use Rattle.vm_shape.proofs.description.copy_of_functions.Goals as goal

pub loop-function-preserved : goal.loop-function-preserved
loop-function-preserved c =
    take_pushed c.as_slice-function-items.result.now c.loop-function.function-index c.function-item.result c.copy.result c.loop-function.copy.items c.push.new.self.items
    c.loop-function-test.true c.function-item.is c.copy.ensures c.loop-function.invariant c.push.ensures.items

pub returns : goal.returns
returns c = taken_all c.as_slice-function-items.result.now c.loop-function.function-index c.loop-function.copy c.args.functions.now c.loop-function-test.false c.as_slice-function-items.ensures.value c.loop-function.invariant
