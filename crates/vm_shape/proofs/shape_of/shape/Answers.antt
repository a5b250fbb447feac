use Rattle.vm_shape.specs.Shapes.{fun_shape}
use Rattle.vm_shape.proofs.DescriptionLemmas.{shape_with, shape_with-all, shape_of-limits}
use Rattle.vm_shape.proofs.ListLemmas.{map_pushed}
use Rattle.vm_shape.proofs.shape_of.shape.Goals as goal

pub loop-function-preserved : goal.loop-function-preserved
loop-function-preserved c =
    map_pushed fun_shape c.as_slice-function-items.result.now c.loop-function.function-index c.function-item.result c.shape_of_function.result c.loop-function.functions.items c.push.new.self.items
    c.loop-function-test.true c.function-item.is c.shape_of_function.ensures c.loop-function.invariant c.push.ensures.items

pub returns-clause-value : goal.returns-clause-value
returns-clause-value c =
    shape_with-all c.args.desc.now c.len.result c.len-2.result c.loop-function.function-index c.as_slice-function-items.result.now c.loop-function.functions.items
    c.len.ensures.value c.len-2.ensures.value c.as_slice-function-items.ensures.value c.loop-function-test.false c.loop-function.invariant

pub returns-clause-limits : goal.returns-clause-limits
returns-clause-limits c = shape_of-limits c.args.desc.now (shape_with c.len.result c.len-2.result c.loop-function.functions.items) (returns-clause-value c)
