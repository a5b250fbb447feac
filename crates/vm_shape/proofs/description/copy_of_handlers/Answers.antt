use Rattle.vm_shape.proofs.ListLemmas.{take_pushed, taken_all}
use Rattle.vm_shape.proofs.description.copy_of_handlers.Goals as goal

pub loop-handler-preserved : goal.loop-handler-preserved
loop-handler-preserved c =
    take_pushed c.as_slice-handler-items.result.now c.loop-handler.handler-index c.handler-item.result c.copy.result c.loop-handler.copy.items c.push.new.self.items
    c.loop-handler-test.true c.handler-item.is c.copy.ensures c.loop-handler.invariant c.push.ensures.items

pub returns : goal.returns
returns c = taken_all c.as_slice-handler-items.result.now c.loop-handler.handler-index c.loop-handler.copy c.args.handlers.now c.loop-handler-test.false c.as_slice-handler-items.ensures.value c.loop-handler.invariant
