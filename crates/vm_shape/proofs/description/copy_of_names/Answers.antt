use Rattle.vm_shape.proofs.ListLemmas.{take_pushed, taken_all}
use Rattle.vm_shape.proofs.description.copy_of_names.Goals as goal

pub loop-name-preserved : goal.loop-name-preserved
loop-name-preserved g c =
    take_pushed c.as_slice-name-items.result.now c.loop-name.name-index c.name-item.result c.copy.result c.loop-name.copy.items c.push.new.self.items
    c.loop-name-test.true c.name-item.is c.copy.ensures c.loop-name.invariant c.push.ensures.items

pub returns : goal.returns
returns g c = taken_all c.as_slice-name-items.result.now c.loop-name.name-index c.loop-name.copy c.args.names.now c.loop-name-test.false c.as_slice-name-items.ensures.value c.loop-name.invariant
