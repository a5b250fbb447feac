use Rattle.std.proofs.Common.{lit<}
use Rattle.vm_shape.specs.declared.function.Function.{Function}
use Rattle.vm_shape.proofs.NameLemmas.{part_pushed, part_room, parts_all}
use Rattle.vm_shape.proofs.rules.function_names.Goals as goal

pub push-requires : goal.push-requires
push-requires c =
    (lit< tt, part_room (λ (x : Function). x.name) c.as_slice-function-items.result.now c.loop-function.function-index _ c.loop-function.names.items c.loop-function-test.true c.as_slice-function-items.ensures.fits c.loop-function.invariant)

pub loop-function-preserved : goal.loop-function-preserved
loop-function-preserved c =
    part_pushed (λ (x : Function). x.name) c.as_slice-function-items.result.now c.loop-function.function-index c.function-item.result c.copy.result c.loop-function.names.items c.push.new.self.items
    c.loop-function-test.true c.function-item.is c.copy.ensures c.loop-function.invariant c.push.ensures.items

pub returns : goal.returns
returns c = parts_all (λ (x : Function). x.name) c.as_slice-function-items.result.now c.args.functions.now.items c.loop-function.function-index c.loop-function.names.items c.loop-function-test.false c.as_slice-function-items.ensures.value c.loop-function.invariant
