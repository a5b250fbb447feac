use Rattle.std.proofs.Common.{lit<}
use Rattle.vm_shape.specs.declared.handler.Handler.{Handler}
use Rattle.vm_shape.proofs.NameLemmas.{part_pushed, part_room, parts_all}
use Rattle.vm_shape.proofs.rules.handler_names.Goals as goal

pub push-requires : goal.push-requires
push-requires c =
    (lit< tt, part_room (λ (x : Handler). x.name) c.as_slice-handler-items.result.now c.loop-handler.handler-index _ c.loop-handler.names.items c.loop-handler-test.true c.as_slice-handler-items.ensures.fits c.loop-handler.invariant)

pub loop-handler-preserved : goal.loop-handler-preserved
loop-handler-preserved c =
    part_pushed (λ (x : Handler). x.name) c.as_slice-handler-items.result.now c.loop-handler.handler-index c.handler-item.result c.copy.result c.loop-handler.names.items c.push.new.self.items
    c.loop-handler-test.true c.handler-item.is c.copy.ensures c.loop-handler.invariant c.push.ensures.items

pub returns : goal.returns
returns c = parts_all (λ (x : Handler). x.name) c.as_slice-handler-items.result.now c.args.handlers.now.items c.loop-handler.handler-index c.loop-handler.names.items c.loop-handler-test.false c.as_slice-handler-items.ensures.value c.loop-handler.invariant
