use Rattle.std.proofs.Common.{arith}
use Rattle.vm_shape.specs.Contexts.{handler_of}
use Rattle.vm_shape.proofs.DescriptionLemmas.{handler_of-next, handler_of-here, handler_of-none}
use Rattle.vm_shape.proofs.description.Description.handler_of.Goals as goal

pub loop-index-init : goal.loop-index-init
loop-index-init c = (omega arith, c.requires)

pub overflow_sub-left : goal.overflow_sub-left
overflow_sub-left c = c.if-left-handler.false

pub loop-index-preserved : goal.loop-index-preserved
loop-index-preserved c =
    let hs = c.args.self.now.handlers.items in
    handler_of-next hs c.loop-index.index c.loop-index.left (handler_of hs c.args.context.0) c.handler-item.result (rw c.as_slice-handler-items.ensures.value at c.loop-index-test.true)
    (rw c.as_slice-handler-items.ensures.value at c.handler-item.is) c.if-left-handler.false c.loop-index.invariant.0 c.loop-index.invariant.1

pub returns-then-left-handler-clause-value : goal.returns-then-left-handler-clause-value
returns-then-left-handler-clause-value c =
    let hs = c.args.self.now.handlers.items in
    handler_of-here hs c.loop-index.index c.loop-index.left (handler_of hs c.args.context.0) c.handler-item.result (rw c.as_slice-handler-items.ensures.value at c.loop-index-test.true)
    (rw c.as_slice-handler-items.ensures.value at c.handler-item.is) c.if-left-handler.true c.loop-index.invariant.0

pub unreachable-requires : goal.unreachable-requires
unreachable-requires c =
    handler_of-none c.args.self.now.handlers.items c.loop-index.index c.loop-index.left (rw c.as_slice-handler-items.ensures.value at c.loop-index-test.false) c.loop-index.invariant.1
