use Rattle.std.proofs.Common.{◌≤◌, ◌+◌, take, arith}
use Rattle.vm_shape.proofs.DescriptionLemmas.{context_sum-more, context_sum-next}
use Rattle.vm_shape.proofs.description.Description.contexts_before.Goals as goal

pub overflow_add-contexts : goal.overflow_add-contexts
overflow_add-contexts c =
    let most = context_sum-more c.args.self.now c.as_slice.result.now c.args.handlers c.loop-handler.handler-index c.handler-item.result c.as_slice.ensures.value c.loop-handler-test.true in
    let fits : c.loop-handler.contexts + c.handler-item.result.contexts ≤ 16 = rw (c.loop-handler.invariant, c.handler-item.is) most in
    search arith

pub loop-handler-preserved : goal.loop-handler-preserved
loop-handler-preserved c =
    context_sum-next (take c.args.handlers c.as_slice.result.now) c.loop-handler.handler-index c.handler-item.result c.loop-handler.contexts
    c.loop-handler-test.true c.handler-item.is c.loop-handler.invariant
