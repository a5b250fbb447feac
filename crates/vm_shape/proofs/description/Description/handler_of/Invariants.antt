use Rattle.std.proofs.Common.{◌≡◌, ◌+◌, ◌<◌, drop}
use Rattle.vm_shape.specs.Limits.{context_sum}
use Rattle.vm_shape.specs.Contexts.{handler_of}
use Rattle.vm_shape.proofs.description.Description.handler_of.Given as goal

-- the handlers before the index have the contexts that were taken off
abbrev pub invariant-loop-index : goal.invariant-loop-index
invariant-loop-index l =
    (handler_of (drop l.index l.self.handlers.items) l.left + l.index ≡ handler_of l.self.handlers.items l.fn.context.0)
    × (l.left < context_sum (drop l.index l.self.handlers.items))
