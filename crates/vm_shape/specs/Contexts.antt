-- The contexts of a machine's handlers, numbered in handler order: the first handler has the first ones.
use Rattle.std.specs.Prelude.{ℕ, List, [], ◌∷◌, ◌+◌, ◌-◌, nat_lt, if◌then◌else◌, take}
use Rattle.vm_shape.specs.Limits.{context_sum}
use Rattle.vm_shape.specs.declared.handler.Handler.{Handler}

-- the first context of a handler: the number of those of the handlers before it
abbrev pub first_context : List Handler → ℕ → ℕ
first_context handlers handler = context_sum (take handler handlers)

-- the handler of a context
abbrev pub handler_of : List Handler → ℕ → ℕ
handler_of [] context = 0
handler_of (h ∷ hs) context = if nat_lt context h.contexts then 0 else handler_of hs (context - h.contexts) + 1
