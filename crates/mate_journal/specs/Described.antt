-- The machine of a description.
use Rattle.std.specs.Prelude.{ℕ, Bool, true, false, length, Option, slice_get}
use Rattle.std.specs.Option.{option_map_or, option_and_then}
use Rattle.mate_num.specs.Store.{zero_store}
use Rattle.vm_shape.specs.Contexts.{first_context}
use Rattle.vm_shape.specs.declared.description.Description.{Description}
use Rattle.vm_shape.specs.declared.handler.Handler.{Handler}
use Rattle.vm_shape.specs.declared.handler.HandlerKind.{HandlerKind}
use Rattle.vm_shape.specs.declared.handler.HandlerKind.TheVariants as kind
use Rattle.mate_journal.specs.Machine.{Machine, Meaning}

-- how many contexts a handler has
abbrev pub contexts_of : Option Handler → ℕ
contexts_of handler = option_map_or (λ h. h.contexts) handler 0

-- a handler of this kind runs once at each of its installs
abbrev pub is_once : HandlerKind → Bool
is_once kind.Once = true
is_once _ = false

abbrev pub runs_once : Option Handler → Bool
runs_once handler = option_map_or (λ h. is_once h.kind) handler false

-- a description's machine, with what its programs mean
abbrev pub machine_of : Description → Meaning → Machine
machine_of d meaning = record {
  zero_store = zero_store (length d.shared.items) (length d.buffers.items);
  turns = d.turns;
  quantum = d.quantum;
  first_context = λ h. first_context d.handlers.items h.0;
  contexts = λ h. contexts_of (slice_get d.handlers.items h.0);
  runs_once = λ h. runs_once (slice_get d.handlers.items h.0);
  device_of = λ f. option_and_then (λ fun. fun.device) (slice_get d.functions.items f.0);
  meaning = meaning;
}
