-- Handlers and functions by their names.
use Rattle.std.specs.Prelude.{ℕ, List, Option}
use Rattle.std.specs.List.{position}
use Rattle.std.specs.Option.{option_map}
use Rattle.std.specs.Str.{bytes_eq}
use Rattle.mate_num.specs.declared.id.HandlerId.{HandlerId}
use Rattle.mate_num.specs.declared.id.FunId.{FunId}
use Rattle.mate_num.specs.declared.id.ContextId.{ContextId}
use Rattle.vm_shape.specs.declared.description.Description.{Description}
use Rattle.vm_shape.specs.declared.handler.Handler.{Handler}
use Rattle.vm_shape.specs.declared.function.Function.{Function}
use Rattle.vm_shape.specs.Whole.{context_count}
use Rattle.report_line_reader.specs.Numbers.{below_of}

abbrev pub name_of_handler : Handler → List ℕ
name_of_handler h = h.name

abbrev pub name_of_function : Function → List ℕ
name_of_function f = f.name

-- the handler, the function and the context that a word names: the first with that name
abbrev pub handler_of : Description → List ℕ → Option HandlerId
handler_of d word = option_map (λ n. record { 0 = n }) (position (λ h. bytes_eq (name_of_handler h) word) d.handlers.items)

abbrev pub function_of : Description → List ℕ → Option FunId
function_of d word = option_map (λ n. record { 0 = n }) (position (λ f. bytes_eq (name_of_function f) word) d.functions.items)

abbrev pub context_of : Description → List ℕ → Option ContextId
context_of d word = option_map (λ n. record { 0 = n }) (below_of (context_count d) word)
