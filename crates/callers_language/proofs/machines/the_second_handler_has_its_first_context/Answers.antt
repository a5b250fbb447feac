use Rattle.std.proofs.Common.{◌≡◌, ℕ, ◌<◌, ◌≤◌, [], length, get_or, sym, ◌∙◌, ap, subst, add-zero, arith}
use Rattle.vm_shape.specs.Contexts.{first_context, handler_of}
use Rattle.vm_shape.specs.declared.handler.Handler.{Handler}
use Rattle.vm_shape.specs.declared.handler.HandlerKind.TheVariants.{Plain}
use Rattle.vm_shape.specs.declared.description.Description.{Description}
use Rattle.vm_shape.specs.Whole.{context_count}
use Rattle.vm_shape.proofs.DescriptionLemmas.{first_context-within, handler_at, contexts-bounds, handler_of-first_context}
use Rattle.callers_language.proofs.machines.the_second_handler_has_its_first_context.Goals as goal

a_handler : Handler
a_handler = record { name = []; kind = Plain; contexts = 1 }

some_contexts : (d : Description) → 2 ≤ length d.handlers.items → 1 ≤ (get_or d.handlers.items 1 a_handler).contexts
some_contexts d two = (contexts-bounds (get_or d.handlers.items 1 a_handler) (handler_at d 1 a_handler (omega (arith, two)))).0

within : (d : Description) → 2 ≤ length d.handlers.items → first_context d.handlers.items 1 < context_count d
within d two =
    let all = first_context-within d.handlers.items 1 a_handler (omega (arith, two)) in
    let some = some_contexts d two in omega (arith, all, some)

own : (d : Description) → 2 ≤ length d.handlers.items → handler_of d.handlers.items (first_context d.handlers.items 1) ≡ 1
own d two =
    let some = some_contexts d two in
    ap (λ (k : ℕ). handler_of d.handlers.items k) (sym (add-zero (first_context d.handlers.items 1))) ∙ handler_of-first_context d.handlers.items 1 0 a_handler (omega (arith, two)) (omega (arith, some))

pub handler_of-requires : goal.handler_of-requires
handler_of-requires c = subst (λ (k : ℕ). k < context_count c.args.desc.now) (sym c.first_context.ensures) (within c.args.desc.now c.requires)

pub returns : goal.returns
returns c = c.handler_of.ensures.value ∙ ap (λ (k : ℕ). handler_of c.args.desc.now.handlers.items k) c.first_context.ensures ∙ own c.args.desc.now c.requires
