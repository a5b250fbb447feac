use Rattle.std.proofs.Common.{◌≡◌, List, length, Some, false, refl, sym, ◌∙◌, ap, arith}
use Rattle.std.specs.Prelude.{slice_get}
use Rattle.std.proofs.lemmas.Option.{slice_get_read, slice_get_past}
use Rattle.vm_shape.specs.declared.handler.Handler.{Handler}
use Rattle.vm_shape.specs.declared.handler.HandlerKind.{HandlerKind}
use Rattle.vm_shape.specs.declared.handler.HandlerKind.TheVariants.{Receive}
use Rattle.world_rules.specs.World.{is_receiver}
use Rattle.world_event.proofs.handling.is_receiver.Goals as goal

pub returns-in-Receive : goal.returns-in-Receive
returns-in-Receive c =
    let handlers = c.args.desc.now.handlers.items in
    let h : Handler = c.in-Some.handler.now in
    let found = c.in-Some.ensures.lookup in
    let there : slice_get handlers c.args.handler.0 ≡ Some h =
    ap (slice_get handlers) (sym c.from.ensures) ∙ ap (λ (hs : List Handler). slice_get hs c.from.result) (sym c.as_slice.ensures.value) ∙ slice_get_read c.as_slice.result.now _ c.from.result h refl found.3.0 found.1 in
    sym (ap is_receiver there ∙ ap (λ (k : HandlerKind). is_receiver (Some (record h { kind = k }))) c.in-Receive.is)

no-receiver : (h : Handler) (k : HandlerKind) → (k ≡ Receive → ⊥) → is_receiver (Some (record h { kind = k })) ≡ false
no-receiver h Receive other = absurd (other refl)
no-receiver h _ other = refl

pub returns-in_default : goal.returns-in_default
returns-in_default c =
    let handlers = c.args.desc.now.handlers.items in
    let h : Handler = c.in-Some.handler.now in
    let found = c.in-Some.ensures.lookup in
    let there : slice_get handlers c.args.handler.0 ≡ Some h =
    ap (slice_get handlers) (sym c.from.ensures) ∙ ap (λ (hs : List Handler). slice_get hs c.from.result) (sym c.as_slice.ensures.value) ∙ slice_get_read c.as_slice.result.now _ c.from.result h refl found.3.0 found.1 in
    sym (ap is_receiver there ∙ no-receiver h h.kind c.in_default.not-Receive)

pub returns-in-None : goal.returns-in-None
returns-in-None c =
    let past = c.in-None.ensures.lookup.3 in
    let long = ap length c.as_slice.ensures.value in
    let from = c.from.ensures in
    sym (ap is_receiver (slice_get_past c.args.desc.now.handlers.items c.args.handler.0 (omega (arith, past, long, from))))
