use Rattle.std.proofs.Common.{◌≡◌, ◌<◌, ◌≤◌, ℕ, List, length, get_or, None, Some, refl, sym, ◌∙◌, ap, subst}
use Rattle.std.specs.Prelude.{Option, slice_get}
use Rattle.std.specs.Option.{option_map_or}
use Rattle.std.proofs.lemmas.Option.{slice_get_past, slice_get_read}
use Rattle.vm_shape.specs.declared.handler.Handler.{Handler}
use Rattle.vm_shape.specs.Limits.{is_handler}
use Rattle.vm_shape.proofs.DescriptionLemmas.{handler_at}
use Rattle.world_rules.specs.World.{period_in}
use Rattle.world_event.proofs.PieceLemmas.{period-high}
use Rattle.world_event.proofs.pieces.period_of.Goals as goal

pub returns-in-Some-clause-range : goal.returns-in-Some-clause-range
returns-in-Some-clause-range c = λ p is.
    let found = c.in-Some.ensures.lookup in
    let within : c.from.result < length c.args.desc.now.handlers.items = subst (λ (hs : List Handler). c.from.result < length hs) c.as_slice.ensures.value found.3.0 in
    let read : c.in-Some.handler.now ≡ get_or c.args.desc.now.handlers.items c.from.result c.in-Some.handler.now =
    subst (λ (hs : List Handler). c.in-Some.handler.now ≡ get_or hs c.from.result c.in-Some.handler.now) c.as_slice.ensures.value found.1 in
    period-high c.in-Some.handler.now p (ap is_handler read ∙ handler_at c.args.desc.now c.from.result c.in-Some.handler.now within) (sym c.period_in.ensures ∙ is)

pub returns-in-None-clause-value : goal.returns-in-None-clause-value
returns-in-None-clause-value c =
    let past = c.in-None.ensures.lookup.3 in
    let here : length c.args.desc.now.handlers.items ≤ c.args.handler.0 =
    subst (λ (k : ℕ). length c.args.desc.now.handlers.items ≤ k) c.from.ensures (subst (λ (hs : List Handler). length hs ≤ c.from.result) c.as_slice.ensures.value past) in
    let P : Option Handler → Option ℕ = λ o. option_map_or (λ (x : Handler). period_in x.kind) o None in
    ap P (sym (slice_get_past c.args.desc.now.handlers.items c.args.handler.0 here))

pub returns-in-Some-clause-value : goal.returns-in-Some-clause-value
returns-in-Some-clause-value c =
    let handlers = c.args.desc.now.handlers.items in
    let h : Handler = c.in-Some.handler.now in
    let found = c.in-Some.ensures.lookup in
    let there : slice_get handlers c.args.handler.0 ≡ Some h =
    ap (slice_get handlers) (sym c.from.ensures) ∙ ap (λ (hs : List Handler). slice_get hs c.from.result) (sym c.as_slice.ensures.value) ∙ slice_get_read c.as_slice.result.now _ c.from.result h refl found.3.0 found.1 in
    let P : Option Handler → Option ℕ = λ o. option_map_or (λ (x : Handler). period_in x.kind) o None in
    c.period_in.ensures ∙ ap P (sym there)

pub returns-in-None-clause-range : goal.returns-in-None-clause-range
returns-in-None-clause-range c = λ p is. absurd (none-some p is) where
  none-some : (p : ℕ) → None ≡ Some p → ⊥
  none-some p e = cc
