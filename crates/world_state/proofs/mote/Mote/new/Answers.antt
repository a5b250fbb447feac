use Rattle.std.proofs.Common.{false, refl, sym, ◌∙◌, ap, subst, arith, ℕ, []}
use Rattle.std.proofs.lemmas.Result.{IfOk-from_err}
use Rattle.capsule_exchange.specs.Knowledge.{knowledge}
use Rattle.vm_shape.specs.declared.description.Description.{Description}
use Rattle.vm_shape.proofs.DescriptionLemmas.{trickle_rules, bounds_of}
use Rattle.world_state.specs.Motes.{BeginsMote}
use Rattle.world_state.specs.declared.mote.Mote.{Mote}
use Rattle.world_state.proofs.mote.Mote.new.Goals as goal

pub start-requires-clause-settings : goal.start-requires-clause-settings
start-requires-clause-settings c = trickle_rules c.description-desc.result.now

pub returns : goal.returns
returns c =
    let m : Mote = record { node = c.in_ok-on.field-0; timer = c.start.result; exchange = c.in_ok-new.field-0; pumps = false; calls = c.in_ok-new-2.field-0 } in
    let P : Description → Type 0 = λ d. BeginsMote d c.args.random c.args.node m in
    subst P c.description-desc.ensures record {
      description = c.in_ok-on.ensures.0 ∙ c.in_ok-share.ensures ∙ sym c.description-desc.ensures;
      empty = c.in_ok-on.ensures.1;
      gone = c.in_ok-on.ensures.3;
      pace = c.in_ok-on.ensures.2;
      timer = c.start.ensures.first;
      exchange = c.in_ok-new.ensures ∙ ap (λ (n : ℕ). knowledge n []) c.len.ensures.value;
      pumps = refl;
      calls = c.in_ok-new-2.ensures;
    }

pub returns-in_err-share : goal.returns-in_err-share
returns-in_err-share c = IfOk-from_err _ _ c.from_residual.ensures.0

pub returns-in_err-on : goal.returns-in_err-on
returns-in_err-on c = IfOk-from_err _ _ c.from_residual-in_err-on.ensures.0

pub returns-in_err-new : goal.returns-in_err-new
returns-in_err-new c = IfOk-from_err _ _ c.from_residual-in_err-new.ensures.0

pub returns-in_err-new-2 : goal.returns-in_err-new-2
returns-in_err-new-2 c = IfOk-from_err _ _ c.from_residual-in_err-new-2.ensures.0

pub overflow_cast-len : goal.overflow_cast-len
overflow_cast-len c =
    let most = (bounds_of c.description-desc.result.now).handlers_high in
    let long = c.len.ensures.value in
    omega (arith, most, long)

pub new-requires-clause-low : goal.new-requires-clause-low
new-requires-clause-low c =
    let least = (bounds_of c.description-desc.result.now).handlers_low in
    let long = c.len.ensures.value in
    omega (arith, least, long)

pub new-requires-clause-high : goal.new-requires-clause-high
new-requires-clause-high c =
    let most = (bounds_of c.description-desc.result.now).handlers_high in
    let long = c.len.ensures.value in
    omega (arith, most, long)
