use Rattle.std.proofs.Common.{get_or, ◌∙◌, ap, arith}
use Rattle.std.proofs.Math.ListN.{set}
use Rattle.std.proofs.lemmas.List.{get_or_default}
use Rattle.std.proofs.lemmas.List.Edits.{map_over_more}
use Rattle.capsule_exchange.specs.declared.handler_state.HandlerState.{HandlerState}
use Rattle.capsule_exchange.specs.Steps.{forgets}
use Rattle.capsule_exchange.proofs.handlers.forget_each.Goals as goal

pub loop-state-preserved : goal.loop-state-preserved
loop-state-preserved c =
    let states = c.args.states.now in
    let now = c.loop-state.state-items in
    let i = c.loop-state.state-index in
    let other = c.state-item.result in
    let s : HandlerState = get_or now i other in
    ap (λ (t : HandlerState). set now i t) c.forget.ensures ∙ map_over_more forgets states now i s (omega arith) c.loop-state.invariant (get_or_default now i other s (omega arith))
