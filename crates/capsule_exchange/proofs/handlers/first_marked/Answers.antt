use Rattle.std.proofs.Common.{◌≡◌, ◌*◌, ◌/◌, ◌%◌, false, length, get_or, arith, sym, ap, ◌∙◌}
use Rattle.std.proofs.lemmas.List.{get_or_default}
use Rattle.capsule_exchange.specs.declared.handler_state.HandlerState.{HandlerState}
use Rattle.capsule_exchange.specs.Steps.{no_state, is_marked_in}
use Rattle.capsule_exchange.proofs.SlotLemmas.{find_past}
use Rattle.capsule_exchange.proofs.handlers.first_marked.Goals as goal

pub loop-slot-preserved : goal.loop-slot-preserved
loop-slot-preserved c =
    let states = c.args.states.now in
    let slot = c.loop-slot.slot in
    let state = c.index-states-slot.result in
    let read = get_or_default states (slot / 22) no_state state (omega arith) in
    let off : is_marked_in states slot ≡ false = ap (λ (s : HandlerState). get_or s.marks (slot % 22) false) read ∙ c.if-states-slot.false in
    sym (find_past (is_marked_in states) slot (22 * length states) c.loop-slot-test.true off) ∙ c.loop-slot.invariant
