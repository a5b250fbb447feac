use Rattle.std.proofs.Common.{get_or, arith}
use Rattle.std.proofs.lemmas.List.{get_or_default}
use Rattle.capsule_exchange.specs.declared.handler_state.HandlerState.{HandlerState}
use Rattle.capsule_exchange.specs.Steps.{no_state}
use Rattle.capsule_exchange.proofs.SummaryLemmas.{marked_there, marked_nowhere, none_marked_more}
use Rattle.capsule_exchange.proofs.handlers.any_marked.Goals as goal

pub loop-h-preserved : goal.loop-h-preserved
loop-h-preserved c =
    let states = c.args.states.now in
    let h = c.loop-h.h in
    let other = c.index-states-h.result in
    let state : HandlerState = get_or states h other in
    none_marked_more states h state (get_or_default states h no_state other (omega arith)) c.if-has_mark.ensures c.loop-h.invariant

pub returns-then-has_mark : goal.returns-then-has_mark
returns-then-has_mark c =
    let states = c.args.states.now in
    let h = c.loop-h.h in
    let other = c.index-states-h.result in
    let state : HandlerState = get_or states h other in
    marked_there states h state (omega arith) (get_or_default states h no_state other (omega arith)) c.if-has_mark.ensures

pub returns : goal.returns
returns c = marked_nowhere c.args.states.now c.loop-h.h (omega arith) c.loop-h.invariant
