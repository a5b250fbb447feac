-- The contexts of the handler are asked one by one.
use Rattle.node_state.specs.Meaning.{machine_in}
use Rattle.node_calls.proofs.PostingLemmas.{taken-none, taken-more, first-free, all-taken}
use Rattle.node_calls.proofs.posting.first_free.Goals as goal

pub loop-place-init : goal.loop-place-init
loop-place-init c = taken-none c.args.contexts.now c.first_context-first.result.0

pub loop-place-preserved : goal.loop-place-preserved
loop-place-preserved c = taken-more c.args.contexts.now c.first_context-first.result.0 c.loop-place.place c.loop-place.invariant c.if-is_idle.ensures

pub returns-then-is_idle : goal.returns-then-is_idle
returns-then-is_idle c =
    first-free (machine_in c.args.description.now) c.args.contexts.now c.args.handler c.first_context-first.result.0 c.contexts_of.result c.loop-place.place c.first_context-first.ensures c.contexts_of.ensures.count c.loop-place.invariant
    c.loop-place.auto.place c.loop-place-test.true c.contexts_of.ensures.within c.if-is_idle.ensures

pub returns : goal.returns
returns c =
    all-taken (machine_in c.args.description.now) c.args.contexts.now c.args.handler c.first_context-first.result.0 c.contexts_of.result c.loop-place.place c.first_context-first.ensures c.contexts_of.ensures.count c.loop-place.invariant
    c.loop-place-test.false
