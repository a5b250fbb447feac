use Rattle.std.proofs.Common.{refl, arith}
use Rattle.script_steps.proofs.ReadingLemmas.{looks-at, handler-is_it, handler-is_other, handler-is_none}
use Rattle.script_steps.proofs.words.handler_of.Goals as goal

pub loop-index-init : goal.loop-index-init
loop-index-init c = refl

pub overflow_cast-result : goal.overflow_cast-result
overflow_cast-result c = omega (arith, c.loop-index-test.true, c.as_slice-handler-items.ensures.fits)

pub returns-then-is_same-clause-value : goal.returns-then-is_same-clause-value
returns-then-is_same-clause-value c =
    let handlers = c.args.desc.now.handlers.items in
    let at = looks-at handlers c.as_slice-handler-items.result.now c.loop-index.index c.handler-item.result c.as_slice-handler-items.ensures.value c.loop-index-test.true c.handler-item.is in
    handler-is_it c.args.word.now c.as_bytes.result.now handlers c.loop-index.index c.handler-item.result c.is_same.result at c.as_bytes.ensures.value c.is_same.ensures c.if-is_same.true c.loop-index.invariant

pub returns-then-is_same-clause-below : goal.returns-then-is_same-clause-below
returns-then-is_same-clause-below c =
    (looks-at c.args.desc.now.handlers.items c.as_slice-handler-items.result.now c.loop-index.index c.handler-item.result c.as_slice-handler-items.ensures.value c.loop-index-test.true c.handler-item.is).below

pub loop-index-preserved : goal.loop-index-preserved
loop-index-preserved c =
    let handlers = c.args.desc.now.handlers.items in
    let at = looks-at handlers c.as_slice-handler-items.result.now c.loop-index.index c.handler-item.result c.as_slice-handler-items.ensures.value c.loop-index-test.true c.handler-item.is in
    handler-is_other c.args.word.now c.as_bytes.result.now handlers c.loop-index.index c.handler-item.result c.is_same.result at c.as_bytes.ensures.value c.is_same.ensures c.if-is_same.false c.loop-index.invariant

pub returns-clause-value : goal.returns-clause-value
returns-clause-value c =
    handler-is_none c.args.word.now c.args.desc.now.handlers.items c.as_slice-handler-items.result.now c.loop-index.index c.as_slice-handler-items.ensures.value c.loop-index-test.false c.loop-index.invariant
