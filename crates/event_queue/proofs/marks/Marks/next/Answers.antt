use Rattle.std.proofs.Common.{◌<◌, ◌/◌, ◌^◌, get_or, arith, rules}
use Rattle.event_queue.proofs.MarkLemmas.{above_within, above_between, above_none, word_more, no_bits}
use Rattle.event_queue.proofs.marks.Marks.next.Goals as goal

pub returns-then-above-ne0-clause-within : goal.returns-then-above-ne0-clause-within
returns-then-above-ne0-clause-within c =
    let ws = c.args.self.now.words in
    let fits : get_or ws (c.args.slot / 64) 0 < 2 ^ 64 = search rules in
    let within = above_within ws c.args.slot c.lowest.result fits c.requires c.lowest.ensures.set in
    omega arith

pub returns-then-above-ne0-clause-between : goal.returns-then-above-ne0-clause-between
returns-then-above-ne0-clause-between c =
    let ws = c.args.self.now.words in
    let fits : get_or ws (c.args.slot / 64) 0 < 2 ^ 64 = search rules in
    above_between ws c.args.slot c.lowest.result fits c.requires c.lowest.ensures.set c.lowest.ensures.first

pub loop-word-init : goal.loop-word-init
loop-word-init c = above_none c.args.self.now.words c.args.slot c.if-above-ne0.false

pub returns-then-bits-ne0-clause-between : goal.returns-then-bits-ne0-clause-between
returns-then-bits-ne0-clause-between c =
    let ws = c.args.self.now.words in
    word_more ws c.args.slot c.loop-word.word c.lowest-then-bits-ne0.result (omega (arith, c.lowest-then-bits-ne0.ensures.within)) c.lowest-then-bits-ne0.ensures.first c.loop-word.invariant

pub loop-word-preserved : goal.loop-word-preserved
loop-word-preserved c = λ s after low.
    word_more c.args.self.now.words c.args.slot c.loop-word.word 64 (omega arith) (λ i under. no_bits _ c.if-bits-ne0.false i) c.loop-word.invariant s after (omega (arith, low))

pub returns-clause-between : goal.returns-clause-between
returns-clause-between c = λ s after low. c.loop-word.invariant s after (omega (arith, low))
