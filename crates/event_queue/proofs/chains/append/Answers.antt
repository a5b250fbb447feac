use Rattle.std.proofs.Common.{rules}
use Rattle.event_queue.proofs.LinkLemmas.{last_below, appends_first, appends_more}
use Rattle.event_queue.proofs.chains.append.Goals as goal

pub index_mut-requires-2 : goal.index_mut-requires-2
index_mut-requires-2 c =
    let below = last_below c.args.next.now.items c.args.heads.now.items c.args.list c.index-end.result.now c.requires.linked c.requires.within c.index-end.ensures c.if-end-eq0.false in
    search rules

pub returns-then-end-eq0 : goal.returns-then-end-eq0
returns-then-end-eq0 c = appends_first _ _ _ _ _ c.requires.linked c.requires.within c.requires.below c.requires.alone c.index-end.ensures c.if-end-eq0.true

pub returns : goal.returns
returns c = appends_more _ _ _ _ _ c.requires.linked c.requires.within c.requires.below c.requires.alone c.index-end.ensures c.if-end-eq0.false
