use Rattle.std.proofs.Common.{rules}
use Rattle.event_queue.proofs.LinkLemmas.{first_below, unlinks_read}
use Rattle.event_queue.proofs.chains.unlink.Goals as goal

pub index-requires : goal.index-requires
index-requires c =
    let below = first_below c.args.next.now.items c.args.heads.now.items c.args.list c.index-head.result.now c.requires.linked c.requires.within c.requires.some c.index-head.ensures in
    search rules

pub returns : goal.returns
returns c = unlinks_read _ _ _ c.index-head.result.now c.index.result.now c.requires.linked c.requires.within c.requires.some c.index-head.ensures c.index.ensures
