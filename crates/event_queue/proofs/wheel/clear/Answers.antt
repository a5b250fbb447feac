use Rattle.std.proofs.Common.{◌∙◌, ap, set, arith}
use Rattle.event_queue.specs.declared.wheel.Entry.{Entry}
use Rattle.event_queue.specs.Wheel.{cleared, cleared_item}
use Rattle.std.proofs.lemmas.List.Edits.{map_over_more}
use Rattle.event_queue.proofs.CancelLemmas.{cleared_written}
use Rattle.event_queue.proofs.wheel.clear.Goals as goal

pub loop-entry-preserved : goal.loop-entry-preserved
loop-entry-preserved g c =
    let group = g.T.Grouped.group_of in
    let ys = c.loop-entry.entry-items in
    let i = c.loop-entry.entry-index in
    let x = c.entry-item.result in
    ap (λ (e : Entry g.row.T.Denot). set ys i e) (cleared_written group c.args.group ys i x c.without.result c.entry-item.is (c.without.ensures ∙ ap (cleared_item group c.args.group) c.take.ensures.value))
    ∙ map_over_more (cleared group c.args.group) c.deref_mut-entry-items.result.now ys i x (omega arith) c.loop-entry.invariant c.entry-item.is
