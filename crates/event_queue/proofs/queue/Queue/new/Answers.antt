use Rattle.std.proofs.Common.{◌∙◌, ap}
use Rattle.event_queue.specs.View.{agenda_of}
use Rattle.event_queue.proofs.QueueLemmas.{made}
use Rattle.event_queue.proofs.queue.Queue.new.Goals as goal

pub returns-in-Ok : goal.returns-in-Ok
returns-in-Ok g c =
    ap (agenda_of g.T.Grouped.group_of g.T.Grouped.numbered_of c.args.until c.new-in-Ok.result) c.in-Ok.ensures.ok
    ∙ made g.T.Grouped.group_of g.T.Grouped.numbered_of c.args.until c.new-in-Ok.result c.in_ok-new.field-0 c.in_ok-new.ensures.at c.new-in-Ok.ensures.next c.new-in-Ok.ensures.times c.in_ok-new.ensures.none
