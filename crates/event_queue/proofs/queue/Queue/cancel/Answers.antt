use Rattle.std.proofs.Common.{◌∙◌, ap}
use Rattle.event_queue.specs.View.{agenda_of}
use Rattle.event_queue.proofs.QueueLemmas.{cancels_all}
use Rattle.event_queue.proofs.queue.Queue.cancel.Goals as goal

pub returns : goal.returns
returns g c =
    cancels_all g.T.Grouped.group_of g.T.Grouped.numbered_of c.self.inside.until c.args.group c.self.inside.plan c.as_mut.result.now c.cancel.new.self c.args.self.now g.met.T.Grouped.stays
    (ap (agenda_of g.T.Grouped.group_of g.T.Grouped.numbered_of c.self.inside.until c.self.inside.plan) c.as_mut.ensures.value ∙ c.self.view_is) c.cancel.ensures
