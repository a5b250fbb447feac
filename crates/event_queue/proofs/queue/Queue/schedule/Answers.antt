use Rattle.std.proofs.Common.{◌≡◌, ◌<◌, ◌∙◌, ap, arith}
use Rattle.event_queue.specs.View.{agenda_of}
use Rattle.event_queue.specs.Agenda.{Agenda}
use Rattle.event_queue.proofs.QueueLemmas.{scheduled_or_kept, adds_on_ok, late_adds, put_now}
use Rattle.event_queue.proofs.queue.Queue.schedule.Goals as goal

pub returns-clause-list : goal.returns-clause-list
returns-clause-list g c =
    scheduled_or_kept g.T.Grouped.group_of g.T.Grouped.numbered_of c.self.inside.until c.self.inside.plan c.as_mut.result.now c.put.new.self c.args.self.now c.args.time c.args.item c.put.result (ap (agenda_of g.T.Grouped.group_of g.T.Grouped.numbered_of c.self.inside.until c.self.inside.plan) c.as_mut.ensures.value ∙ c.self.view_is) c.if-time-self.false c.put.ensures

pub returns-clause-due : goal.returns-clause-due
returns-clause-due g c =
    adds_on_ok g.T.Grouped.group_of g.T.Grouped.numbered_of c.self.inside.until c.self.inside.plan c.as_mut.result.now c.put.new.self c.args.self.now c.args.time c.args.item c.put.result (ap (agenda_of g.T.Grouped.group_of g.T.Grouped.numbered_of c.self.inside.until c.self.inside.plan) c.as_mut.ensures.value ∙ c.self.view_is) c.if-time-self.false c.put.ensures

pub returns-then-time-self-clause-due : goal.returns-then-time-self-clause-due
returns-then-time-self-clause-due g c =
    let is : c.self.inside.until ≡ c.args.self.now.until = ap (λ (a : Agenda g.row.T.Denot). a.until) c.self.view_is in
    let after : c.args.self.now.until < c.args.time = omega (arith, is, c.if-time-self.true) in
    late_adds c.args.self.now c.args.time c.args.item after

pub returns-clause-now : goal.returns-clause-now
returns-clause-now g c =
    put_now g.T.Grouped.group_of g.T.Grouped.numbered_of c.self.inside.until c.self.inside.plan c.as_mut.result.now c.put.new.self c.args.self.now c.args.time c.args.item c.put.result (ap (agenda_of g.T.Grouped.group_of g.T.Grouped.numbered_of c.self.inside.until c.self.inside.plan) c.as_mut.ensures.value ∙ c.self.view_is) c.put.ensures
