use Rattle.std.proofs.Common.{◌≡◌, ℕ, [], ap, subst, arith}
use Rattle.event_queue.specs.declared.wheel.Wheel.{Wheel}
use Rattle.event_queue.specs.Agenda.{Agenda}
use Rattle.event_queue.specs.Wheel.{wheel_due}
use Rattle.event_queue.proofs.QueueLemmas.{planned_or_kept, plan_adds, right_plans}
use Rattle.event_queue.proofs.queue.Queue.schedule_numbered.Goals as goal

pub invariant_of-self : goal.invariant_of-self
invariant_of-self g c =
    let now_is : c.self.inside.wheel.value.at ≡ c.args.self.now.now = ap (λ (a : Agenda g.row.T.Denot). a.now) c.self.view_is in
    let taken = c.takes.ensures.behind c.if-takes.true in
    right_plans g.T.Grouped.group_of c.self.inside.until c.self.inside.plan c.push.new.self c.self.inside.wheel.value c.args.time c.args.number c.push.result c.self.invariant c.if-time-self.true (omega (arith, now_is, c.requires)) taken.0 c.ranges.number.fits taken.1 c.push.ensures

pub returns-then-is_idle-clause-list : goal.returns-then-is_idle-clause-list
returns-then-is_idle-clause-list g c =
    planned_or_kept g.T.Grouped.group_of g.T.Grouped.numbered_of c.self.inside.until c.self.inside.plan c.push.new.self c.self.inside.wheel.value c.args.self.now c.args.time c.args.number c.push.result c.self.view_is c.self.invariant c.if-time-self.true
    (subst (λ (w : Wheel g.row.T.Denot). (t : ℕ) → wheel_due g.T.Grouped.group_of w t ≡ []) c.as_ref.ensures (c.is_idle.ensures c.if-is_idle.true)) (c.takes.ensures.behind c.if-takes.true).1 c.push.ensures

pub returns-then-is_idle-clause-due : goal.returns-then-is_idle-clause-due
returns-then-is_idle-clause-due g c =
    plan_adds g.T.Grouped.group_of g.T.Grouped.numbered_of c.self.inside.until c.self.inside.plan c.push.new.self c.self.inside.wheel.value c.args.self.now c.args.time c.args.number c.push.result c.self.view_is c.self.invariant c.if-time-self.true
    (subst (λ (w : Wheel g.row.T.Denot). (t : ℕ) → wheel_due g.T.Grouped.group_of w t ≡ []) c.as_ref.ensures (c.is_idle.ensures c.if-is_idle.true)) (c.takes.ensures.behind c.if-takes.true).1 c.push.ensures
