use Rattle.std.proofs.Common.{sym, ◌∙◌, ap, subst, arith}
use Rattle.event_queue.specs.Agenda.{Comes}
use Rattle.event_queue.specs.View.{agenda_of, IsRightQueue}
use Rattle.event_queue.proofs.PlanLemmas.{first_within, first_some}
use Rattle.event_queue.proofs.QueueLemmas.{comes_before, right_before, comes_planned, right_planned, comes_alone, right_alone, all_none, idle_agenda, sought_agenda, back_again, right_back}
use Rattle.event_queue.proofs.queue.Queue.next.Goals as goal

-- where nothing is planned

pub returns-then-is_idle-clause-first : goal.returns-then-is_idle-clause-first
returns-then-is_idle-clause-first g c =
    let i = c.self.inside in
    idle_agenda g.T.Grouped.group_of g.T.Grouped.numbered_of i.until i.plan c.as_mut-wheel.result.now c.args.self.now
    (ap (agenda_of g.T.Grouped.group_of g.T.Grouped.numbered_of i.until i.plan) c.as_mut-wheel.ensures.value ∙ c.self.view_is) (sym c.in_default.ensures) (c.is_idle.ensures c.if-is_idle.true)

pub rewind-requires-clause-none : goal.rewind-requires-clause-none
rewind-requires-clause-none g c =
    let i = c.self.inside in
    all_none g.T.Grouped.group_of i.until i.plan c.as_mut-wheel.result.now c.seek.new.wheel
    (subst (IsRightQueue g.T.Grouped.group_of i.until i.plan) (sym c.as_mut-wheel.ensures.value) c.self.invariant) c.in_default-seek.ensures

pub invariant_of-self-in_default-seek : goal.invariant_of-self-in_default-seek
invariant_of-self-in_default-seek g c =
    let i = c.self.inside in
    right_back g.T.Grouped.group_of i.until i.plan c.as_mut-wheel.result.now c.seek.new.wheel c.rewind.new.self
    (subst (IsRightQueue g.T.Grouped.group_of i.until i.plan) (sym c.as_mut-wheel.ensures.value) c.self.invariant) c.in_default-seek.ensures c.rewind.ensures

pub returns-in_default-seek-clause-first : goal.returns-in_default-seek-clause-first
returns-in_default-seek-clause-first g c =
    let i = c.self.inside in
    sought_agenda g.T.Grouped.group_of g.T.Grouped.numbered_of i.until i.plan c.as_mut-wheel.result.now c.seek.new.wheel c.args.self.now
    (ap (agenda_of g.T.Grouped.group_of g.T.Grouped.numbered_of i.until i.plan) c.as_mut-wheel.ensures.value ∙ c.self.view_is) (sym c.in_default.ensures) c.in_default-seek.ensures

pub returns-in_default-seek-clause-none : goal.returns-in_default-seek-clause-none
returns-in_default-seek-clause-none g c =
    let i = c.self.inside in
    back_again g.T.Grouped.group_of g.T.Grouped.numbered_of i.until i.plan c.as_mut-wheel.result.now c.seek.new.wheel c.rewind.new.self c.args.self.now
    (ap (agenda_of g.T.Grouped.group_of g.T.Grouped.numbered_of i.until i.plan) c.as_mut-wheel.ensures.value ∙ c.self.view_is) c.in_default-seek.ensures c.rewind.ensures

pub invariant_of-self-in_default : goal.invariant_of-self-in_default
invariant_of-self-in_default g c =
    let i = c.self.inside in
    right_alone g.T.Grouped.group_of i.until i.plan c.as_mut-wheel.result.now c.seek.new.wheel c.in-Some-seek.item
    (subst (IsRightQueue g.T.Grouped.group_of i.until i.plan) (sym c.as_mut-wheel.ensures.value) c.self.invariant) (sym c.in_default.ensures) c.in-Some-seek.ensures

pub returns-in_default-clause-first : goal.returns-in_default-clause-first
returns-in_default-clause-first g c =
    let i = c.self.inside in
    comes_alone g.T.Grouped.group_of g.T.Grouped.numbered_of i.until i.plan c.as_mut-wheel.result.now c.seek.new.wheel c.args.self.now c.in-Some-seek.item
    (ap (agenda_of g.T.Grouped.group_of g.T.Grouped.numbered_of i.until i.plan) c.as_mut-wheel.ensures.value ∙ c.self.view_is) (sym c.in_default.ensures) c.in-Some-seek.ensures

-- up to the first of the plan

pub seek_before-requires-clause-below : goal.seek_before-requires-clause-below
seek_before-requires-clause-below g c =
    let i = c.self.inside in
    let in_time = (first_within i.plan i.wheel.value.at i.until c.in-Some.time c.self.invariant.plan (sym c.in-Some.ensures)).1 in
    let below = c.self.invariant.below in
    omega (arith, in_time, below)

pub seek_before-requires-clause-ahead : goal.seek_before-requires-clause-ahead
seek_before-requires-clause-ahead g c =
    let i = c.self.inside in
    let ahead = (first_within i.plan i.wheel.value.at i.until c.in-Some.time c.self.invariant.plan (sym c.in-Some.ensures)).0 in
    let same = ap (λ w. w.at) c.as_mut-wheel.ensures.value in
    omega (arith, ahead, same)

pub invariant_of-self-in-Some-seek_before : goal.invariant_of-self-in-Some-seek_before
invariant_of-self-in-Some-seek_before g c =
    let i = c.self.inside in
    right_before g.T.Grouped.group_of i.until c.in-Some.time i.plan c.as_mut-wheel.result.now c.seek_before.new.wheel c.in-Some-seek_before.item
    (subst (IsRightQueue g.T.Grouped.group_of i.until i.plan) (sym c.as_mut-wheel.ensures.value) c.self.invariant) (sym c.in-Some.ensures) c.in-Some-seek_before.ensures

pub returns-in-Some-seek_before-clause-first : goal.returns-in-Some-seek_before-clause-first
returns-in-Some-seek_before-clause-first g c =
    let i = c.self.inside in
    comes_before g.T.Grouped.group_of g.T.Grouped.numbered_of i.until c.in-Some.time i.plan c.as_mut-wheel.result.now c.seek_before.new.wheel c.args.self.now c.in-Some-seek_before.item
    (ap (agenda_of g.T.Grouped.group_of g.T.Grouped.numbered_of i.until i.plan) c.as_mut-wheel.ensures.value ∙ c.self.view_is)
    (subst (IsRightQueue g.T.Grouped.group_of i.until i.plan) (sym c.as_mut-wheel.ensures.value) c.self.invariant) (sym c.in-Some.ensures) c.in-Some-seek_before.ensures

pub pop-requires-clause-some : goal.pop-requires-clause-some
pop-requires-clause-some g c =
    let i = c.self.inside in
    first_some i.plan i.wheel.value.at i.until c.in-Some.time c.self.invariant.plan (sym c.in-Some.ensures)

pub invariant_of-self-2 : goal.invariant_of-self-2
invariant_of-self-2 g c =
    let i = c.self.inside in
    right_planned g.T.Grouped.group_of i.until c.in-Some.time i.plan c.pop.new.self c.as_mut-wheel.result.now c.seek_before.new.wheel
    (subst (IsRightQueue g.T.Grouped.group_of i.until i.plan) (sym c.as_mut-wheel.ensures.value) c.self.invariant) (sym c.in-Some.ensures) c.in_default-seek_before.ensures c.pop.ensures.takes

pub returns-clause-first : goal.returns-clause-first
returns-clause-first g c =
    let i = c.self.inside in
    let item = c.numbered-item.ensures ∙ ap g.T.Grouped.numbered_of c.pop.ensures.number in
    subst (λ (x : g.row.T.Denot). Comes c.args.self.now (record { time = c.in-Some.time; item = x }) (agenda_of g.T.Grouped.group_of g.T.Grouped.numbered_of i.until c.pop.new.self c.seek_before.new.wheel)) (sym item)
    (comes_planned g.T.Grouped.group_of g.T.Grouped.numbered_of i.until c.in-Some.time i.plan c.pop.new.self c.as_mut-wheel.result.now c.seek_before.new.wheel c.args.self.now
    (ap (agenda_of g.T.Grouped.group_of g.T.Grouped.numbered_of i.until i.plan) c.as_mut-wheel.ensures.value ∙ c.self.view_is)
    (subst (IsRightQueue g.T.Grouped.group_of i.until i.plan) (sym c.as_mut-wheel.ensures.value) c.self.invariant) (sym c.in-Some.ensures) c.in_default-seek_before.ensures c.pop.ensures.takes)
