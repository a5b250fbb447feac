use Rattle.std.proofs.Common.{ℕ, ◌<◌, length, set, refl, arith, subst, ap, ◌∙◌}
use Rattle.std.specs.Prelude.{Option}
use Rattle.event_queue.specs.Links.{MovesFirst}
use Rattle.event_queue.specs.Wheel.{live_item}
use Rattle.event_queue.proofs.WheelLemmas.{pops, read_at}
use Rattle.event_queue.proofs.wheel.Wheel.pop.Goals as goal

pub returns-clause-takes : goal.returns-clause-takes
returns-clause-takes g c =
    let group = g.T.Grouped.group_of in
    let w = c.args.self.now in
    let e = c.index_mut-entry.result.now in
    let place = c.move_first-place.result in
    let below = c.move_first-place.ensures.below in
    let room = c.requires.right.turning.room in
    let within : place < length w.entries.items = omega (arith, below, room) in
    let moved = subst (λ (s : ℕ). MovesFirst w.chains c.move_first-place.new.self s 0 place) c.near_list.ensures.value c.move_first-place.ensures in
    pops group w _ place e c.live.result c.requires.right moved refl refl
    (ap (λ (o : Option g.row.T.Denot). set w.entries.items place (record { time = e.time; generation = e.generation; item = o })) c.take-item.ensures.after)
    (read_at w.entries.items place e within c.index_mut-entry.ensures.value)
    (c.live.ensures ∙ ap (λ (o : Option g.row.T.Denot). live_item group w.generations e.generation o) c.take-item.ensures.value) refl
