use Rattle.std.proofs.Common.{◌≡◌, ◌<◌, ◌≤◌, ◌-◌, ◌∙◌, sym, ap, ℕ, rules, arith, length, refl, subst}
use Rattle.event_queue.specs.Links.{list_at, MovesFirst}
use Rattle.event_queue.specs.Marks.{mark_at}
use Rattle.event_queue.specs.Wheel.{far, near}
use Rattle.event_queue.proofs.WheelLemmas.{first_moved, read_at, spreads_more, spreads_all}
use Rattle.std.specs.Prelude.{Some, slice_get}
use Rattle.event_queue.proofs.wheel.Wheel.spread.Goals as goal

pub index-requires : goal.index-requires
index-requires g c =
    let below = c.in-Some.ensures.below in
    let room = c.loop-place.invariant.turning.room in
    let within : c.in-Some.place < length c.loop-place.self.entries.items = omega (arith, below, room) in
    search rules

pub loop-place-preserved : goal.loop-place-preserved
loop-place-preserved g c =
    let group = g.T.Grouped.group_of in
    let w = c.loop-place.self in
    let so_far = c.loop-place.invariant in
    let e = c.index.result.now in
    let place = c.in-Some.place in
    let below = c.in-Some.ensures.below in
    let room = so_far.turning.room in
    let within : place < length w.entries.items = omega (arith, below, room) in
    let from : c.far_list-from.result ≡ far w.at = c.far_list-from.ensures.value ∙ ap far (sym so_far.at) in
    let there : slice_get (list_at w.chains c.far_list-from.result) 0 ≡ Some place = sym c.in-Some.ensures.value in
    let is : c.move_first.result ≡ place = first_moved (list_at w.chains c.far_list-from.result) _ place c.move_first.result there c.move_first.ensures.first in
    let moved_1 = subst (λ (s : ℕ). MovesFirst w.chains c.move_first.new.self s c.near_list-to.result c.move_first.result) from c.move_first.ensures in
    let moved_2 = subst (λ (s : ℕ). MovesFirst w.chains c.move_first.new.self (far w.at) s c.move_first.result) c.near_list-to.ensures.value moved_1 in
    let moved = subst (λ (p : ℕ). MovesFirst w.chains c.move_first.new.self (far w.at) (near e.time) p) is moved_2 in
    let mark = subst (λ (s : ℕ). s ≤ 2048 → mark_at c.set_list.new.self (s - 1) ≡ 1) c.near_list-to.ensures.value c.set_list.ensures.set in
    spreads_more group c.args.self.now w _ place e so_far refl refl refl moved (read_at w.entries.items place e within c.index.ensures) c.set_list.ensures.others mark

pub returns : goal.returns
returns g c =
    let w = c.loop-place.self in
    let so_far = c.loop-place.invariant in
    let from : c.far_list-from.result ≡ far w.at = c.far_list-from.ensures.value ∙ ap far (sym so_far.at) in
    spreads_all g.T.Grouped.group_of c.args.self.now w so_far (ap (λ (s : ℕ). slice_get (list_at w.chains s) 0) (sym from) ∙ sym c.first.ensures.value ∙ c.in_default.is)
