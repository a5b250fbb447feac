use Rattle.std.proofs.Common.{◌≡◌, ◌∙◌, sym, ap, refl, ℕ}
use Rattle.std.specs.Prelude.{slice_get, None}
use Rattle.event_queue.specs.Links.{list_at}
use Rattle.event_queue.specs.Wheel.{near, wheel_due}
use Rattle.event_queue.proofs.WheelLemmas.{due_none, not_some, keeps_both, keeps_dropped, keeps_start, takes_after, takes_none, unmarks}
use Rattle.event_queue.proofs.wheel.Wheel.take_first.Goals as goal

pub loop-self-init : goal.loop-self-init
loop-self-init g c = keeps_start _ _ c.requires

pub returns-then-is_some-clause-takes : goal.returns-then-is_some-clause-takes
returns-then-is_some-clause-takes g c = takes_after _ _ _ _ _ c.loop-self.invariant c.pop-item.ensures.takes

pub loop-self-preserved-else-is_some : goal.loop-self-preserved-else-is_some
loop-self-preserved-else-is_some g c =
    keeps_both _ _ _ _ c.loop-self.invariant (keeps_dropped _ _ _ _ c.pop-item.ensures.takes (not_some _ c.if-is_some.ensures))

pub loop-self-preserved : goal.loop-self-preserved
loop-self-preserved g c =
    keeps_both _ _ _ _ c.loop-self.invariant (keeps_dropped _ _ _ _ c.pop-item.ensures.takes (not_some _ c.if-is_some.ensures))

pub returns-clause-takes : goal.returns-clause-takes
returns-clause-takes g c =
    let w = c.loop-self.self in
    let group = g.T.Grouped.group_of in
    let nothing : slice_get (list_at w.chains (near w.at)) 0 ≡ None =
    ap (λ (s : ℕ). slice_get (list_at w.chains s) 0) (sym c.near_list.ensures.value) ∙ sym c.first.ensures.value ∙ not_some c.first.result c.loop-self-test.ensures in
    takes_none group c.args.self.now _ (keeps_both group c.args.self.now w _ c.loop-self.invariant (unmarks group w _ c.loop-self.invariant.right nothing c.clear.ensures refl))

pub returns-clause-none : goal.returns-clause-none
returns-clause-none g c =
    let w = c.loop-self.self in
    let kept = c.loop-self.invariant in
    let group = g.T.Grouped.group_of in
    let nothing : slice_get (list_at w.chains (near w.at)) 0 ≡ None =
    ap (λ (s : ℕ). slice_get (list_at w.chains s) 0) (sym c.near_list.ensures.value) ∙ sym c.first.ensures.value ∙ not_some c.first.result c.loop-self-test.ensures in
    sym (kept.same c.args.self.now.at) ∙ ap (λ (t : ℕ). wheel_due group w t) (sym kept.at) ∙ due_none group w kept.right nothing
