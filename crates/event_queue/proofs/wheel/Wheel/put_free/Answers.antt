use Rattle.std.proofs.Common.{ℕ, refl, subst}
use Rattle.std.specs.Prelude.{Option, Some}
use Rattle.event_queue.specs.Wheel.{IsPast}
use Rattle.event_queue.proofs.WheelLemmas.{puts, live_now}
use Rattle.event_queue.proofs.wheel.Wheel.put_free.Goals as goal

pub returns : goal.returns
returns g c =
    let group = g.T.Grouped.group_of in
    let w = c.args.self.now in
    puts group w _ c.list_for-list.result c.move_first-place.result c.args.time (record { time = c.args.time; generation = c.generation_of-generation.result; item = Some c.args.item }) c.args.item c.requires.right
    c.requires.ahead c.list_for-list.ensures.value (record { moves = c.move_first-place.ensures; at = refl; generations = refl; entries = refl; marks = c.set_list.ensures.others; mark = c.set_list.ensures.set }) refl
    (live_now group w.generations c.generation_of-generation.result c.args.item c.group.result c.group.ensures.value c.generation_of-generation.ensures.current)
    (subst (λ (o : Option ℕ). IsPast w.generations c.generation_of-generation.result o) c.group.ensures.value c.generation_of-generation.ensures.past)
