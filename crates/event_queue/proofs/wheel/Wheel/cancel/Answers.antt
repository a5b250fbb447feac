use Rattle.std.proofs.Common.{◌<◌, length, refl, rules}
use Rattle.event_queue.proofs.CancelLemmas.{cancels_next, cancels_anew}
use Rattle.event_queue.proofs.wheel.Wheel.cancel.Goals as goal

pub returns-then-generation : goal.returns-then-generation
returns-then-generation g c = cancels_anew g.T.Grouped.group_of c.args.group c.args.self.now _ c.requires.right refl refl c.clear.ensures refl refl

pub returns-else-generation : goal.returns-else-generation
returns-else-generation g c =
    let within : c.args.group < length c.args.self.now.generations = search rules in
    cancels_next g.T.Grouped.group_of c.args.group _ c.args.self.now _ c.requires.right within refl refl refl refl refl refl
