use Rattle.std.proofs.Common.{◌≡◌, length, rules}
use Rattle.event_queue.proofs.MarkLemmas.{set_here, set_elsewhere}
use Rattle.event_queue.proofs.marks.Marks.set.Goals as goal

pub returns-clause-set : goal.returns-clause-set
returns-clause-set c =
    let long : length c.args.self.now.words ≡ 32 = search rules in
    set_here c.args.self.now.words c.args.slot long c.requires

pub returns-clause-others : goal.returns-clause-others
returns-clause-others c =
    let long : length c.args.self.now.words ≡ 32 = search rules in
    λ s other. set_elsewhere c.args.self.now.words c.args.slot s long c.requires other
