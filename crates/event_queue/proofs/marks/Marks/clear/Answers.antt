use Rattle.std.proofs.Common.{◌≡◌, length, rules}
use Rattle.event_queue.proofs.MarkLemmas.{clear_elsewhere}
use Rattle.event_queue.proofs.marks.Marks.clear.Goals as goal

pub returns : goal.returns
returns c =
    let long : length c.args.self.now.words ≡ 32 = search rules in
    λ s other. clear_elsewhere c.args.self.now.words c.args.slot s long c.requires other
