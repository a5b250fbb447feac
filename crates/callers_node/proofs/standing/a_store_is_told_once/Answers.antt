use Rattle.std.proofs.Common.{◌∙◌, ◌+◌, List, length, ap, add-one}
use Rattle.mate_journal.specs.Journal.{JournalEntry}
use Rattle.callers_node.proofs.standing.a_store_is_told_once.Goals as goal

pub returns : goal.returns
returns c = λ p has.
    let t = c.seen.ensures in
    c.told.ensures.count ∙ t.grows.count ∙ ap (λ (told : List JournalEntry). length c.args.node.now.log.entries + length told) (t.paces p has).1.0.made
    ∙ add-one (length c.args.node.now.log.entries)
