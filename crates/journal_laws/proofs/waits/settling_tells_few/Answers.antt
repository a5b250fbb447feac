use Rattle.mate_journal.specs.Journal.{first_state, state_after_all}
use Rattle.journal_laws.proofs.WaitsApart.{apart-after, nothing_heard-apart, small-after, nothing_heard-small}
use Rattle.journal_laws.proofs.Settling.{settles-of_turns}
use Rattle.journal_laws.proofs.FewAtOnce.{few-told}
use Rattle.journal_laws.proofs.waits.settling_tells_few.Goals as goal

pub returns : goal.returns
returns c = λ m few es right p told q settles follow.
    let n = first_state m in
    few-told m (state_after_all m n es) told (settles-of_turns m (state_after_all m n es) p told q settles) follow
    (apart-after m n es right.follow (nothing_heard-apart m)) (small-after m n es few right.follow (nothing_heard-small m))
