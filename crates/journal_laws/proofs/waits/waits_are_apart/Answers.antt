use Rattle.mate_journal.specs.Journal.{first_state, state_after_all}
use Rattle.journal_laws.proofs.WaitsApart.{apart-after, nothing_heard-apart, live-waits_apart, small-after, nothing_heard-small, live-waits_small}
use Rattle.journal_laws.proofs.waits.waits_are_apart.Goals as goal

pub returns-clause-apart : goal.returns-clause-apart
returns-clause-apart c = λ m es right. live-waits_apart (state_after_all m (first_state m) es) (apart-after m (first_state m) es right.follow (nothing_heard-apart m))

pub returns-clause-small : goal.returns-clause-small
returns-clause-small c = λ m few es right. live-waits_small (state_after_all m (first_state m) es) (small-after m (first_state m) es few right.follow (nothing_heard-small m))
