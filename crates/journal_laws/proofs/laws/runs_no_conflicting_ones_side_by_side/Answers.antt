use Rattle.mate_journal.specs.Journal.{first_state}
use Rattle.journal_laws.proofs.Append.{GrantsInOrder-before}
use Rattle.journal_laws.proofs.Apart.{nothing_heard-orderly, apart-along}
use Rattle.journal_laws.proofs.laws.runs_no_conflicting_ones_side_by_side.Goals as goal

pub returns : goal.returns
returns c = λ m es right granted. apart-along m (first_state m) 0 es right.follow (GrantsInOrder-before m (first_state m) 0 es granted) (nothing_heard-orderly m)
