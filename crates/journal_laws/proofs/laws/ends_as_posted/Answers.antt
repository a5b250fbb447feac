use Rattle.mate_journal.specs.Journal.{first_state}
use Rattle.journal_laws.proofs.Append.{GrantsInOrder-before}
use Rattle.journal_laws.proofs.Apart.{nothing_heard-orderly}
use Rattle.journal_laws.proofs.Order.{ends-in_order}
use Rattle.journal_laws.proofs.laws.ends_as_posted.Goals as goal

pub returns : goal.returns
returns c = λ m es right granted. ends-in_order m (first_state m) 0 es right.follow (GrantsInOrder-before m (first_state m) 0 es granted) (nothing_heard-orderly m)
