use Rattle.mate_journal.specs.Journal.{first_state}
use Rattle.journal_laws.proofs.Apart.{nothing_heard-orderly}
use Rattle.journal_laws.proofs.Progress.{never-stuck}
use Rattle.journal_laws.proofs.laws.is_never_stuck.Goals as goal

pub returns : goal.returns
returns c = λ m es right granted. never-stuck m (first_state m) 0 es right.follow granted (record { numbered = (nothing_heard-orderly m).numbered })
