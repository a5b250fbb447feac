use Rattle.mate_journal.specs.Journal.{first_state, state_after_all}
use Rattle.journal_laws.proofs.Staying.{goes_on-told, journal-numbered}
use Rattle.journal_laws.proofs.waits.waiting_goes_on.Goals as goal

pub returns : goal.returns
returns c = λ m es told n right follow waits none. goes_on-told m (state_after_all m (first_state m) es) n told (journal-numbered m es right) follow waits none
