use Rattle.capsule_exchange.proofs.LawLemmas.{gap_asked, beyond_asked}
use Rattle.capsule_exchange.proofs.laws.gaps_are_asked_for.Goals as goal

pub returns-clause-empty : goal.returns-clause-empty
returns-clause-empty c = gap_asked

pub returns-clause-beyond : goal.returns-clause-beyond
returns-clause-beyond c = beyond_asked
