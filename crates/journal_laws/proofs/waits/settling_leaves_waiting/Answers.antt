use Rattle.std.proofs.Common.{ap}
use Rattle.mate_journal.specs.Journal.{Invocation, state_after_entries}
use Rattle.journal_laws.proofs.Staying.{waits-same}
use Rattle.journal_laws.proofs.Settling.{settles-of_turns, stays-settled, awaited-settled}
use Rattle.journal_laws.proofs.waits.settling_leaves_waiting.Goals as goal

pub returns-clause-stays : goal.returns-clause-stays
returns-clause-stays c = λ m r p told q n settles follow waits.
    let same = stays-settled m r n told (settles-of_turns m r p told q settles) follow waits in
    (waits-same r (state_after_entries m r told) n same waits, ap (λ (i : Invocation). i.context) same)

pub returns-clause-awaits : goal.returns-clause-awaits
returns-clause-awaits c = λ m r p told q settles follow small. awaited-settled m r told (settles-of_turns m r p told q settles) follow small
