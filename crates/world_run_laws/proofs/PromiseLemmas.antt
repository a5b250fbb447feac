-- What follows of each node's journal.
use Rattle.std.proofs.Common.{List, arith, subst, All, get_or}
use Rattle.std.specs.Prelude.{IsSomeAnd}
use Rattle.std.proofs.lemmas.Option.{slice_get-get_or}
use Rattle.mate_journal.specs.Log.{Log}
use Rattle.mate_journal.specs.Journal.{first_state, journal_of}
use Rattle.mate_journal.specs.Journal.{TimedEntry as Entered}
use Rattle.mate_journal.specs.WellFormed.{IsWellFormed}
use Rattle.mate_journal.specs.Grants.{GrantsInOrder}
use Rattle.mate_journal.specs.NodeScript.{RunEnd}
use Rattle.mate_journal.specs.declared.report.Report.{Report}
use Rattle.world_rules.specs.World.{World}
use Rattle.world_rules.specs.Report.{IsLogOf, IsWorldReport}

-- what follows of a well-formed journal that keeps the grant rule holds of each node's
pub each-journal : (w : World) (how : RunEnd) (r : Report) (P : List Entered → Type 0) → ((es : List Entered) → IsWellFormed w.machine (first_state w.machine) es → GrantsInOrder w.machine (first_state w.machine) 0 es → P es)
    → IsWorldReport w how r → All (λ (l : Log). P (journal_of l)) r.nodes
each-journal w how r P law of k x below =
    let count = of.nodes in
    let log : IsLogOf w how of.moments k (get_or r.nodes k x) = subst (λ o. IsSomeAnd o (IsLogOf w how of.moments k)) (slice_get-get_or r.nodes k x below) (of.logs k (omega (arith, below, count))) in
    law (journal_of (get_or r.nodes k x)) log.right.well_formed log.right.grants
