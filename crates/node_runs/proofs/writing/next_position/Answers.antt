use Rattle.std.proofs.Common.{List, length, ap, arith}
use Rattle.mate_journal.specs.declared.entry.Stamped.{Stamped}
use Rattle.node_open.proofs.KeptLemmas.{count-kept}
use Rattle.node_runs.proofs.writing.next_position.Goals as goal

pub returns-clause-position : goal.returns-clause-position
returns-clause-position c =
    let count = count-kept _ _ c.kept.ensures.kept in
    let entries = ap (λ (es : List Stamped). length es) c.entries.ensures in
    omega (arith, count, entries)
