use Rattle.std.proofs.Common.{inl, refl}
use Rattle.mate_cli.proofs.audit.report_in.Goals as goal

pub returns-in-Err-BadLine-clause-does : goal.returns-in-Err-BadLine-clause-does
returns-in-Err-BadLine-clause-does c =
    let reads = rw c.in-Err-BadLine.field-0-is at c.in-Err-BadLine.ensures.reads in
    inl (c.in-Err-BadLine.line, reads, refl)
