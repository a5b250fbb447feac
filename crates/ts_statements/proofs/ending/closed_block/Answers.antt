use Rattle.std.proofs.Common.{sym, subst}
use Rattle.ts_statements.specs.Ending.{ReadBlock, ClosedBlock}
use Rattle.ts_statements.proofs.EndingLemmas.{ended_missing}
use Rattle.ts_statements.proofs.ending.closed_block.Goals as goal

pub returns-in_err-rest : goal.returns-in_err-rest
returns-in_err-rest c =
    subst (λ (z : ReadBlock). ClosedBlock c.args.kind.now z c.from_residual-in_err-rest.result) (sym c.in_ok-block.was)
    (ended_missing c.args.kind.now (c.in_ok-block.block, c.in_ok-block.rest) c.from_residual-in_err-rest.result c.in_err-rest.field-0.0 c.from_residual-in_err-rest.ensures.1 c.in_err-rest.ensures)
