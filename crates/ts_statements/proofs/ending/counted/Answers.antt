use Rattle.std.proofs.Common.{sym, subst}
use Rattle.ts_statements.specs.Ending.{ReadBlock, Counted}
use Rattle.ts_statements.proofs.EndingLemmas.{next_missing, last_missing}
use Rattle.ts_statements.proofs.ending.counted.Goals as goal

pub returns-in_err-rest : goal.returns-in_err-rest
returns-in_err-rest c =
    subst (λ (z : ReadBlock). Counted z c.from_residual-in_err-rest.result) (sym c.in_ok-block.was)
    (next_missing (c.in_ok-block.block, c.in_ok-block.rest) c.from_residual-in_err-rest.result c.in_err-rest.field-0.0 c.from_residual-in_err-rest.ensures.1 c.in_err-rest.ensures)

pub returns-in_err-last : goal.returns-in_err-last
returns-in_err-last c =
    subst (λ (z : ReadBlock). Counted z c.from_residual-in_err-last.result) (sym c.in_ok-block.was)
    (last_missing (c.in_ok-block.block, c.in_ok-block.rest) c.in_ok-rest.rest.now c.in_ok-rest.ensures c.from_residual-in_err-last.result c.in_err-last.field-0.0 c.from_residual-in_err-last.ensures.1 c.in_err-last.ensures)
