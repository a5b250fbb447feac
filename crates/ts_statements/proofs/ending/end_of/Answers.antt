use Rattle.ts_statements.proofs.EndingLemmas.{end_missing, name_taken}
use Rattle.ts_statements.proofs.ending.end_of.Goals as goal

pub returns-in_err-rest : goal.returns-in_err-rest
returns-in_err-rest c = end_missing c.args.kind.now c.args.tokens.now c.from_residual.result c.in_err-rest.field-0.0 c.from_residual.ensures.1 c.in_err-rest.ensures

pub returns : goal.returns
returns c = name_taken c.args.kind.now c.args.tokens.now c.in_ok-rest.rest.now c.in_ok-rest.ensures c.expect-2.result c.expect-2.ensures
