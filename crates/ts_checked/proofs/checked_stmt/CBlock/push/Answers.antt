use Rattle.std.proofs.lemmas.Result.{IfOk-from_err}
use Rattle.ts_checked.proofs.BlockLemmas.{block_kept, block_pushed}
use Rattle.ts_checked.proofs.FailureLemmas.{told_on_err}
use Rattle.ts_checked.proofs.checked_stmt.CBlock.push.Goals as goal

pub returns-in_err-push-clause-pushed : goal.returns-in_err-push-clause-pushed
returns-in_err-push-clause-pushed c = IfOk-from_err c.from_residual.result _ c.from_residual.ensures.0

pub returns-in_err-push-clause-kept : goal.returns-in_err-push-clause-kept
returns-in_err-push-clause-kept c = told_on_err c.from_residual.result (block_kept c.args.self.now (record { items = c.push.new.self }) c.in_err-push.ensures.items)

pub returns-clause-pushed : goal.returns-clause-pushed
returns-clause-pushed c = block_pushed c.args.self.now (record { items = c.push.new.self }) c.args.item c.in_ok-push.ensures.items

pub returns-clause-kept : goal.returns-clause-kept
returns-clause-kept c = tt
