use Rattle.std.proofs.Common.{◌++◌}
use Rattle.ts_proc_texts.specs.Rest.{block_tokens, close_tokens}
use Rattle.ts_proc_texts.proofs.ProgressLemmas.{with_more}
use Rattle.ts_proc_texts.proofs.TokenLemmas.{block_first}
use Rattle.ts_proc_texts.proofs.advance.advance.Goals as goal

pub returns-in-Some-clause-prints : goal.returns-in-Some-clause-prints
returns-in-Some-clause-prints g c =
    let procs = c.args.bodies.now.plan.heads.procs.now in
    let place = c.args.rest.place in
    let close = close_tokens procs place c.args.rest.close in
    with_more (block_tokens procs place c.in-Some.stmts.now ++ close) (block_first procs place c.args.rest.stmts.now c.in-Some.stmts.now c.in-Some.stmt.now close c.in-Some.ensures.cases.0) c.statement-inner.ensures.prints
