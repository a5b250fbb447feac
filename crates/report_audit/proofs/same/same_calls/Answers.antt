use Rattle.report_audit.proofs.SameLoops.{calls-longer}
use Rattle.report_audit.proofs.same.same_calls.Goals as goal

pub returns-then-a-b : goal.returns-then-a-b
returns-then-a-b c = calls-longer c.args.a.now c.args.b.now c.if-a-b.true
