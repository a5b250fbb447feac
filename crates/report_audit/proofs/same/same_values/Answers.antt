use Rattle.report_audit.proofs.SameLoops.{values-longer}
use Rattle.report_audit.proofs.same.same_values.Goals as goal

pub returns-then-a-b : goal.returns-then-a-b
returns-then-a-b c = values-longer c.args.a.now c.args.b.now c.if-a-b.true
