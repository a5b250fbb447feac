use Rattle.std.proofs.Common.{◌≡◌, drop}
use Rattle.audit_rules.specs.Same.{same_calls}
use Rattle.report_audit.proofs.same.same_calls.Given as goal

abbrev pub invariant-loop-i : goal.invariant-loop-i
invariant-loop-i l = same_calls (drop l.i l.a) (drop l.i l.b) ≡ same_calls l.a l.b
