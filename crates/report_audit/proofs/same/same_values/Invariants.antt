use Rattle.std.proofs.Common.{◌≡◌, drop}
use Rattle.audit_rules.specs.Same.{same_values}
use Rattle.report_audit.proofs.same.same_values.Given as goal

abbrev pub invariant-loop-i : goal.invariant-loop-i
invariant-loop-i l = same_values (drop l.i l.a) (drop l.i l.b) ≡ same_values l.a l.b
