use Rattle.std.proofs.Common.{◌≡◌, take}
use Rattle.audit_programs.specs.Kept.{answers_to}
use Rattle.audit_programs.proofs.kept.took.Given as goal

abbrev pub invariant-loop-i : goal.invariant-loop-i
invariant-loop-i l = take l.i (answers_to l.first) ≡ take l.i (answers_to l.calls)
