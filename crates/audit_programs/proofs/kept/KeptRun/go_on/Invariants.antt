use Rattle.audit_programs.proofs.KeptLemmas.{GoesOn}
use Rattle.audit_programs.proofs.kept.KeptRun.go_on.Given as goal

abbrev pub invariant-instructions : goal.invariant-instructions
invariant-instructions l = GoesOn l.code l.turns l.left l.fn.self l.self

abbrev pub decreases-instructions : goal.decreases-instructions
decreases-instructions l = l.left
